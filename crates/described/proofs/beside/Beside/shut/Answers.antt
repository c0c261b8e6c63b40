use Rattle.shut.specs.ShuttingLemmas.{shut_alike}
use Rattle.described.proofs.Beginnings.{begin_alike}
use Rattle.described.proofs.beside.Beside.shut.Goals as goal

pub invariant_of-result : goal.invariant_of-result
invariant_of-result g c =
    let here = c.new-built_in.ensures.means_shut in
    let there = c.in_ok-described.ensures.closes_on_its_line in
    record { answer_alike = begin_alike _ _ _ _ _ _ here there (shut_alike _ _ _ _ c.args.self.answer_alike.alike) }
