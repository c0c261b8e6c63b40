use Rattle.sides.specs.Layers.{choose_alike}
use Rattle.described.proofs.Beginnings.{begin_alike}
use Rattle.described.proofs.beside.Beside.choose.Goals as goal

pub invariant_of-result : goal.invariant_of-result
invariant_of-result g c =
    let here = c.new-built_in.ensures.means_choose in
    let there = c.in_ok-described.ensures.chooses_by_the_test in
    record { answer_alike = begin_alike _ _ _ _ _ _ here there (choose_alike _ _ _ _ _ c.args.self.answer_alike.alike c.args.second.answer_alike.alike) }
