use Rattle.sides.specs.Layers.{over_alike}
use Rattle.described.proofs.Beginnings.{begin_alike}
use Rattle.described.proofs.beside.Beside.over.Goals as goal

pub invariant_of-result : goal.invariant_of-result
invariant_of-result g c =
    let here = c.new-built_in.ensures.means_over in
    let there = c.in_ok-described.ensures.second_gets_what_the_first_refuses in
    record { answer_alike = begin_alike _ _ _ _ _ _ here there (over_alike _ _ _ _ c.args.self.answer_alike.alike c.args.second.answer_alike.alike) }
