use Rattle.adjust.specs.AdjustingLemmas.{map_alike}
use Rattle.described.proofs.Beginnings.{begin_alike}
use Rattle.described.proofs.beside.Beside.adjust.Goals as goal

pub invariant_of-result : goal.invariant_of-result
invariant_of-result g c =
    let here = c.new-built_in.ensures.means_the_change_in_front in
    let there = c.in_ok-described.ensures.changes_what_goes_below in
    record { answer_alike = begin_alike _ _ _ _ _ _ here there (map_alike _ _ _ c.args.self.answer_alike.alike) }
