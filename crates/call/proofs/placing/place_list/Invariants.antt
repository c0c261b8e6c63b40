use Rattle.std.proofs.Common.{◌≡◌, drop}
use Rattle.allocation.specs.States.{state}
use Rattle.call.specs.Placing.{placed_until, first_refused, first_blamed}
use Rattle.call.proofs.placing.place_list.Given as goal

-- what is left of the list comes out as the whole did
abbrev pub invariant-loop-asked : goal.invariant-loop-asked
invariant-loop-asked g l =
    (placed_until (state g.P.Stage l.allocation) (drop l.asked-index l.list) ≡ placed_until (state g.P.Stage l.initial.allocation) l.list)
    × (first_refused (state g.P.Stage l.allocation) (drop l.asked-index l.list) ≡ first_refused (state g.P.Stage l.initial.allocation) l.list)
    × (first_blamed (state g.P.Stage l.allocation) (drop l.asked-index l.list) ≡ first_blamed (state g.P.Stage l.initial.allocation) l.list)
