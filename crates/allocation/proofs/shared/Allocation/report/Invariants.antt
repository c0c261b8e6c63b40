use Rattle.std.proofs.Common.{◌≡◌, ◌≤◌, filter, length, take}
use Rattle.values.specs.Types.{all_types}
use Rattle.allocation.specs.States.{state, always_placed}
use Rattle.allocation.proofs.shared.Allocation.report.Given as goal

abbrev pub invariant-loop-value : goal.invariant-loop-value
invariant-loop-value g l =
    (l.value-items ≡ all_types)
    × (l.placed.items ≡ filter (always_placed (state g.P.Stage l.self).profile.questions) (take l.value-index all_types))
    × (length l.placed.items ≤ l.value-index)
