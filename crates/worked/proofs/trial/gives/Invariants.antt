use Rattle.std.proofs.Common.{◌≡◌, drop}
use Rattle.allocation.specs.States.{state}
use Rattle.histories.specs.Histories.{placed_all}
use Rattle.worked.proofs.Turns.{AsExpected}
use Rattle.worked.specs.Trials.{asks}
use Rattle.worked.proofs.trial.gives.Given as goal

-- the answers that are left are as expected just where all of them are, and lead to the same state
abbrev pub invariant-loop-line : goal.invariant-loop-line
invariant-loop-line g l =
    (AsExpected (state g.P.Stage l.allocation) (drop l.line-index l.lines) → AsExpected (state g.P.Stage l.initial.allocation) l.lines)
    × (AsExpected (state g.P.Stage l.initial.allocation) l.lines → AsExpected (state g.P.Stage l.allocation) (drop l.line-index l.lines))
    × (placed_all (state g.P.Stage l.allocation) (asks (drop l.line-index l.lines)) ≡ placed_all (state g.P.Stage l.initial.allocation) (asks l.lines))
