use Rattle.std.proofs.Common.{◌≡◌, drop}
use Rattle.std.specs.List.{FoldsTo}
use Rattle.allocation.specs.States.{state, opened}
use Rattle.histories.specs.Events.{became, told}
use Rattle.histories.proofs.plays.play.Given as goal

-- what is left of the past comes out, and is heard, as the whole was
abbrev pub invariant-loop-event : goal.invariant-loop-event
invariant-loop-event g l =
    let start = opened (g.P.Stage.profile l.fn.used.pile) in
    (became (state g.P.Stage l.allocation) (drop l.event-index l.past) ≡ became start l.past)
    × ((last : _) → FoldsTo g.L.Listener.hears l.listener (told (state g.P.Stage l.allocation) (drop l.event-index l.past)) last → FoldsTo g.L.Listener.hears l.fn.listener (told start l.past) last)
