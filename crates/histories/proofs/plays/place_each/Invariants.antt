use Rattle.std.proofs.Common.{◌≡◌, IsTrue, drop}
use Rattle.std.specs.List.{FoldsTo}
use Rattle.allocation.specs.States.{state}
use Rattle.histories.specs.Events.{told, places}
use Rattle.histories.specs.Histories.{answers}
use Rattle.histories.proofs.plays.place_each.Given as goal

-- what is left of the list is heard as the whole was, and is answered alike just where the whole is
abbrev pub invariant-loop-asked : goal.invariant-loop-asked
invariant-loop-asked g l =
    let left = drop l.asked-index l.since in
    ((last : _) → FoldsTo g.L.Listener.hears l.listener (told (state g.P.Stage l.one) (places left)) last → FoldsTo g.L.Listener.hears l.initial.listener (told (state g.P.Stage l.initial.one) (places l.since)) last)
    × ((last : _) → FoldsTo g.M.Listener.hears l.counterpart (told (state g.Q.Stage l.other) (places left)) last → FoldsTo g.M.Listener.hears l.initial.counterpart (told (state g.Q.Stage l.initial.other) (places l.since)) last)
    × (IsTrue l.alike → answers (state g.P.Stage l.one) left ≡ answers (state g.Q.Stage l.other) left → answers (state g.P.Stage l.initial.one) l.since ≡ answers (state g.Q.Stage l.initial.other) l.since)
    × (answers (state g.P.Stage l.initial.one) l.since ≡ answers (state g.Q.Stage l.initial.other) l.since → IsTrue l.alike × (answers (state g.P.Stage l.one) left ≡ answers (state g.Q.Stage l.other) left))
