-- Stages at their beginning.
use Rattle.stage.specs.Books.{Cleared, Profile}
use Rattle.stage.specs.declared.Stage.{Ghosts}

-- a stage, seen by its ghost members, that has this profile and is at its beginning
abbrev pub Begins : {S : Type 0} → Ghosts S → Profile → S → Type 0
Begins g p s = Cleared (g.book s) (g.blame s) (g.profile s) p
