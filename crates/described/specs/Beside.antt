-- Stages that answer alike, seen by their ghost members.
use Rattle.std.specs.Prelude.{◌≡◌}
use Rattle.stage.specs.Books.{Profile, Alike}
use Rattle.stage.specs.Clearing.{Begins}
use Rattle.stage.specs.declared.Stage.{Ghosts}

-- stages that answer every list of requests alike, from here on and whenever they are cleared
pub record AnswerAlike {S P : Type 0} (g : Ghosts S) (h : Ghosts P) (s : S) (p : P) : Type 0 where
  pub equal_books : g.book s ≡ h.book p
  pub alike : Alike (g.profile s) (h.profile p)

-- stages that begin with these profiles
abbrev pub BothBegin : {S P : Type 0} → Ghosts S → Ghosts P → Profile → Profile → S → P → Type 0
BothBegin g h b d s p = Begins g b s × Begins h d p
