-- Answers as they are heard.
use Rattle.std.specs.Prelude.{ℕ, Option, Result}
use Rattle.place.specs.declared.pieces.Place.{Place}
use Rattle.allocation.specs.Faults.{Answer, answer_of, line_of}
use Rattle.allocation.specs.Rules.{place_answer, blamed_line}
use Rattle.allocation.specs.States.{State}
use Rattle.allocation.specs.declared.asked.Asked.{Asked}
use Rattle.allocation.specs.declared.faults.PlacementFault.{PlacementFault}

-- an answer, with the line of the stage that refused, where one did
pub record Heard : Type 0 where
  pub answer : Answer
  pub line : Option ℕ

abbrev pub heard_of : Result Place PlacementFault → Heard
heard_of r = record { answer = answer_of r; line = line_of r }

-- what is heard of a request by the rules
abbrev pub heard_at : State → Asked → Heard
heard_at s q = record { answer = place_answer s q; line = blamed_line s q }
