-- The faults of placing, by number and position.
use Rattle.std.specs.Prelude.{ℕ, Some, None, Ok, Err, Option, Result}
use Rattle.place.specs.declared.pieces.Place.{Place}
use Rattle.stage.specs.Faults.{Fault}
use Rattle.allocation.specs.declared.faults.Cause.{Cause}
use Rattle.allocation.specs.declared.faults.Cause.TheVariants.{NotAType, Full, Unsound, Refused}
use Rattle.allocation.specs.declared.faults.PlacementFault.{PlacementFault}

-- each cause has a number, lowest first
abbrev pub cause_number : Cause → ℕ
cause_number NotAType = 21
cause_number Full = 22
cause_number Unsound = 23
cause_number (Refused f) = 24

-- a fault is its number and its position; the line of a refusal is no part of it
abbrev pub placement_fault : PlacementFault → Fault
placement_fault f = record { layer = 2; number = cause_number f.cause; position = f.position }

-- a place, or a fault
abbrev pub Answer : Type 0
Answer = Result Place Fault

-- an answer of place, as the definitions have it
abbrev pub answer_of : Result Place PlacementFault → Answer
answer_of (Ok p) = Ok p
answer_of (Err f) = Err (placement_fault f)

-- the line of the stage that refused, where one did
abbrev pub cause_line : Cause → Option ℕ
cause_line NotAType = None
cause_line Full = None
cause_line Unsound = None
cause_line (Refused f) = Some f.line

-- the line of an answer that is a refusal of the pile
abbrev pub line_of : Result Place PlacementFault → Option ℕ
line_of (Ok p) = None
line_of (Err f) = cause_line f.cause

-- an answer whose refusal has a position
abbrev pub positioned : ℕ → Result Place Cause → Result Place PlacementFault
positioned n (Ok p) = Ok p
positioned n (Err c) = Err (record { cause = c; position = n })
