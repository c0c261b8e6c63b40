-- The faults of code.
use Rattle.std.specs.Prelude.{ℕ, Some, None, Ok, Err, Option, Result}
pub use Rattle.origins.specs.Faults.{Fault}
use Rattle.emit.specs.declared.faults.CodeFault.{CodeFault}
use Rattle.emit.specs.declared.faults.CodeFault.TheVariants.{Kept, Results, Body, TooShort}

-- the number of each fault
abbrev pub code_number : CodeFault → ℕ
code_number Kept = 31
code_number Results = 32
code_number (Body i) = 33
code_number TooShort = 34

-- an instruction of a body has an index; the other faults are nowhere
abbrev pub code_position : CodeFault → ℕ
code_position Kept = 0
code_position Results = 0
code_position (Body i) = i
code_position TooShort = 0

abbrev pub code_fault_of : CodeFault → Fault
code_fault_of f = record { layer = 3; number = code_number f; position = code_position f }

-- the fault of an answer, if it is one
abbrev pub fault_in : {X : Type 0} → Result X CodeFault → Option Fault
fault_in (Ok x) = None
fault_in (Err f) = Some (code_fault_of f)
