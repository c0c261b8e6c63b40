-- The faults of a stage's parameters.
use Rattle.std.specs.Prelude.{ℕ, cond, ◌||◌, Some, None, Ok, Err, Option, Result, ◌==◌}
pub use Rattle.origins.specs.Faults.{Fault}
use Rattle.stage.specs.declared.ParameterFault.{ParameterFault}
use Rattle.stage.specs.declared.ParameterFault.TheVariants.{Form, Range}

-- a fault of what a stage is made of, at no line: a built-in stage has none
abbrev pub unplaced : ℕ → Fault
unplaced n = record { layer = 1; number = n; position = 0 }

-- the numbers that a description's line would get
abbrev pub parameter_fault : ParameterFault → Fault
parameter_fault Form = unplaced 2
parameter_fault Range = unplaced 3

-- the fault of an answer, if it is one
abbrev pub fault_of : {X : Type 0} → Result X ParameterFault → Option Fault
fault_of (Ok x) = None
fault_of (Err f) = Some (parameter_fault f)

-- a width to test for, or a width or alignment to raise to, is 2, 4 or 8
abbrev pub width_fault : ℕ → Option Fault
width_fault n = cond (n == 2 || n == 4 || n == 8) None (Some (unplaced 3))
