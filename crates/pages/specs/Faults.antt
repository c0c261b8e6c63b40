-- The faults of descriptions.
use Rattle.std.specs.Prelude.{ℕ, List, Option, Some, None, codes}
use Rattle.origins.specs.Faults.{Fault, fault_text}
use Rattle.pages.specs.declared.faults.Cause.{Cause}
use Rattle.pages.specs.declared.faults.Cause.TheVariants.{Length, Form, Range, Stage, Count}
use Rattle.pages.specs.declared.faults.DescriptionFault.{DescriptionFault}
use Rattle.pages.specs.declared.faults.DescriptionFault.TheVariants.{Text, Memory}

abbrev pub cause_number : Cause → ℕ
cause_number Length = 1
cause_number Form = 2
cause_number Range = 3
cause_number Stage = 4
cause_number Count = 5

-- a fault with a number, at a line
abbrev pub fault : ℕ → ℕ → Fault
fault n line = record { layer = 1; number = n; position = line }

-- a fault of the text; want of memory is none
abbrev pub text_fault : DescriptionFault → Option Fault
text_fault (Text c line) = Some (fault (cause_number c) line)
text_fault Memory = None

-- how a fault is written
abbrev pub shown : DescriptionFault → List ℕ
shown (Text c line) = fault_text (fault (cause_number c) line)
shown Memory = codes "no memory for the piles"
