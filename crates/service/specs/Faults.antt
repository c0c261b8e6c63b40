-- The faults of the stub call.
use Rattle.std.specs.Prelude.{ℕ, List, Option, Some, Result, Ok, Err}
use Rattle.origins.specs.Faults.{Fault as Located, fault_text}
use Rattle.pages.specs.Faults.{text_fault, shown}
use Rattle.signatures.specs.Faults.{signature_fault_of}
use Rattle.call_faults.specs.Faults.{call_fault_of}
use Rattle.call_faults.specs.declared.CallFault.{CallFault}
use Rattle.service.specs.declared.faults.Fault.{Fault}
use Rattle.service.specs.declared.faults.Fault.TheVariants.{Description, Signature, Call}

-- a fault is that of the layer that refused; want of memory has no number
abbrev pub fault_of : Fault → Option Located
fault_of (Description f) = text_fault f
fault_of (Signature f) = Some (signature_fault_of f)
fault_of (Call f) = Some (call_fault_of f)

-- an answer of a call, with its fault in that of the service
abbrev pub answer_of : {X : Type 0} → Result X CallFault → Result X Fault
answer_of (Ok x) = Ok x
answer_of (Err f) = Err (Call f)

-- how a fault is written
abbrev pub written : Fault → List ℕ
written (Description f) = shown f
written (Signature f) = fault_text (signature_fault_of f)
written (Call f) = fault_text (call_fault_of f)
