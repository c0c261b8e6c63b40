-- The faults of a call.
use Rattle.std.specs.Prelude.{Some, None, Ok, Err, Option, Result}
use Rattle.origins.specs.Faults.{Fault}
use Rattle.allocation.specs.Faults.{placement_fault}
use Rattle.emit.specs.Faults.{code_fault_of}
use Rattle.machine.specs.Faults.{run_fault}
use Rattle.call_faults.specs.declared.CallFault.{CallFault}
use Rattle.call_faults.specs.declared.CallFault.TheVariants.{Placement, Code, Run}

-- a fault is that of the layer that refused
abbrev pub call_fault_of : CallFault → Fault
call_fault_of (Placement f) = placement_fault f
call_fault_of (Code f) = code_fault_of f
call_fault_of (Run f) = run_fault f

-- the fault of an answer, if it is one
abbrev pub fault_in : {X : Type 0} → Result X CallFault → Option Fault
fault_in (Ok x) = None
fault_in (Err f) = Some (call_fault_of f)
