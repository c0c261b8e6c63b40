-- Why a run is refused.
use Rattle.std.specs.Prelude.{ℕ, Some, None, Ok, Err, Option, Result, if◌then◌else◌, nat_lt}
pub use Rattle.origins.specs.Faults.{Fault}
use Rattle.machine.specs.declared.RunFault.{RunFault}
use Rattle.machine.specs.declared.RunFault.TheVariants.{MemoryTooLarge}

-- a run is nowhere in a text: its position is 0
abbrev pub run_fault : RunFault → Fault
run_fault MemoryTooLarge = record { layer = 4; number = 51; position = 0 }

-- the fault of an answer, if it is one
abbrev pub fault_in : {X : Type 0} → Result X RunFault → Option Fault
fault_in (Ok x) = None
fault_in (Err f) = Some (run_fault f)

-- a memory has at most 65,536 bytes
abbrev pub memory_fault : ℕ → Option Fault
memory_fault bytes = if nat_lt 65536 bytes then Some (run_fault MemoryTooLarge) else None
