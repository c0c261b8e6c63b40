-- Words for the promises of the private functions that find an instruction and see whether it can be done.
use Rattle.std.specs.Prelude.{◌≡◌, ℕ, true, is_some, Some, None, Option}
use Rattle.machine.specs.declared.Instruction.{Instruction}
use Rattle.machine.specs.declared.Mode.{Mode}
use Rattle.machine.specs.declared.Mode.TheVariants.{Running, Ended}
use Rattle.machine.specs.Machine.{Contents, State, carried_out}

-- the state after an instruction in this mode
abbrev pub carried : Mode → Contents → Instruction → Option State
carried (Running side n) x i = carried_out side n x i
carried Ended x i = None

-- what a fetch found leads to the next state: None where there is none, else an instruction that can be done
abbrev pub LeadsTo : Option Instruction → Mode → Contents → Option State → Type 0
LeadsTo None m x t = t ≡ None
LeadsTo (Some i) m x t = (t ≡ carried m x i) × (is_some (carried m x i) ≡ true)

-- the index of a mode
abbrev pub index_of : Mode → ℕ
index_of (Running _ n) = n
index_of Ended = 0
