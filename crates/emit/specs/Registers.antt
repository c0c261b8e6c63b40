-- The registers that instructions write, and those of a set.
use Rattle.std.specs.Prelude.{ℕ, List, filter, Some, None, Option}
use Rattle.std.specs.List.{range_with_len}
use Rattle.machine.specs.declared.Instruction.{Instruction}
use Rattle.machine.specs.declared.Instruction.TheVariants.{Set, Mov, Add, Addi, Sign, Load, Store, Call, Ret, Halt}
use Rattle.place.specs.Registers.{has}
use Rattle.delivery.specs.Code.{save_word, restore_word}
use Rattle.emit.specs.declared.saving.WordMove.{WordMove}
use Rattle.emit.specs.declared.saving.WordMove.TheVariants.{Save, Restore}

-- the register that an instruction writes
abbrev pub destination : Instruction → Option ℕ
destination (Set d n) = Some d
destination (Mov d s) = Some d
destination (Add d s t) = Some d
destination (Addi d s i) = Some d
destination (Sign d s) = Some d
destination (Load d b i w s) = Some d
destination (Store s b i w) = None
destination Call = None
destination Ret = None
destination Halt = None

-- those of r0 to r27 that a set has, ascending
unfoldable pub members : ℕ → List ℕ
members set = filter (has set) (range_with_len 0 28)

-- the instruction for a saved register and its word
abbrev pub word_code : WordMove → ℕ → ℕ → Instruction
word_code Save = save_word
word_code Restore = restore_word
