-- Which bodies a callee may have.
use Rattle.std.specs.Prelude.{ℕ, ◌+◌, Bool, false, cond, ◌&&◌, List, [], ◌∷◌, ℤ, pos, negsuc, Some, None, Option, ◌==◌, nat_le, nat_lt}
use Rattle.machine.specs.Machine.{bytes_of}
use Rattle.machine.specs.declared.Instruction.{Instruction}
use Rattle.machine.specs.declared.Instruction.TheVariants.{Set, Mov, Add, Addi, Sign, Load, Store, Call, Ret, Halt}
use Rattle.machine.specs.declared.Width.{Width}

-- w bytes at an offset from the stack pointer that lie within the homes
abbrev pub within_homes : ℕ → ℤ → Width → Bool
within_homes homes (pos k) w = nat_le (k + bytes_of w) homes
within_homes homes (negsuc k) w = false

-- a body writes r0 to r29, and its loads and stores go by the stack pointer to bytes of the homes
abbrev pub accepts : ℕ → Instruction → Bool
accepts homes (Set d n) = nat_lt d 30
accepts homes (Mov d s) = nat_lt d 30 && nat_lt s 32
accepts homes (Add d s t) = nat_lt d 30 && (nat_lt s 32 && nat_lt t 32)
accepts homes (Addi d s i) = nat_lt d 30 && nat_lt s 32
accepts homes (Sign d s) = nat_lt d 30 && nat_lt s 32
accepts homes (Load d b i w s) = nat_lt d 30 && (b == 31 && within_homes homes i w)
accepts homes (Store s b i w) = nat_lt s 32 && (b == 31 && within_homes homes i w)
accepts homes Call = false
accepts homes Ret = false
accepts homes Halt = false

-- the index of the first instruction, from index i on, that a body may not have or that is one too many: 256 are the most
abbrev pub body_fault : ℕ → List Instruction → ℕ → Option ℕ
body_fault homes [] i = None
body_fault homes (x ∷ xs) i = cond (nat_lt i 256 && accepts homes x) (body_fault homes xs (i + 1)) (Some i)
