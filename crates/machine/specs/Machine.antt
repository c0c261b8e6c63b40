-- The machine: what each instruction does, one step, and a run.
use Rattle.std.specs.Prelude.{ℕ, zero, suc, ◌+◌, ◌-◌, ◌*◌, ◌/◌, ◌%◌, ◌^◌, Bool, true, false, cond, ◌&&◌, List, length, ℤ, pos, negsuc, ◌+ℤ◌, Some, None, Option, nat_le, nat_lt, slice_index, slice_set}
use Rattle.std.proofs.Common.{of_z}
use Rattle.std.specs.Int.{w32}
use Rattle.std.specs.List.{slice_get}
use Rattle.machine.specs.declared.Instruction.{Instruction}
use Rattle.machine.specs.declared.Instruction.TheVariants.{Set, Mov, Add, Addi, Sign, Load, Store, Call, Ret, Halt}
use Rattle.machine.specs.declared.Width.{Width}
use Rattle.machine.specs.declared.Width.TheVariants.{One, Two, Four}
use Rattle.machine.specs.declared.Side.{Side}
use Rattle.machine.specs.declared.Side.TheVariants.{Caller, Callee}
use Rattle.machine.specs.declared.Mode.{Mode}
use Rattle.machine.specs.declared.Mode.TheVariants.{Running, Ended}
use Rattle.machine.specs.declared.Machine.{Machine}
use Rattle.machine.specs.declared.Outcome.{Outcome}
use Rattle.machine.specs.declared.Outcome.TheVariants as Outcomes

-- registers and memory
pub record Contents : Type 0 where
  pub regs : List ℕ
  pub mem : List ℕ

-- a machine with its memory
pub record State : Type 0 where
  pub contents : Contents
  pub mode : Mode

-- the contents of a machine that is lent these bytes
abbrev pub contents_of : Machine → List ℕ → Contents
contents_of m bytes = record { regs = m.registers; mem = bytes }

-- the state of a machine that is lent these bytes
abbrev pub state_of : Machine → List ℕ → State
state_of m bytes = record { contents = contents_of m bytes; mode = m.mode }

-- the state that goes on at index n of a side's list
abbrev pub running : Side → ℕ → Contents → State
running side n x = record { contents = x; mode = Running side n }

-- a register exists
abbrev pub ok : ℕ → Bool
ok r = nat_lt r 32

-- what a register holds
abbrev pub reg : Contents → ℕ → ℕ
reg x r = slice_index x.regs r

-- the contents with a value in a register
abbrev pub with_reg : Contents → ℕ → ℕ → Contents
with_reg x d v = record { regs = slice_set x.regs d v; mem = x.mem }

-- the bytes of a width
abbrev pub bytes_of : Width → ℕ
bytes_of One = 1
bytes_of Two = 2
bytes_of Four = 4

-- a whole number as the place of `count` bytes that all lie below `size`
abbrev pub inside : ℤ → ℕ → ℕ → Option ℕ
inside (pos a) count size = cond (nat_le (a + count) size) (Some a) None
inside (negsuc _) count size = None

-- the place of `count` bytes at `base + i`, a sum that does not wrap
abbrev pub address : ℕ → ℤ → ℕ → ℕ → Option ℕ
address base i count size = inside (pos base +ℤ i) count size

-- the number in `count` bytes from `a`, little-endian
abbrev pub word : List ℕ → ℕ → ℕ → ℕ
word m a zero = 0
word m a (suc k) = slice_index m a + 256 * word m (a + 1) k

-- the memory with a number's lowest `count` bytes from `a` on, little-endian
abbrev pub stored : List ℕ → ℕ → ℕ → ℕ → List ℕ
stored m a zero v = m
stored m a (suc k) v = stored (slice_set m a (v % 256)) (a + 1) k (v / 256)

-- a number of `count` bytes as 32 bits: by its sign, or with zeros
abbrev pub widened : Bool → ℕ → ℕ → ℕ
widened false count v = v
widened true count v = cond (nat_lt v (2 ^ (8 * count - 1))) v (v + (2 ^ 32 - 2 ^ (8 * count)))

-- what LOAD reads at `a`
abbrev pub loaded : List ℕ → ℕ → Width → Bool → ℕ
loaded m a w s = widened s (bytes_of w) (word m a (bytes_of w))

-- all ones where the top bit is set, else 0
abbrev pub sign_of : ℕ → ℕ
sign_of v = cond (nat_lt v (2 ^ 31)) 0 (2 ^ 32 - 1)

-- LOAD into register d from a place, if there is one
abbrev pub loads : Contents → ℕ → Width → Bool → Option ℕ → Option Contents
loads x d w s None = None
loads x d w s (Some a) = Some (with_reg x d (loaded x.mem a w s))

-- STORE of a value to a place, if there is one
abbrev pub stores : Contents → ℕ → Width → Option ℕ → Option Contents
stores x v w None = None
stores x v w (Some a) = Some (record { regs = x.regs; mem = stored x.mem a (bytes_of w) v })

-- the contents after an instruction that goes on to the next one; None where it cannot be done, and for the other three.
-- `of_z w32 i` is i in 32 bits: i itself, or 2 ^ 32 + i where i is negative
abbrev pub effect : Instruction → Contents → Option Contents
effect (Set d n) x = cond (ok d) (Some (with_reg x d n)) None
effect (Mov d s) x = cond (ok d && ok s) (Some (with_reg x d (reg x s))) None
effect (Add d s t) x = cond (ok d && (ok s && ok t)) (Some (with_reg x d ((reg x s + reg x t) % 2 ^ 32))) None
effect (Addi d s i) x = cond (ok d && ok s) (Some (with_reg x d ((reg x s + of_z w32 i) % 2 ^ 32))) None
effect (Sign d s) x = cond (ok d && ok s) (Some (with_reg x d (sign_of (reg x s)))) None
effect (Load d b i w s) x = cond (ok d && ok b) (loads x d w s (address (reg x b) i (bytes_of w) (length x.mem))) None
effect (Store s b i w) x = cond (ok s && ok b) (stores x (reg x s) w (address (reg x b) i (bytes_of w) (length x.mem))) None
effect Call x = None
effect Ret x = None
effect Halt x = None

-- on to the next index with the new contents, if there are any
abbrev pub onward : Side → ℕ → Option Contents → Option State
onward side n None = None
onward side n (Some y) = Some (running side (n + 1) y)

-- CALL from the caller: the next index, of which r30 holds the low 32 bits, and on at callee index 0
abbrev pub calls : Side → ℕ → Contents → Option State
calls Caller n x = Some (running Callee 0 (with_reg x 30 ((n + 1) % 2 ^ 32)))
calls Callee n x = None

-- RET from the callee: on at the caller index in r30
abbrev pub returns : Side → Contents → Option State
returns Caller x = None
returns Callee x = Some (running Caller (reg x 30) x)

-- the state after an instruction at index n of a side's list; None where it cannot be done
abbrev pub carried_out : Side → ℕ → Contents → Instruction → Option State
carried_out side n x (Set d v) = onward side n (effect (Set d v) x)
carried_out side n x (Mov d s) = onward side n (effect (Mov d s) x)
carried_out side n x (Add d s t) = onward side n (effect (Add d s t) x)
carried_out side n x (Addi d s i) = onward side n (effect (Addi d s i) x)
carried_out side n x (Sign d s) = onward side n (effect (Sign d s) x)
carried_out side n x (Load d b i w s) = onward side n (effect (Load d b i w s) x)
carried_out side n x (Store s b i w) = onward side n (effect (Store s b i w) x)
carried_out side n x Call = calls side n x
carried_out side n x Ret = returns side x
carried_out side n x Halt = Some (record { contents = x; mode = Ended })

-- the state after the instruction that was found, if one was
abbrev pub fetches : Side → ℕ → Contents → Option Instruction → Option State
fetches side n x None = None
fetches side n x (Some i) = carried_out side n x i

-- a side's list
abbrev pub code_on : Side → List Instruction → List Instruction → List Instruction
code_on Caller caller callee = caller
code_on Callee caller callee = callee

-- the state after one step, from a mode and contents
abbrev pub next_from : List Instruction → List Instruction → Mode → Contents → Option State
next_from caller callee (Running side n) x = fetches side n x (slice_get (code_on side caller callee) n)
next_from caller callee Ended x = None

-- the state after one step; None for a state that has ended or is stuck
abbrev pub next : List Instruction → List Instruction → State → Option State
next caller callee s = next_from caller callee s.mode s.contents

-- the instruction that a machine in this mode comes to, if its list has one there
abbrev pub instruction_at : Mode → List Instruction → List Instruction → Option Instruction
instruction_at (Running side n) caller callee = slice_get (code_on side caller callee) n
instruction_at Ended caller callee = None

-- the next state, or the same one where there is none
abbrev pub or_same : Option State → State → State
or_same None s = s
or_same (Some t) s = t

-- a run's last state and the steps made
pub record Run : Type 0 where
  pub last : State
  pub steps : ℕ

-- a run that comes after k steps
abbrev pub counted : ℕ → Run → Run
counted k r = record { last = r.last; steps = k + r.steps }

-- the rest of a run from the next state, or no step where there is none
abbrev pub goes_on : State → Option State → (State → Run) → Run
goes_on s None rest = record { last = s; steps = 0 }
goes_on s (Some t) rest = counted 1 (rest t)

-- the run of at most `budget` steps from a state
abbrev pub runs : List Instruction → List Instruction → ℕ → State → Run
runs caller callee zero s = record { last = s; steps = 0 }
runs caller callee (suc budget) s = goes_on s (next caller callee s) (runs caller callee budget)

-- the outcome for a mode that has or lacks a next state
abbrev pub outcome_from : Mode → Option State → Outcome
outcome_from Ended o = Outcomes.Ended
outcome_from (Running _ _) None = Outcomes.Stuck
outcome_from (Running _ _) (Some _) = Outcomes.Spent

-- ended by its mode; else stuck where no next state is, and spent where one is
abbrev pub outcome_of : List Instruction → List Instruction → State → Outcome
outcome_of caller callee s = outcome_from s.mode (next caller callee s)
