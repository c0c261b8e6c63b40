-- The laws of steps and runs.
use Rattle.std.specs.Prelude.{◌≡◌, ℕ, ◌+◌, ◌^◌, ◌<◌, ◌≤◌, true, ◌⊎◌, List, [], ◌∷◌, ◌++◌, length, ℤ, pos, negsuc, ◌+ℤ◌, is_some, IfSome, Some, None, Option, MatchOption, slice_index}
use Rattle.std.specs.List.{slice_get}
use Rattle.machine.specs.declared.Instruction.{Instruction}
use Rattle.machine.specs.declared.Instruction.TheVariants.{Set, Mov, Add, Addi, Sign, Load, Store, Call, Ret, Halt}
use Rattle.machine.specs.declared.Side.{Side}
use Rattle.machine.specs.declared.Side.TheVariants.{Caller, Callee}
use Rattle.machine.specs.declared.Mode.{Mode}
use Rattle.machine.specs.declared.Mode.TheVariants.{Running, Ended}
use Rattle.machine.specs.declared.Outcome.{Outcome}
use Rattle.machine.specs.declared.Outcome.TheVariants.{Stuck, Spent}
use Rattle.machine.specs.Machine.{Contents, State, effect, next, runs, counted, running, code_on, reg, with_reg, bytes_of}

-- from x to y only registers in R and bytes in M may change
pub record Frame (R M : ℕ → Type 0) (x y : Contents) : Type 0 where
  pub regs : (r : ℕ) → (R r → ⊥) → reg y r ≡ reg x r
  pub mem : (a : ℕ) → (M a → ⊥) → slice_index y.mem a ≡ slice_index x.mem a
  pub count : length y.regs ≡ length x.regs
  pub size : length y.mem ≡ length x.mem

-- an instruction writes register r
abbrev pub WritesRegister : Instruction → ℕ → Type 0
WritesRegister (Set d n) r = r ≡ d
WritesRegister (Mov d s) r = r ≡ d
WritesRegister (Add d s t) r = r ≡ d
WritesRegister (Addi d s i) r = r ≡ d
WritesRegister (Sign d s) r = r ≡ d
WritesRegister (Load d b i w s) r = r ≡ d
WritesRegister (Store s b i w) r = ⊥
WritesRegister Call r = r ≡ 30
WritesRegister Ret r = ⊥
WritesRegister Halt r = ⊥

-- byte a is one of `count` bytes from a whole number on
abbrev pub Covers : ℤ → ℕ → ℕ → Type 0
Covers (pos n) count a = (n ≤ a) × (a < n + count)
Covers (negsuc _) count a = ⊥

-- an instruction writes byte a
abbrev pub WritesByte : Instruction → Contents → ℕ → Type 0
WritesByte (Set d n) x a = ⊥
WritesByte (Mov d s) x a = ⊥
WritesByte (Add d s t) x a = ⊥
WritesByte (Addi d s i) x a = ⊥
WritesByte (Sign d s) x a = ⊥
WritesByte (Load d b i w s) x a = ⊥
WritesByte (Store s b i w) x a = Covers (pos (reg x b) +ℤ i) (bytes_of w) a
WritesByte Call x a = ⊥
WritesByte Ret x a = ⊥
WritesByte Halt x a = ⊥

-- every register and byte that the instruction, if there is one, does not write is the same in x and y
abbrev pub OnlyWritten : Option Instruction → Contents → Contents → Type 0
OnlyWritten o x y = Frame (λ r. MatchOption o ⊥ (λ i. WritesRegister i r)) (λ a. MatchOption o ⊥ (λ i. WritesByte i x a)) x y

-- a run that came from s to t goes on from t under a larger budget, and the steps add up
abbrev pub LargerBudgetGoesOn : List Instruction → List Instruction → ℕ → State → State → ℕ → Type 0
LargerBudgetGoesOn caller callee budget s t steps = (more : ℕ) → runs caller callee (budget + more) s ≡ counted steps (runs caller callee more t)

-- a run from a state that has ended or is stuck makes no step and stays there
abbrev pub StoppedStays : List Instruction → List Instruction → State → State → ℕ → Type 0
StoppedStays caller callee s t steps = next caller callee s ≡ None → (t ≡ s) × (steps ≡ 0)

-- a run that comes out as spent has made as many steps as its budget, and still has a next state
abbrev pub SpentUsesUpBudget : List Instruction → List Instruction → ℕ → State → Outcome → ℕ → Type 0
SpentUsesUpBudget caller callee budget t o steps = o ≡ Spent → (steps ≡ budget) × (is_some (next caller callee t) ≡ true)

-- some of `count` bytes from a whole number on lies outside of a memory of `size` bytes
abbrev pub Outside : ℤ → ℕ → ℕ → Type 0
Outside (pos n) count size = size < n + count
Outside (negsuc _) count size = Unit {0}

-- an instruction of a side's list cannot be done: it names a register above 31 or a byte outside of memory, or is on the wrong side
abbrev pub CannotBeDone : Side → Contents → Instruction → Type 0
CannotBeDone side x (Set d n) = 31 < d
CannotBeDone side x (Mov d s) = (31 < d) ⊎ (31 < s)
CannotBeDone side x (Add d s t) = (31 < d) ⊎ ((31 < s) ⊎ (31 < t))
CannotBeDone side x (Addi d s i) = (31 < d) ⊎ (31 < s)
CannotBeDone side x (Sign d s) = (31 < d) ⊎ (31 < s)
CannotBeDone side x (Load d b i w s) = ((31 < d) ⊎ (31 < b)) ⊎ Outside (pos (reg x b) +ℤ i) (bytes_of w) (length x.mem)
CannotBeDone side x (Store s b i w) = ((31 < s) ⊎ (31 < b)) ⊎ Outside (pos (reg x b) +ℤ i) (bytes_of w) (length x.mem)
CannotBeDone side x Call = side ≡ Callee
CannotBeDone side x Ret = side ≡ Caller
CannotBeDone side x Halt = ⊥

-- a machine that has not ended, whose next instruction is missing or cannot be done
abbrev pub IsStuck : List Instruction → List Instruction → Mode → Contents → Type 0
IsStuck caller callee (Running side n) x = IfSome (slice_get (code_on side caller callee) n) (CannotBeDone side x)
IsStuck caller callee Ended x = ⊥

-- the outcome is stuck exactly where the machine is
abbrev pub StuckExactlyWhere : List Instruction → List Instruction → State → Outcome → Type 0
StuckExactlyWhere caller callee t o = (o ≡ Stuck → IsStuck caller callee t.mode t.contents) × (IsStuck caller callee t.mode t.contents → o ≡ Stuck)

-- the contents go through the next effect, if there are any
abbrev pub and_then : Option Contents → (Contents → Option Contents) → Option Contents
and_then None f = None
and_then (Some y) f = f y

-- the instructions' effects, one after the other; None where one cannot be done
abbrev pub effects : List Instruction → Contents → Option Contents
effects [] x = Some x
effects (i ∷ is) x = and_then (effect i x) (effects is)

-- the code has these instructions from index n on
abbrev pub Holds : List Instruction → ℕ → List Instruction → Type 0
Holds code n [] = Unit {0}
Holds code n (i ∷ is) = (slice_get code n ≡ Some i) × Holds code (n + 1) is

-- a run through a straight-line stretch of either list has the composition of its instructions' effects, a step for each, and goes on behind it
abbrev pub StraightLineComposes : List Instruction → List Instruction → ℕ → State → State → ℕ → Type 0
StraightLineComposes caller callee budget s t steps =
    (side : Side) (is : List Instruction) (n more : ℕ) (x y : Contents) →
    s ≡ running side n x → Holds (code_on side caller callee) n is → effects is x ≡ Some y → budget ≡ length is + more →
    record { last = t; steps = steps } ≡ counted (length is) (runs caller callee more (running side (n + length is) y))

-- straight-line code around a CALL, and a HALT
abbrev pub calling : List Instruction → List Instruction → List Instruction
calling before after = before ++ (Call ∷ (after ++ (Halt ∷ [])))

-- straight-line code, and a RET
abbrev pub called : List Instruction → List Instruction
called body = body ++ (Ret ∷ [])

-- straight-line code that calls straight-line code which gives r30 back: the run ends, with the effects in order and a step for each instruction of both lists
abbrev pub CallOfStraightLinesEnds : List Instruction → List Instruction → ℕ → State → State → ℕ → Type 0
CallOfStraightLinesEnds caller callee budget s t steps =
    (before after body : List Instruction) (x x₁ x₂ x₃ : Contents) →
    s ≡ running Caller 0 x → Holds caller 0 (calling before after) → Holds callee 0 (called body) → length before + 1 < 2 ^ 32 →
    effects before x ≡ Some x₁ → effects body (with_reg x₁ 30 (length before + 1)) ≡ Some x₂ → reg x₂ 30 ≡ length before + 1 → effects after x₂ ≡ Some x₃ →
    length (calling before after) + length (called body) ≤ budget →
    (t ≡ record { contents = x₃; mode = Ended }) × (steps ≡ length (calling before after) + length (called body))
