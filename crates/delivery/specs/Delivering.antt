-- What a call delivers.
use Rattle.std.specs.Prelude.{◌≡◌, ℕ, ◌+◌, ◌^◌, ◌<◌, ◌≤◌, true, ◌⊎◌, List, [], ◌∷◌, length, Some, None, slice_index}
use Rattle.std.specs.List.{AllByRecursion}
use Rattle.machine.specs.Laws.{effects, Holds}
use Rattle.machine.specs.Machine.{Contents, State, Run, reg, running, runs}
use Rattle.machine.specs.declared.Instruction.{Instruction}
use Rattle.machine.specs.declared.Instruction.TheVariants.{Set, Mov, Add, Addi, Sign, Load, Store, Call, Ret, Halt}
use Rattle.machine.specs.declared.Mode.TheVariants.{Ended}
use Rattle.machine.specs.declared.Side.TheVariants.{Caller, Callee}
use Rattle.place.specs.Holdings.{Holding}
use Rattle.place.specs.Pieces.{pieces, place_width, WellFormed, PiecesApart, PlacesApart}
use Rattle.place.specs.Registers.{has}
use Rattle.place.specs.declared.pieces.Piece.{Piece}
use Rattle.place.specs.declared.pieces.Piece.TheVariants.{Register, Block}
use Rattle.values.specs.Sizes.{bytes}
use Rattle.delivery.specs.Bodies.{body_fault}
use Rattle.delivery.specs.Code.{home_size, home_bytes, saved, frame_bytes, before_call, before_body}
use Rattle.delivery.specs.Widening.{widened_byte}

-- the bytes of a SET are 32 bits, as in every instruction record
abbrev pub Sized : Instruction → Type 0
Sized (Set d n) = n < 2 ^ 32
Sized (Mov d s) = Unit {0}
Sized (Add d s t) = Unit {0}
Sized (Addi d s i) = Unit {0}
Sized (Sign d s) = Unit {0}
Sized (Load d b i w s) = Unit {0}
Sized (Store s b i w) = Unit {0}
Sized Call = Unit {0}
Sized Ret = Unit {0}
Sized Halt = Unit {0}

-- each home in n from a on begins with the bytes of the home in m from c on, widened to the place
abbrev pub Widened : List Holding → List ℕ → ℕ → List ℕ → ℕ → Type 0
Widened [] n a m c = Unit {0}
Widened (h ∷ hs) n a m c =
    ((j : ℕ) → j < place_width h.place → slice_index n (a + j) ≡ widened_byte h.kind h.width m c j) × Widened hs n (a + home_size) m (c + home_size)

-- each home in n from a on begins with the bytes of its type in the home in m from c on
abbrev pub Returned : List Holding → List ℕ → ℕ → List ℕ → ℕ → Type 0
Returned [] n a m c = Unit {0}
Returned (h ∷ hs) n a m c =
    ((j : ℕ) → j < bytes h.width → slice_index n (a + j) ≡ slice_index m (c + j)) × Returned hs n (a + home_size) m (c + home_size)

-- byte i is one of the bytes of the types in homes from a on
abbrev pub ResultByte : List Holding → ℕ → ℕ → Type 0
ResultByte [] a i = ⊥
ResultByte (h ∷ hs) a i = ((a ≤ i) × (i < a + bytes h.width)) ⊎ ResultByte hs (a + home_size) i

-- a call from x that ends in y: the body begins in p and ends in q. Homes lie from the stack pointer at the start, and in the body
pub record Delivers (args results : List Holding) (kept : ℕ) (body : List Instruction) (b : ℕ) (x p q y : Contents) : Type 0 where
  pub body_begins_at_the_callee_homes : reg p 31 + (b + frame_bytes args results (saved kept body)) ≡ reg x 31
  pub body_runs_through : effects body p ≡ Some q
  pub body_finds_each_argument_widened : Widened args p.mem (reg p 31) x.mem (reg x 31)
  pub caller_finds_each_result : Returned results y.mem (reg x 31 + home_bytes (length args)) q.mem (reg p 31 + home_bytes (length args))
  pub kept_registers_are_as_before : (r : ℕ) → has kept r ≡ true → reg y r ≡ reg x r
  pub stack_pointer_is_as_before : reg y 31 ≡ reg x 31
  pub memory_is_as_large_as_before : length y.mem ≡ length x.mem
  pub other_memory_is_as_before : (i : ℕ) → ((reg p 31 ≤ i) × (i < reg x 31) → ⊥) → (ResultByte results (reg x 31 + home_bytes (length args)) i → ⊥) → slice_index y.mem i ≡ slice_index x.mem i

-- after k steps from s the machine is at index n of the callee's list, with contents x
abbrev pub Reaches : List Instruction → List Instruction → State → ℕ → ℕ → Contents → Type 0
Reaches caller callee s k n x = runs caller callee k s ≡ record { last = running Callee n x; steps = k }

-- as many records stand before the body in the callee's code
abbrev pub index_of_body : List Holding → List Holding → ℕ → List Instruction → ℕ
index_of_body args results kept body =
    let rs = saved kept body in
    length (before_body args results rs (frame_bytes args results rs))

-- a step for each record of the caller's code up to the call and with it, and for each of the callee's before the body
abbrev pub steps_to_body : List Holding → List Holding → ℕ → List Instruction → ℕ → ℕ
steps_to_body args results kept body b =
    length (before_call args b) + 1 + index_of_body args results kept body

-- a run from s comes in so many steps to the body, which begins at that index, with contents p, and leaves it with
-- contents q, a step for each instruction
pub record BodyRuns (caller callee : List Instruction) (s : State) (body : List Instruction)
    (index steps : ℕ) (p q : Contents) : Type 0 where
  pub body_lies_in_the_callee_list : Holds callee index body
  pub run_comes_to_the_body : Reaches caller callee s steps index p
  pub run_leaves_the_body : Reaches caller callee s (steps + length body) (index + length body) q

-- a run that has ended, with its steps
abbrev pub ended : Contents → ℕ → Run
ended y n = record { last = record { contents = y; mode = Ended }; steps = n }
