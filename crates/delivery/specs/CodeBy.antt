-- The code of caller and callee, by how an offset from the stack pointer stands in a record.
use Rattle.std.specs.Prelude.{ℕ, zero, suc, ◌+◌, ◌*◌, ◌%◌, ◌^◌, Bool, true, false, cond, ◌&&◌, ◌||◌, List, [], ◌∷◌, ◌++◌, length, ℤ, pos, neg_ℤ, ◌==◌, nat_lt}
use Rattle.machine.specs.Laws.{calling, called}
use Rattle.machine.specs.declared.Instruction.{Instruction}
use Rattle.machine.specs.declared.Instruction.TheVariants.{Set, Mov, Add, Addi, Sign, Load, Store, Call, Ret, Halt}
use Rattle.machine.specs.declared.Width.{Width}
use Rattle.machine.specs.declared.Width.TheVariants as Widths
use Rattle.place.specs.Holdings.{Holding}
use Rattle.place.specs.Pieces.{pieces}
use Rattle.place.specs.Registers.{has}
use Rattle.place.specs.declared.pieces.Piece.{Piece}
use Rattle.place.specs.declared.pieces.Piece.TheVariants.{Register, Block}
use Rattle.values.specs.Sizes.{bytes, round_up}
use Rattle.values.specs.declared.kinds.Kind.{Kind}
use Rattle.values.specs.declared.kinds.Kind.TheVariants.{Unsigned, Signed, Float, Address}
use Rattle.values.specs.declared.sizes.Size.{Size}
use Rattle.values.specs.declared.sizes.Size.TheVariants.{One, Two, Four, Eight}

-- the bytes of a home
abbrev pub home_size : ℕ
home_size = 8

-- the stack is taken in steps of 8 bytes
abbrev pub stack_bytes : ℕ → ℕ
stack_bytes = round_up 8

-- the stack pointer, and the register that block pieces go through
abbrev pub stack_pointer : ℕ
stack_pointer = 31

abbrev pub scratch : ℕ
scratch = 28

-- how many bytes of a value, or of a piece, one instruction moves: 4 at most
abbrev pub moved : Size → Width
moved One = Widths.One
moved Two = Widths.Two
moved Four = Widths.Four
moved Eight = Widths.Four

-- the register that a piece is filled or copied through
abbrev pub through : Piece → ℕ
through (Register d) = d
through (Block o w) = scratch

abbrev pub by_sign : Kind → Bool
by_sign Unsigned = false
by_sign Signed = true
by_sign Float = false
by_sign Address = false

-- what goes on from a value's end into register d, where register s has its low piece
abbrev pub extend : Kind → ℕ → ℕ → Instruction
extend Unsigned d s = Set d 0
extend Signed d s = Sign d s
extend Float d s = Set d 0
extend Address d s = Set d 0

-- code for each of a list of places, whose homes lie one after the other from offset h on
abbrev pub each_home : (Holding → ℕ → List Instruction) → List Holding → ℕ → List Instruction
each_home code [] h = []
each_home code (a ∷ held) h = code a h ++ each_home code held (h + home_size)

-- an instruction for each of a list of registers, whose words of 4 bytes lie one after the other from offset h on
abbrev pub each_word : (ℕ → ℕ → Instruction) → List ℕ → ℕ → List Instruction
each_word code [] h = []
each_word code (r ∷ rs) h = code r h ∷ each_word code rs (h + 4)

-- the register that an instruction writes is r
abbrev pub writes : ℕ → Instruction → Bool
writes r (Set d n) = d == r
writes r (Mov d s) = d == r
writes r (Add d s t) = d == r
writes r (Addi d s i) = d == r
writes r (Sign d s) = d == r
writes r (Load d b i w s) = d == r
writes r (Store s b i w) = false
writes r Call = false
writes r Ret = false
writes r Halt = false

abbrev pub written : ℕ → List Instruction → Bool
written r [] = false
written r (i ∷ is) = writes r i || written r is

-- the registers below n that are kept and written, ascending
abbrev pub saved_below : ℕ → ℕ → List Instruction → List ℕ
saved_below zero kept body = []
saved_below (suc r) kept body = saved_below r kept body ++ cond (has kept r && written r body) (r ∷ []) []

-- the registers that the callee saves: those of r0 to r27 that are kept and that the body writes
unfoldable pub saved : ℕ → List Instruction → List ℕ
saved kept body = saved_below 28 kept body

-- the bytes of so many homes
abbrev pub home_bytes : ℕ → ℕ
home_bytes n = home_size * n

-- the callee's stack: homes of arguments and results, and the saved registers
abbrev pub frame_bytes : List Holding → List Holding → List ℕ → ℕ
frame_bytes args results rs = stack_bytes (home_bytes (length args + length results) + 4 * length rs)

module _ (offset : ℕ → ℤ) where
  -- a block piece is stored after it was filled; its address is o above the stack pointer at the call
  abbrev pub settle : Piece → List Instruction
  settle (Register d) = []
  settle (Block o w) = Store scratch stack_pointer (offset o) (moved w) ∷ []

  -- register d gets piece k of a value in the home at offset h; register s has its low piece
  abbrev pub fill_further : Kind → Size → ℕ → ℕ → ℕ → ℕ → Instruction
  fill_further t w k d s h = cond (nat_lt (4 * k) (bytes w)) (Load d stack_pointer (offset (h + 4 * k)) Widths.Four (by_sign t)) (extend t d s)

  abbrev pub fill_rest : Kind → Size → List Piece → ℕ → ℕ → ℕ → List Instruction
  fill_rest t w [] k s h = []
  fill_rest t w (p ∷ ps) k s h = (fill_further t w k (through p) s h ∷ settle p) ++ fill_rest t w ps (suc k) s h

  -- the pieces of a place, filled from the home at offset h
  abbrev pub fill_pieces : Kind → Size → List Piece → ℕ → List Instruction
  fill_pieces t w [] h = []
  fill_pieces t w (p ∷ ps) h = (Load (through p) stack_pointer (offset h) (moved w) (by_sign t) ∷ settle p) ++ fill_rest t w ps 1 (through p) h

  -- places, filled from their homes
  abbrev pub fill_place : Holding → ℕ → List Instruction
  fill_place a h = fill_pieces a.kind a.width (pieces a.place) h

  abbrev pub fill_all : List Holding → ℕ → List Instruction
  fill_all = each_home fill_place

  -- a piece, copied to offset h; the block lies at offset f
  abbrev pub copy_piece : ℕ → Piece → ℕ → List Instruction
  copy_piece f (Register d) h = Store d stack_pointer (offset h) Widths.Four ∷ []
  copy_piece f (Block o w) h = Load scratch stack_pointer (offset (f + o)) (moved w) false ∷ Store scratch stack_pointer (offset h) (moved w) ∷ []

  abbrev pub copy_pieces : ℕ → List Piece → ℕ → List Instruction
  copy_pieces f [] h = []
  copy_pieces f (p ∷ ps) h = copy_piece f p h ++ copy_pieces f ps (h + 4)

  -- places, copied to their homes
  abbrev pub copy_place : ℕ → Holding → ℕ → List Instruction
  copy_place f a h = copy_pieces f (pieces a.place) h

  abbrev pub copy_all : ℕ → List Holding → ℕ → List Instruction
  copy_all f = each_home (copy_place f)

  -- a register's low bytes, stored to offset h: a result travels in registers
  abbrev pub store_register : Size → Piece → ℕ → List Instruction
  store_register w (Register d) h = Store d stack_pointer (offset h) (moved w) ∷ []
  store_register w (Block o v) h = []

  -- the low bytes of a result, from piece k on
  abbrev pub store_piece : Size → Piece → ℕ → ℕ → List Instruction
  store_piece w p k h = cond (nat_lt (4 * k) (bytes w)) (store_register w p (h + 4 * k)) []

  abbrev pub store_pieces : Size → List Piece → ℕ → ℕ → List Instruction
  store_pieces w [] k h = []
  store_pieces w (p ∷ ps) k h = store_piece w p k h ++ store_pieces w ps (suc k) h

  abbrev pub store_place : Holding → ℕ → List Instruction
  store_place a h = store_pieces a.width (pieces a.place) 0 h

  abbrev pub store_all : List Holding → ℕ → List Instruction
  store_all = each_home store_place

  -- registers, saved to their words and loaded back
  abbrev pub save_word : ℕ → ℕ → Instruction
  save_word r h = Store r stack_pointer (offset h) Widths.Four

  abbrev pub save_all : List ℕ → ℕ → List Instruction
  save_all = each_word save_word

  abbrev pub restore_word : ℕ → ℕ → Instruction
  restore_word r h = Load r stack_pointer (offset h) Widths.Four false

  abbrev pub restore_all : List ℕ → ℕ → List Instruction
  restore_all = each_word restore_word

  abbrev pub down : ℕ → Instruction
  down n = Addi stack_pointer stack_pointer (neg_ℤ (offset n))

  abbrev pub up : ℕ → Instruction
  up n = Addi stack_pointer stack_pointer (offset n)

  -- the caller up to the call, with b bytes of stack, and after it
  abbrev pub before_call : List Holding → ℕ → List Instruction
  before_call args b = down b ∷ fill_all args b

  abbrev pub after_call : List Holding → List Holding → ℕ → List Instruction
  after_call args results b = store_all results (b + home_bytes (length args)) ++ (up b ∷ [])

  abbrev pub caller_code : List Holding → List Holding → ℕ → List Instruction
  caller_code args results b = calling (before_call args b) (after_call args results b)

  -- the callee up to the body, and after it
  abbrev pub before_body : List Holding → List Holding → List ℕ → ℕ → List Instruction
  before_body args results rs f = down f ∷ (save_all rs (home_bytes (length args + length results)) ++ copy_all f args 0)

  abbrev pub after_body : List Holding → List Holding → List ℕ → ℕ → List Instruction
  after_body args results rs f = fill_all results (home_bytes (length args)) ++ (restore_all rs (home_bytes (length args + length results)) ++ (up f ∷ []))

  abbrev pub callee_code : List Holding → List Holding → ℕ → List Instruction → List Instruction
  callee_code args results kept body =
      let rs = saved kept body in
      let f = frame_bytes args results rs in
      called (before_body args results rs f ++ (body ++ after_body args results rs f))
