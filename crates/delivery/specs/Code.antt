-- The code of caller and callee as it is written.
pub use Rattle.delivery.specs.CodeBy.{home_size, stack_bytes, stack_pointer, scratch, moved, through, by_sign, extend, each_home, each_word, writes, written, saved_below, home_bytes, frame_bytes}
unfoldable pub use Rattle.delivery.specs.CodeBy.{saved}
use Rattle.std.specs.Prelude.{ℕ, ◌%◌, ◌^◌, List, ℤ, pos}
use Rattle.machine.specs.declared.Instruction.{Instruction}
use Rattle.place.specs.Holdings.{Holding}
use Rattle.place.specs.declared.pieces.Piece.{Piece}
use Rattle.values.specs.declared.kinds.Kind.{Kind}
use Rattle.values.specs.declared.sizes.Size.{Size}
use Rattle.delivery.specs.CodeBy as By

-- an offset from the stack pointer, in the 15 bits that an instruction has for it
abbrev pub offset : ℕ → ℤ
offset n = pos (n % 2 ^ 15)

abbrev pub settle : Piece → List Instruction
settle = By.settle offset

abbrev pub fill_further : Kind → Size → ℕ → ℕ → ℕ → ℕ → Instruction
fill_further = By.fill_further offset

abbrev pub fill_rest : Kind → Size → List Piece → ℕ → ℕ → ℕ → List Instruction
fill_rest = By.fill_rest offset

abbrev pub fill_pieces : Kind → Size → List Piece → ℕ → List Instruction
fill_pieces = By.fill_pieces offset

abbrev pub fill_place : Holding → ℕ → List Instruction
fill_place = By.fill_place offset

abbrev pub fill_all : List Holding → ℕ → List Instruction
fill_all = By.fill_all offset

abbrev pub copy_piece : ℕ → Piece → ℕ → List Instruction
copy_piece = By.copy_piece offset

abbrev pub copy_pieces : ℕ → List Piece → ℕ → List Instruction
copy_pieces = By.copy_pieces offset

abbrev pub copy_place : ℕ → Holding → ℕ → List Instruction
copy_place = By.copy_place offset

abbrev pub copy_all : ℕ → List Holding → ℕ → List Instruction
copy_all = By.copy_all offset

abbrev pub store_register : Size → Piece → ℕ → List Instruction
store_register = By.store_register offset

abbrev pub store_piece : Size → Piece → ℕ → ℕ → List Instruction
store_piece = By.store_piece offset

abbrev pub store_pieces : Size → List Piece → ℕ → ℕ → List Instruction
store_pieces = By.store_pieces offset

abbrev pub store_place : Holding → ℕ → List Instruction
store_place = By.store_place offset

abbrev pub store_all : List Holding → ℕ → List Instruction
store_all = By.store_all offset

abbrev pub save_word : ℕ → ℕ → Instruction
save_word = By.save_word offset

abbrev pub save_all : List ℕ → ℕ → List Instruction
save_all = By.save_all offset

abbrev pub restore_word : ℕ → ℕ → Instruction
restore_word = By.restore_word offset

abbrev pub restore_all : List ℕ → ℕ → List Instruction
restore_all = By.restore_all offset

abbrev pub down : ℕ → Instruction
down = By.down offset

abbrev pub up : ℕ → Instruction
up = By.up offset

abbrev pub before_call : List Holding → ℕ → List Instruction
before_call = By.before_call offset

abbrev pub after_call : List Holding → List Holding → ℕ → List Instruction
after_call = By.after_call offset

abbrev pub caller_code : List Holding → List Holding → ℕ → List Instruction
caller_code = By.caller_code offset

abbrev pub before_body : List Holding → List Holding → List ℕ → ℕ → List Instruction
before_body = By.before_body offset

abbrev pub after_body : List Holding → List Holding → List ℕ → ℕ → List Instruction
after_body = By.after_body offset

abbrev pub callee_code : List Holding → List Holding → ℕ → List Instruction → List Instruction
callee_code = By.callee_code offset

-- the same with each offset as the whole number that the rules say, however many bits it takes
abbrev pub whole_caller_code : List Holding → List Holding → ℕ → List Instruction
whole_caller_code = By.caller_code pos

abbrev pub whole_callee_code : List Holding → List Holding → ℕ → List Instruction → List Instruction
whole_callee_code = By.callee_code pos
