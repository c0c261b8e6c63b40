-- The books of the banks.
use Rattle.std.specs.Prelude.{ℕ, ◌+◌, ◌*◌, ◌/◌, true, false, cond, List, length, nat_le, nat_lt, slice_index}
use Rattle.place.specs.declared.pieces.Piece.TheVariants.{Register}
use Rattle.place.specs.declared.pieces.Place.{Place}
use Rattle.place.specs.declared.pieces.Place.TheVariants.{Single, Double}
use Rattle.stage.specs.Books.{Book, Profile, Questions, built_in}
use Rattle.stage.specs.Cursors.{Move, grant, refuse, bottom_book}
use Rattle.values.specs.Sizes.{bytes, larger_of, round_up}
use Rattle.values.specs.declared.requests.Request.{Request}
use Rattle.values.specs.declared.sizes.Size.{Size}
use Rattle.values.specs.declared.sizes.Size.TheVariants.{One, Two, Four, Eight}
use Rattle.banks.specs.Lists.{set_of}

-- a bank has no block, is sound and is never endless
abbrev pub bank_questions : List ℕ → Questions
bank_questions xs = record { registers = set_of xs; block = false; sound = true; endless = λ r. false }

-- the book of a bank that goes by a cursor through its registers
abbrev pub bank_book : (List ℕ → ℕ → Request → Move) → List ℕ → ℕ → Book
bank_book does xs = bottom_book (does xs) (λ n. 0)

abbrev pub bank_profile : Book → List ℕ → Profile
bank_profile b xs = record { first = b; first_blame = built_in; questions = bank_questions xs }

abbrev pub register : List ℕ → ℕ → Place
register xs i = Single (Register (slice_index xs i))

-- a register and the next one as high piece
abbrev pub register_pair : List ℕ → ℕ → Place
register_pair xs i = Double (Register (slice_index xs i)) (Register (slice_index xs (i + 1)))

-- count: the next register for a width of 4, while there is one
abbrev pub count_move : List ℕ → ℕ → Size → Move
count_move xs n One = refuse n
count_move xs n Two = refuse n
count_move xs n Four = cond (nat_lt n (length xs)) (grant (register xs n) (n + 1)) (refuse n)
count_move xs n Eight = refuse n

abbrev pub count_does : List ℕ → ℕ → Request → Move
count_does xs n r = count_move xs n r.width

abbrev pub count_book : List ℕ → ℕ → Book
count_book = bank_book count_does

abbrev pub count_profile : List ℕ → Profile
count_profile xs = bank_profile (count_book xs 0) xs

-- bits with its byte cursor at n, which the request rounds up to c: registers for a width of 4 or 8, while there are enough
abbrev pub bits_move : List ℕ → ℕ → ℕ → Size → Move
bits_move xs n c One = refuse n
bits_move xs n c Two = refuse n
bits_move xs n c Four = cond (nat_le (c + 4) (4 * length xs)) (grant (register xs (c / 4)) (c + 4)) (refuse n)
bits_move xs n c Eight = cond (nat_le (c + 8) (4 * length xs)) (grant (register_pair xs (c / 4)) (c + 8)) (refuse n)

-- the cursor is rounded up to the larger of the alignment and 4
abbrev pub bits_start : ℕ → Request → ℕ
bits_start n r = round_up (bytes (larger_of Four r.alignment)) n

abbrev pub bits_does : List ℕ → ℕ → Request → Move
bits_does xs n r = bits_move xs n (bits_start n r) r.width

abbrev pub bits_book : List ℕ → ℕ → Book
bits_book = bank_book bits_does

abbrev pub bits_profile : List ℕ → Profile
bits_profile xs = bank_profile (bits_book xs 0) xs
