-- The book of the block.
use Rattle.std.specs.Prelude.{ℕ, ◌+◌, true, cond, ◌&&◌, ◌||◌, Some, None, Option, ◌==◌, nat_le}
use Rattle.place.specs.declared.pieces.Piece.TheVariants.{Block}
use Rattle.place.specs.declared.pieces.Place.{Place}
use Rattle.place.specs.declared.pieces.Place.TheVariants.{Single, Double}
use Rattle.stage.specs.Books.{Book, Profile, Questions, built_in}
use Rattle.stage.specs.Cursors.{Move, grant, refuse, bottom_book}
use Rattle.stage.specs.Faults.{Fault, unplaced}
use Rattle.values.specs.Sizes.{bytes, round_up}
use Rattle.values.specs.declared.requests.Request.{Request}
use Rattle.values.specs.declared.sizes.Size.{Size}
use Rattle.values.specs.declared.sizes.Size.TheVariants.{One, Two, Four, Eight}

-- w bytes of the block from o on: 8 bytes are two pieces of 4
abbrev pub block_place : ℕ → Size → Place
block_place o One = Single (Block o One)
block_place o Two = Single (Block o Two)
block_place o Four = Single (Block o Four)
block_place o Eight = Double (Block o Four) (Block (o + 4) Four)

-- up m with n bytes used: the next bytes at the alignment, up to m, while they end within 4,096
abbrev pub up_move : Size → ℕ → Request → Move
up_move m n r =
    let o = round_up (bytes r.alignment) n in
    let end = o + bytes r.width in
    cond (nat_le (bytes r.alignment) (bytes m) && nat_le end 4096) (grant (block_place o r.width) end) (refuse n)

abbrev pub up_book : Size → ℕ → Book
up_book m = bottom_book (up_move m) (λ n. n)

abbrev pub up_questions : Size → Questions
up_questions m = record { registers = 0; block = true; sound = true; endless = λ r. nat_le (bytes r.alignment) (bytes m) }

abbrev pub up_profile : Size → Profile
up_profile m = record { first = up_book m 0; first_blame = built_in; questions = up_questions m }

-- m is 1, 2, 4 or 8
abbrev pub limit_fault : ℕ → Option Fault
limit_fault m = cond (m == 1 || m == 2 || m == 4 || m == 8) None (Some (unplaced 3))
