-- What pieces and places cover, byte by byte.
use Rattle.std.specs.Prelude.{◌≡◌, ℕ, ◌+◌, ◌<◌, ◌≤◌, Bool, true, false, List, [], ◌∷◌, ◌++◌, decimal}
use Rattle.std.specs.List.{AllByRecursion}
use Rattle.values.specs.Sizes.{bytes}
use Rattle.place.specs.declared.pieces.Piece.{Piece}
use Rattle.place.specs.declared.pieces.Piece.TheVariants.{Register, Block}
use Rattle.place.specs.declared.pieces.Place.{Place}
use Rattle.place.specs.declared.pieces.Place.TheVariants.{Single, Double}

-- byte k of register r, or byte n of the block
pub data Byte : Type 0 where
  of_register : ℕ → ℕ → Byte
  of_block : ℕ → Byte

abbrev pub Covers : Piece → Byte → Type 0
Covers (Register r) (of_register q k) = (q ≡ r) × (k < 4)
Covers (Register r) (of_block n) = ⊥
Covers (Block o w) (of_register q k) = ⊥
Covers (Block o w) (of_block n) = (o ≤ n) × (n < o + bytes w)

-- a register is always 4 bytes wide
abbrev pub piece_width : Piece → ℕ
piece_width (Register r) = 4
piece_width (Block o w) = bytes w

abbrev pub in_block : Piece → Bool
in_block (Register r) = false
in_block (Block o w) = true

-- the pieces of a place, lowest first
abbrev pub pieces : Place → List Piece
pieces (Single low) = low ∷ []
pieces (Double low high) = low ∷ high ∷ []

abbrev pub low_piece : Place → Piece
low_piece (Single low) = low
low_piece (Double low high) = low

abbrev pub place_width : Place → ℕ
place_width (Single low) = piece_width low
place_width (Double low high) = piece_width low + piece_width high

-- places have r0 to r27
abbrev pub Placeable : Piece → Type 0
Placeable (Register r) = r ≤ 27
Placeable (Block o w) = Unit {0}

-- 1, 2 or 4 bytes in one piece; or 8, in two pieces of 4 that are both registers or both in the block
abbrev pub WellFormed : Place → Type 0
WellFormed (Single low) = Placeable low × (piece_width low ≤ 4)
WellFormed (Double low high) = Placeable low × Placeable high × (piece_width low ≡ 4) × (piece_width high ≡ 4) × (in_block low ≡ in_block high)

-- two pieces share no byte
abbrev pub Apart : Piece → Piece → Type 0
Apart p q = (b : Byte) → Covers p b → Covers q b → ⊥

-- the pieces of a place share no byte with one another
abbrev pub PiecesApart : Place → Type 0
PiecesApart (Single low) = Unit {0}
PiecesApart (Double low high) = Apart low high

-- two places share no byte
abbrev pub PlacesApart : Place → Place → Type 0
PlacesApart p q = AllByRecursion (λ x. AllByRecursion (Apart x) (pieces q)) (pieces p)

-- no two of the places share a byte
abbrev pub EachApart : List Place → Type 0
EachApart [] = Unit {0}
EachApart (p ∷ ps) = AllByRecursion (PlacesApart p) ps × EachApart ps

-- block bytes that all lie below n
abbrev pub Below : ℕ → Piece → Type 0
Below n (Register r) = Unit {0}
Below n (Block o w) = o + bytes w ≤ n

-- a piece as it is printed: r and its number, or + offset / width
abbrev pub piece_text : Piece → List ℕ
piece_text (Register r) = 114 ∷ decimal r
piece_text (Block o w) = 43 ∷ decimal o ++ 47 ∷ decimal (bytes w)

-- a place as it is printed: its pieces, lowest first, with a space between them
abbrev pub place_text : Place → List ℕ
place_text (Single low) = piece_text low
place_text (Double low high) = piece_text low ++ 32 ∷ piece_text high
