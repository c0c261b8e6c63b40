-- The five facts that every stage shows, for every list of requests on its first book.
use Rattle.std.specs.Prelude.{◌≡◌, ℕ, ◌+◌, ◌%◌, ◌≤◌, true, false, List, is_some, Some}
use Rattle.std.specs.List.{AllByRecursion}
use Rattle.place.specs.Pieces.{pieces, low_piece, place_width, Below, WellFormed, PiecesApart, PlacesApart}
use Rattle.place.specs.Registers.{has}
use Rattle.values.specs.Sizes.{bytes}
use Rattle.place.specs.declared.pieces.Piece.{Piece}
use Rattle.place.specs.declared.pieces.Piece.TheVariants.{Register, Block}
use Rattle.place.specs.declared.pieces.Place.{Place}
use Rattle.values.specs.declared.requests.Request.{Request}
use Rattle.stage.specs.Books.{Book, Questions, said, used, after, past}

-- a register of the set
abbrev pub InSet : ℕ → Piece → Type 0
InSet set (Register x) = has set x ≡ true
InSet set (Block o w) = Unit {0}

-- in the block, at a multiple of a
abbrev pub Aligned : ℕ → Piece → Type 0
Aligned a (Register x) = Unit {0}
Aligned a (Block o w) = o % a ≡ 0

-- a place p that a stage may give for a request r, where its reach is n after it
pub record Granted (q : Questions) (r : Request) (p : Place) (n : ℕ) : Type 0 where
  pub is_well_formed : WellFormed p
  pub is_as_wide_as_requested_or_wider : bytes r.width ≤ place_width p
  pub pieces_share_no_byte : PiecesApart p
  pub registers_are_in_the_set : AllByRecursion (InSet q.registers) (pieces p)
  pub low_block_piece_is_aligned : Aligned (bytes r.alignment) (low_piece p)
  pub reach_lies_above_its_block_bytes : AllByRecursion (Below n) (pieces p)

-- what holds of a lawful stage's book b, wherever its requests have led
pub record LawfulHere (q : Questions) (b : Book) : Type 0 where
  pub places_are_granted_lawfully : (r : Request) (p : Place) → said b r ≡ Some p → Granted q r p (used (after b r))
  pub sound_places_share_no_byte : q.sound ≡ true → (r : Request) (p : Place) → said b r ≡ Some p →
      (later : List Request) (s : Request) (z : Place) → said (past (after b r) later) s ≡ Some z → PlacesApart p z
  pub reach_never_falls : (r : Request) → used b ≤ used (after b r)
  pub reach_is_at_most_4096 : used b ≤ 4096
  pub reach_is_0_without_a_block : q.block ≡ false → used b ≡ 0
  pub endless_requests_are_granted_up_to_4088 : (r : Request) → q.endless r ≡ true → used b ≤ 4088 → is_some (said b r) ≡ true

-- the facts of a stage with first book b
pub record Lawful (q : Questions) (b : Book) : Type 0 where
  pub registers_are_r0_to_r27 : (x : ℕ) → has q.registers x ≡ true → x ≤ 27
  pub reach_is_0_at_first : used b ≡ 0
  pub after_every_list : (rs : List Request) → LawfulHere q (past b rs)
