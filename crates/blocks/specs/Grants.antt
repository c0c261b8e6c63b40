-- What the block gives, by its book over every list of requests.
use Rattle.std.specs.Prelude.{◌≡◌, ℕ, ◌+◌, ◌<◌, ◌≤◌, ◌↔◌, List, Some, None, IsSome}
use Rattle.std.specs.List.{flat_map, last_or}
use Rattle.std.specs.Option.{option_map_or}
use Rattle.place.specs.Pieces.{pieces}
use Rattle.place.specs.declared.pieces.Piece.{Piece}
use Rattle.place.specs.declared.pieces.Piece.TheVariants.{Register, Block}
use Rattle.place.specs.declared.pieces.Place.{Place}
use Rattle.stage.specs.Books.{Book, granted, past, said, used, after}
use Rattle.values.specs.Sizes.{bytes, round_up}
use Rattle.values.specs.declared.requests.Request.{Request}
use Rattle.blocks.specs.Blocks.{block_place}

-- up's places follow one another without overlap, and with no gap that the alignment does not ask for
abbrev pub FollowOneAnother : Book → Type 0
FollowOneAnother b = (rs : List Request) (r : Request) (p : Place) → said (past b rs) r ≡ Some p →
    (o : ℕ) × (p ≡ block_place o r.width)
    × (used (past b rs) ≤ o) × (o < used (past b rs) + bytes r.alignment)
    × (used (after (past b rs) r) ≡ o + bytes r.width)

-- where a piece of the block ends
abbrev pub block_end : Piece → ℕ
block_end (Register x) = 0
block_end (Block o w) = o + bytes w

-- where the last of some places in the block ends, which is at 0 if there is none
abbrev pub last_end : List Place → ℕ
last_end ps = option_map_or block_end (last_or None (flat_map pieces ps)) 0

-- the next block byte at the alignment, from the bytes used on
abbrev pub next_start : Book → Request → ℕ
next_start b r = round_up (bytes r.alignment) (used b)

-- what up gives, by its book, where m is the largest alignment that it grants
pub record GivesUpward (m : ℕ) (b : Book) : Type 0 where
  pub uses_the_bytes_up_to_the_end_of_the_last_place : (rs : List Request) →
      used (past b rs) ≡ last_end (granted b rs)
  pub grants_what_fits_up_to_the_largest_alignment : (rs : List Request) (r : Request) →
      IsSome (said (past b rs) r)
      ↔ ((bytes r.alignment ≤ m) × (next_start (past b rs) r + bytes r.width ≤ 4096))
  pub gives_the_bytes_at_the_next_start : (rs : List Request) (r : Request) (p : Place) →
      said (past b rs) r ≡ Some p → p ≡ block_place (next_start (past b rs) r) r.width
  pub places_follow_one_another : FollowOneAnother b
