-- What the banks give, by a bank's book over every list of requests.
use Rattle.std.specs.Prelude.{◌≡◌, ℕ, ◌+◌, ◌*◌, ◌/◌, ◌%◌, ◌<◌, ◌≤◌, max, ◌⊎◌, ◌↔◌, List, [], ◌∷◌, map, length, take, nat_eq, Some, None, IsSome}
use Rattle.std.specs.List.{flat_map, last_or, position_or_len}
use Rattle.std.specs.Option.{option_map_or}
use Rattle.place.specs.Pieces.{pieces, low_piece}
use Rattle.place.specs.declared.pieces.Piece.{Piece}
use Rattle.place.specs.declared.pieces.Piece.TheVariants.{Register, Block}
use Rattle.place.specs.declared.pieces.Place.{Place}
use Rattle.place.specs.declared.pieces.Place.TheVariants.{Single}
use Rattle.stage.specs.Books.{Book, granted, past, said}
use Rattle.values.specs.Sizes.{bytes, round_up}
use Rattle.values.specs.declared.requests.Request.{Request}
use Rattle.values.specs.declared.sizes.Size.{Size}
use Rattle.values.specs.declared.sizes.Size.TheVariants.{One, Two, Four, Eight}
use Rattle.banks.specs.Banks.{register, register_pair}

abbrev pub of_four : Size → ℕ
of_four One = 0
of_four Two = 0
of_four Four = 1
of_four Eight = 0

-- how many requests are 4 bytes wide
abbrev pub fours : List Request → ℕ
fours [] = 0
fours (r ∷ rs) = of_four r.width + fours rs

-- what count gives of the list xs, by its book
pub record GivesOneByOne (xs : List ℕ) (b : Book) : Type 0 where
  -- one register to each request of 4 bytes, in the list's order, until none is left
  pub gives_its_registers_in_order : (rs : List Request) →
      granted b rs ≡ map (λ x. Single (Register x)) (take (fours rs) xs)
  pub grants_a_width_of_one_register_while_one_is_left : (rs : List Request) (r : Request) →
      IsSome (said (past b rs) r) ↔ ((r.width ≡ Four) × (length (granted b rs) < length xs))
  -- as many registers as were granted stand before the one that it gives
  pub gives_the_register_behind_those_given : (rs : List Request) (r : Request) (p : Place) →
      said (past b rs) r ≡ Some p → p ≡ register xs (length (granted b rs))

-- where a register begins in the bytes of a list, 4 to a register
abbrev pub start_in : List ℕ → Piece → ℕ
start_in xs (Register x) = 4 * position_or_len (nat_eq x) xs
start_in xs (Block o w) = 0

abbrev pub end_in : List ℕ → Piece → ℕ
end_in xs x = start_in xs x + 4

-- where the last of some places ends in the bytes of a list, which is at 0 if there is none
abbrev pub last_end : List ℕ → List Place → ℕ
last_end xs ps = option_map_or (end_in xs) (last_or None (flat_map pieces ps)) 0

-- the next byte, from the end of what was given on, that is a multiple of the alignment and begins a register
abbrev pub next_start : List ℕ → List Place → Request → ℕ
next_start xs given r = round_up (max 4 (bytes r.alignment)) (last_end xs given)

abbrev pub IsOneOrTwoRegistersWide : Request → Type 0
IsOneOrTwoRegistersWide r = (r.width ≡ Four) ⊎ (r.width ≡ Eight)

-- a place for the request in the list of registers from index i on
abbrev pub StandsAt : List ℕ → Request → Place → ℕ → Type 0
StandsAt xs r p i =
    ((r.width ≡ Four) × (p ≡ register xs i) × (i + 1 ≤ length xs))
    ⊎ ((r.width ≡ Eight) × (p ≡ register_pair xs i) × (i + 2 ≤ length xs))

-- what bits gives of the list xs, by its book
pub record GivesByBytes (xs : List ℕ) (b : Book) : Type 0 where
  pub grants_one_or_two_registers_while_they_fit : (rs : List Request) (r : Request) →
      IsSome (said (past b rs) r)
      ↔ (IsOneOrTwoRegistersWide r × (next_start xs (granted b rs) r + bytes r.width ≤ 4 * length xs))
  pub gives_the_registers_at_the_next_start : (rs : List Request) (r : Request) (p : Place) →
      said (past b rs) r ≡ Some p → StandsAt xs r p (next_start xs (granted b rs) r / 4)
  pub begins_no_place_before_the_last_one_ends : (rs : List Request) (r : Request) (p : Place) →
      said (past b rs) r ≡ Some p → last_end xs (granted b rs) ≤ start_in xs (low_piece p)
  pub starts_at_multiples_of_the_alignment : (rs : List Request) (r : Request) (p : Place) →
      said (past b rs) r ≡ Some p → start_in xs (low_piece p) % bytes r.alignment ≡ 0
