-- What the first words behind a name say of all of them.
use Rattle.std.proofs.Common.{◌≡◌, ℕ, ◌+◌, Bool, true, false, cond, ◌&&◌, ◌||◌, List, ◌∷◌, refl, arith}
use Rattle.std.proofs.lemmas.Bool.Decides.{nat_tests}
use Rattle.std.proofs.lemmas.List.Sums.{sum_by-cons}
use Rattle.std.specs.List.{list_all, count_by}
use Rattle.signatures.specs.Faults.{is_filled, is_colon, is_type_word, are_divided, are_types}

pub colons_in : (w : List ℕ) (ws : List (List ℕ)) → count_by is_colon (w ∷ ws) ≡ cond (is_colon w) 1 0 + count_by is_colon ws
colons_in w ws = sum_by-cons (λ w. cond (is_colon w) 1 0) w ws

-- some words are left of all; whether a colon was among the first, and whether these were types
pub record Checking (all : List (List ℕ)) (divided known : Bool) (left : List (List ℕ)) : Type 0 where
  pub filled : list_all is_filled all ≡ list_all is_filled left
  pub colons : count_by is_colon all ≡ cond divided 1 0 + count_by is_colon left
  pub types : are_types all ≡ (known && are_types left)

pub checking : (all : List (List ℕ)) → Checking all false true all
checking all = record { filled = refl; colons = omega arith; types = refl }

pub checking_more : (all : List (List ℕ)) (divided known : Bool) (w : List ℕ) (ws : List (List ℕ)) → is_filled w ≡ true → (is_colon w && divided) ≡ false → Checking all divided known (w ∷ ws) → Checking all (divided || is_colon w) (known && (is_colon w || is_type_word w)) ws
checking_more all divided known w ws f d h = record {
  filled = grind (arith, h.filled, f);
  colons = grind (arith, h.colons, d, colons_in w ws);
  types = grind (arith, h.types);
}

pub undivided : (all : List (List ℕ)) (divided known : Bool) (w : List ℕ) (ws : List (List ℕ)) → (is_colon w && divided) ≡ true → Checking all divided known (w ∷ ws) → are_divided all ≡ false
undivided all divided known w ws d h = grind (arith, nat_tests, h.colons, d, colons_in w ws)

pub unfilled : (all : List (List ℕ)) (divided known : Bool) (w : List ℕ) (ws : List (List ℕ)) → is_filled w ≡ false → Checking all divided known (w ∷ ws) → are_divided all ≡ false
unfilled all divided known w ws f h = grind (arith, h.filled, f)
