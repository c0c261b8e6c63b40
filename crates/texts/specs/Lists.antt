-- Lists of words.
use Rattle.std.specs.Prelude.{ℕ, ◌+◌, min, cond, List, [], ◌∷◌, Option, Some, None, length, drop, take_while, nat_le, is_some, option_map}
use Rattle.std.specs.Option.{option_and_then}
use Rattle.arrayvec.specs.ArrayVec.{ArrayVec}

-- what each word of a list stands for, or none where one stands for nothing
abbrev pub all_of : {W X : Type 0} → (W → Option X) → List W → Option (List X)
all_of f [] = Some []
all_of f (w ∷ ws) = option_and_then (λ x. option_map (λ xs. x ∷ xs) (all_of f ws)) (f w)

abbrev pub all_of_at_most : {W X : Type 0} → ℕ → (W → Option X) → List W → Option (List X)
all_of_at_most n f ws = cond (nat_le (length ws) n) (all_of f ws) None

abbrev pub listed : {X : Type 0} → List X → ArrayVec X
listed xs = record { items = xs }

-- the words behind the first that stands for nothing, or that comes after n others; where there is no such word, none
abbrev pub left_behind : {W X : Type 0} → ℕ → (W → Option X) → List W → List W
left_behind n f ws = drop (min n (length (take_while (λ w. is_some (f w)) ws)) + 1) ws
