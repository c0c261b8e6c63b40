-- Words that are joined by a separator come apart again at it.
use Rattle.std.proofs.Common.{◌≡◌, ℕ, true, false, List, [], ◌∷◌, ◌++◌, refl, ap, ◌∙◌, arith}
use Rattle.std.proofs.lemmas.List.Splits.{slice_split-cons_yes, slice_split-cons_no}
use Rattle.std.specs.Bool.{◌==◌}
use Rattle.std.specs.List.{AllByRecursion, join_with_byte, onto_first}
use Rattle.texts.specs.Parts.{parts}

-- no byte of it is c
abbrev pub Free : ℕ → List ℕ → Type 0
Free c = AllByRecursion (λ b. (b == c) ≡ false)

pub parts_of_free : (c : ℕ) (w : List ℕ) → Free c w → parts c w ≡ w ∷ []
parts_of_free c [] f = refl
parts_of_free c (b ∷ w) f = slice_split-cons_no (λ b. b == c) b w f.0 ∙ ap (onto_first b) (parts_of_free c w f.1)

separator : (c : ℕ) → (c == c) ≡ true
separator c = grind arith

pub parts_behind : (c : ℕ) (w rest : List ℕ) → Free c w → parts c (w ++ c ∷ rest) ≡ w ∷ parts c rest
parts_behind c [] rest f = slice_split-cons_yes (λ b. b == c) c rest (separator c)
parts_behind c (b ∷ w) rest f = slice_split-cons_no (λ b. b == c) b (w ++ c ∷ rest) f.0 ∙ ap (onto_first b) (parts_behind c w rest f.1)

pub parts_of_joined : (c : ℕ) (w : List ℕ) (ws : List (List ℕ)) → AllByRecursion (Free c) (w ∷ ws) → parts c (join_with_byte c (w ∷ ws)) ≡ w ∷ ws
parts_of_joined c w [] f = parts_of_free c w f.0
parts_of_joined c w (v ∷ ws) f = parts_behind c w (join_with_byte c (v ∷ ws)) f.0 ∙ ap (λ xs. w ∷ xs) (parts_of_joined c v ws f.1)

pub free_append : (c : ℕ) (v w : List ℕ) → Free c v → Free c w → Free c (v ++ w)
free_append c [] w f g = g
free_append c (b ∷ v) w f g = (f.0, free_append c v w f.1 g)
