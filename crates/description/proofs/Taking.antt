-- Taking the stages that a line names.
use Rattle.std.proofs.Common.{◌≡◌, ℕ, ◌<◌, ◌≤◌, true, List, [], ◌∷◌, ◌++◌, Option, Some, None, length, refl, subst, append_assoc, arith, get_or}
use Rattle.stage.specs.Books.{Profile}
use Rattle.described.specs.Piles.{AtStart}
use Rattle.described.specs.declared.pile.Pile.{Pile}
use Rattle.pages.specs.Rules.{is_free, are_free}
use Rattle.description.specs.Profiles.{stage_at}
use Rattle.description.specs.Stages.{HasStages, AreTaken}
use Rattle.description.specs.declared.stages.Stages.{Stages}

-- a stage that was free and is taken
abbrev pub IsTaken : List Profile → List ℕ → ℕ → Pile → Stages → Type 0
IsTaken stages named k pile s = (is_free (length stages) named k ≡ true) × AtStart (stage_at stages k) pile × HasStages stages (named ++ k ∷ []) s

abbrev pub AllTaken : List Profile → List ℕ → List ℕ → Option Pile → Option Pile → Stages → Type 0
AllTaken stages named below x y s = (are_free (length stages) named below ≡ true) × AreTaken stages below x y × HasStages stages (named ++ below) s

one_item : (xs : List ℕ) → 1 ≤ length xs → length xs < 2 → get_or xs 0 0 ∷ [] ≡ xs
one_item [] l m = absurd (omega (arith, l))
one_item (x ∷ []) l m = refl
one_item (x ∷ y ∷ xs) l m = absurd (omega (arith, m))

two_items : (xs : List ℕ) → 2 ≤ length xs → length xs < 3 → get_or xs 0 0 ∷ get_or xs 1 0 ∷ [] ≡ xs
two_items [] l m = absurd (omega (arith, l))
two_items (x ∷ []) l m = absurd (omega (arith, l))
two_items (x ∷ y ∷ []) l m = refl
two_items (x ∷ y ∷ z ∷ xs) l m = absurd (omega (arith, m))

pub one_taken : (below : List ℕ) → 1 ≤ length below → length below < 2 → (stages : List Profile) (named : List ℕ) (pile : Pile) (s : Stages) → IsTaken stages named (get_or below 0 0) pile s → AllTaken stages named below (Some pile) None s
one_taken below l m stages named pile s h = subst (λ ks. AllTaken stages named ks (Some pile) None s) (one_item below l m) (rw h.0 refl, h.1, h.2)

pub two_taken : (below : List ℕ) → 2 ≤ length below → length below < 3 → (stages : List Profile) (named : List ℕ) (first second : Pile) (mid s : Stages)
    → IsTaken stages named (get_or below 0 0) first mid → IsTaken stages (named ++ get_or below 0 0 ∷ []) (get_or below 1 0) second s → AllTaken stages named below (Some first) (Some second) s
two_taken below l m stages named first second mid s h k =
    subst (λ ks. AllTaken stages named ks (Some first) (Some second) s) (two_items below l m)
    (rw (h.0, k.0) refl, (h.1, k.1), subst (λ ks. HasStages stages ks s) (append_assoc named (get_or below 0 0 ∷ []) (get_or below 1 0 ∷ [])) k.2)
