-- The stages that lines have named, and their marks.
use Rattle.std.proofs.Common.{◌≡◌, Bool, ℕ, zero, suc, ◌+◌, ◌<◌, true, false, not, List, [], ◌∷◌, ◌++◌, length, refl, ap, sym, subst, ◌∙◌, add-one, append-nil, append_assoc, inl, inr, nat_eq, arith}
use Rattle.std.proofs.lemmas.Bool.{cases_Bool, eqb-true}
use Rattle.std.specs.List.{slice_index_or, list_all}
use Rattle.pages.specs.Rules.{is_in, is_free, are_free, all_used}
use Rattle.description.specs.Readings.{Marks}
use Rattle.description.specs.declared.reading.Reading.{Reading}

pub used_if : (n : ℕ) (names : List ℕ) → ((k : ℕ) → k < n → is_in (k + 1) names ≡ true) → all_used n names ≡ true
used_if zero names h = refl
used_if (suc n) names h = rw (← add-one n, h n (omega arith), used_if n names (λ k l. h k (omega arith))) refl

pub unused_if : (n : ℕ) (names : List ℕ) (k : ℕ) → k < n → is_in (k + 1) names ≡ false → all_used n names ≡ false
unused_if zero names k l e = absurd (omega arith)
unused_if (suc n) names k l e =
    elim (cases_Bool (nat_eq k n)) [
      | inl y ↦ rw (← add-one n, ← eqb-true k n y, e) refl
      | inr o ↦ grind (arith, unused_if n names k (grind (arith, l, o)) e)
    ]

-- one more that was named
pub mark_of : (names : List ℕ) (n : ℕ) → ((k : ℕ) → k < n → is_in (k + 1) names ≡ true) → is_in (n + 1) names ≡ true → (k : ℕ) → k < n + 1 → is_in (k + 1) names ≡ true
mark_of names n h e k l =
    elim (cases_Bool (nat_eq k n)) [
      | inl y ↦ rw (eqb-true k n y) e
      | inr o ↦ h k (grind (arith, l, o))
    ]

-- no mark where nothing was named
none_marked : (marks : List Bool) (k : ℕ) → list_all not marks ≡ true → slice_index_or marks k false ≡ false
none_marked [] k e = refl
none_marked (true ∷ marks) k e = grind (arith, e)
none_marked (false ∷ marks) zero e = refl
none_marked (false ∷ marks) (suc k) e = none_marked marks k e

pub no_marks : (marks : List Bool) → list_all not marks ≡ true → Marks [] marks
no_marks marks e = λ k l. none_marked marks k e

-- some of the numbers of a line were named, behind names before; those that are left are free just where all of them were
pub record NamedUpTo (n : ℕ) (names numbers left : List ℕ) (marks : List Bool) : Type 0 where
  pub now : List ℕ
  pub marked : Marks now marks
  pub in_order : now ++ left ≡ names ++ numbers
  pub free_alike : are_free n now left ≡ are_free n names numbers

module _ (n : ℕ) (names numbers : List ℕ) where
  pub naming_begins : (marks : List Bool) → Marks names marks → NamedUpTo n names numbers numbers marks
  naming_begins marks h = record { now = names; marked = h; in_order = refl; free_alike = refl }

  pub naming_goes_on : (k : ℕ) (left : List ℕ) (before behind : List Bool) (h : NamedUpTo n names numbers (k ∷ left) before)
      → is_free n h.now k ≡ true → Marks (h.now ++ k ∷ []) behind → NamedUpTo n names numbers left behind
  naming_goes_on k left before behind h e m = record {
    now = h.now ++ k ∷ [];
    marked = m;
    in_order = append_assoc h.now (k ∷ []) left ∙ h.in_order;
    free_alike = rw e at h.free_alike;
  }

  pub naming_stops : (k : ℕ) (left : List ℕ) (marks : List Bool) (h : NamedUpTo n names numbers (k ∷ left) marks) → is_free n h.now k ≡ false → are_free n names numbers ≡ false
  naming_stops k left marks h e = sym (rw e at h.free_alike)

  pub naming_ends : (left : List ℕ) (marks : List Bool) → length left ≡ 0 → NamedUpTo n names numbers left marks → (are_free n names numbers ≡ true) × Marks (names ++ numbers) marks
  naming_ends [] marks e h = (sym h.free_alike, subst (λ xs. Marks xs marks) (sym (append-nil h.now) ∙ h.in_order) h.marked)
  naming_ends (k ∷ left) marks e h = absurd (omega (arith, e))

-- what is the same but for its marks, one after the other
pub same_but_for_marks : (r s t : Reading) → s ≡ record r { marks = s.marks } → t ≡ record s { marks = t.marks } → t ≡ record r { marks = t.marks }
same_but_for_marks r s t e f = f ∙ ap (λ (x : Reading). record x { marks = t.marks }) e
