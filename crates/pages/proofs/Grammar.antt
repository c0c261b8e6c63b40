-- A text is without fault exactly where a proper page writes it.
use Rattle.std.proofs.Common.{◌≡◌, inl, inr, ℕ, zero, suc, ◌+◌, ◌<◌, ◌≤◌, Bool, true, false, cond, not, ◌&&◌, List, [], ◌∷◌, ◌++◌, map, Option, Some, None, refl, ap, sym, subst, ◌∙◌, append-nil, append_assoc, nat_eq, nat_le, arith}
use Rattle.std.proofs.lemmas.Bool.{cases_Bool, and_parts, le-leb, leb-true, eq-eqb, eqb-true, not-true}
use Rattle.std.proofs.lemmas.List.{map-append}
use Rattle.std.proofs.lemmas.List.Folds.{concat-append}
use Rattle.std.specs.List.{AllByRecursion, concat}
use Rattle.pages.specs.Pages.{is_in_range, named, all_named, times}
use Rattle.pages.specs.Rules.{is_stage, stages_in, closing_in, place_of, is_in, are_free, number_of_fault, all_used}
use Rattle.pages.specs.declared.lines.Line.{Line}

-- what a line without fault shows

pub record IsFaultless (before : List Line) (l : Line) : Type 0 where
  pub in_order : closing_in before ≡ place_of l
  pub in_range : is_in_range l ≡ true
  pub names_free_stages : are_free (stages_in before) (all_named before) (named l) ≡ true
  pub few_stages : is_stage l ≡ true → stages_in before < 24

pub faultless : (before : List Line) (l : Line) → number_of_fault before l ≡ None → IsFaultless before l
faultless before l h = by (nat_eq (closing_in before) (place_of l)) (is_in_range l) (are_free (stages_in before) (all_named before) (named l)) (is_stage l && nat_le 24 (stages_in before)) refl refl refl refl h
  where
    by : (a b c d : Bool) → nat_eq (closing_in before) (place_of l) ≡ a → is_in_range l ≡ b → are_free (stages_in before) (all_named before) (named l) ≡ c → (is_stage l && nat_le 24 (stages_in before)) ≡ d
        → cond {A = Option ℕ} a (cond b (cond c (cond d (Some 5) None) (Some 4)) (Some 3)) (Some 2) ≡ None → IsFaultless before l
    by true true true false e f g k h = record { in_order = eqb-true _ _ e; in_range = f; names_free_stages = g; few_stages = λ s. grind (arith, k, s) }
    by true true true true e f g k h = grind (arith, h)
    by true true false d e f g k h = grind (arith, h)
    by true false c d e f g k h = grind (arith, h)
    by false b c d e f g k h = grind (arith, h)

pub no_fault : (before : List Line) (l : Line) → IsFaultless before l → number_of_fault before l ≡ None
no_fault before l h = by (is_stage l) refl
  where
    by : (s : Bool) → is_stage l ≡ s → number_of_fault before l ≡ None
    by true e = grind (arith, h.in_order, h.in_range, h.names_free_stages, h.few_stages e, e)
    by false e = grind (arith, h.in_order, h.in_range, h.names_free_stages, e)

-- lists of lines, put together

pub stages_append : (xs ys : List Line) → stages_in (xs ++ ys) ≡ stages_in xs + stages_in ys
stages_append [] ys = omega arith
stages_append (x ∷ xs) ys = grind (arith, stages_append xs ys)

pub closing_append : (xs ys : List Line) → closing_in (xs ++ ys) ≡ closing_in xs + closing_in ys
closing_append [] ys = omega arith
closing_append (x ∷ xs) ys = grind (arith, closing_append xs ys)

pub named_append : (xs ys : List Line) → all_named (xs ++ ys) ≡ all_named xs ++ all_named ys
named_append xs ys = ap concat (map-append named xs ys) ∙ concat-append (map named xs) (map named ys)

pub times_append : (k : ℕ) (xs ys : List ℕ) → times k (xs ++ ys) ≡ times k xs + times k ys
times_append k [] ys = omega arith
times_append k (x ∷ xs) ys = grind (arith, times_append k xs ys)

not_in : (k : ℕ) (xs : List ℕ) → is_in k xs ≡ false → times k xs ≡ 0
not_in k [] h = refl
not_in k (x ∷ xs) h = grind (arith, not_in k xs, h)

in_once : (k : ℕ) (xs : List ℕ) → is_in k xs ≡ true → 1 ≤ times k xs
in_once k [] h = grind (arith, h)
in_once k (x ∷ xs) h = grind (arith, in_once k xs, h)

-- the numbers 1 to n
abbrev pub Within : ℕ → ℕ → Type 0
Within n k = (1 ≤ k) × (k ≤ n)

free_parts : (n : ℕ) (before : List ℕ) (k : ℕ) (ks : List ℕ) → are_free n before (k ∷ ks) ≡ true → Within n k × (is_in k before ≡ false) × (are_free n (before ++ k ∷ []) ks ≡ true)
free_parts n before k ks h =
    let a = and_parts (nat_le 1 k && nat_le k n && not (is_in k before)) (are_free n (before ++ k ∷ []) ks) h in
    let b = and_parts (nat_le 1 k && nat_le k n) (not (is_in k before)) a.0 in
    let c = and_parts (nat_le 1 k) (nat_le k n) b.0 in
    ((leb-true 1 k c.0, leb-true k n c.1), not-true (is_in k before) b.1, a.1)

free_both : (n : ℕ) (before : List ℕ) (k : ℕ) (ks : List ℕ) → Within n k → is_in k before ≡ false → are_free n (before ++ k ∷ []) ks ≡ true → are_free n before (k ∷ ks) ≡ true
free_both n before k ks w e h = rw (le-leb 1 k w.0, le-leb k n w.1, e, h) refl

-- the numbers that were free are within, and none of them twice
pub free_within : (n : ℕ) (before ks : List ℕ) → are_free n before ks ≡ true → AllByRecursion (Within n) ks
free_within n before [] h = tt
free_within n before (k ∷ ks) h = let p = free_parts n before k ks h in (p.0, free_within n (before ++ k ∷ []) ks p.2)

once_more : (before : List ℕ) (j : ℕ) → is_in j before ≡ false → ((k : ℕ) → times k before ≤ 1) → (k : ℕ) → times k (before ++ j ∷ []) ≤ 1
once_more before j e once k =
    elim (cases_Bool (nat_eq j k)) [
      | inl y ↦ grind (arith, times_append k before (j ∷ []), not_in k before (subst (λ i. is_in i before ≡ false) (eqb-true j k y) e), y)
      | inr n ↦ grind (arith, times_append k before (j ∷ []), once k, n)
    ]

pub free_once : (n : ℕ) (before ks : List ℕ) → are_free n before ks ≡ true → ((k : ℕ) → times k before ≤ 1) → (k : ℕ) → times k (before ++ ks) ≤ 1
free_once n before [] h once k = subst (λ xs. times k xs ≤ 1) (sym (append-nil before)) (once k)
free_once n before (j ∷ ks) h once k =
    let p = free_parts n before j ks h in
    subst (λ xs. times k xs ≤ 1) (append_assoc before (j ∷ []) ks) (free_once n (before ++ j ∷ []) ks p.2 (once_more before j p.1 once) k)

-- a number that is named once in all was not named before
fresh : (k : ℕ) (before rest : List ℕ) → times k (before ++ k ∷ rest) ≤ 1 → is_in k before ≡ false
fresh k before rest once =
    elim (cases_Bool (is_in k before)) [
      | inl y ↦ absurd (omega (arith, in_once k before y, times_append k before (k ∷ rest), itself, once))
      | inr n ↦ n
    ]
  where
    itself : 1 ≤ times k (k ∷ rest)
    itself = rw (eq-eqb k k refl) (omega arith)

pub are_free_once : (n : ℕ) (before ks rest : List ℕ) → AllByRecursion (Within n) ks → ((k : ℕ) → 1 ≤ k → k ≤ n → times k (before ++ (ks ++ rest)) ≤ 1) → are_free n before ks ≡ true
are_free_once n before [] rest w once = refl
are_free_once n before (k ∷ ks) rest w once =
    free_both n before k ks w.0 (fresh k before (ks ++ rest) (once k w.0.0 w.0.1)) (are_free_once n (before ++ k ∷ []) ks rest w.1 (λ j l m. subst (λ xs. times j xs ≤ 1) (sym (append_assoc before (k ∷ []) (ks ++ rest))) (once j l m)))

pub used_all : (n : ℕ) (used : List ℕ) → all_used n used ≡ true → (k : ℕ) → 1 ≤ k → k ≤ n → 1 ≤ times k used
used_all zero used h k l m = absurd (omega arith)
used_all (suc n) used h k l m =
    let p = and_parts (is_in (suc n) used) (all_used n used) h in
    elim (cases_Bool (nat_eq k (suc n))) [
      | inl y ↦ rw (eqb-true k (suc n) y) (in_once (suc n) used p.0)
      | inr o ↦ used_all n used p.1 k l (grind (arith, o))
    ]

pub all_used_once : (n : ℕ) (used : List ℕ) → ((k : ℕ) → 1 ≤ k → k ≤ n → 1 ≤ times k used) → all_used n used ≡ true
all_used_once zero used h = refl
all_used_once (suc n) used h =
    elim (cases_Bool (is_in (suc n) used)) [
      | inl y ↦ rw (y, all_used_once n used (λ k l m. h k l (omega arith))) refl
      | inr o ↦ absurd (omega (arith, not_in (suc n) used o, h (suc n) (omega arith) (omega arith)))
    ]
