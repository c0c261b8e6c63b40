-- Which lists of registers a bank may hold.
use Rattle.std.proofs.Common.{◌≡◌, ℕ, zero, suc, true, false, ◌⊎◌, ◌↔◌, List, [], ◌∷◌, length, slice_index, SomeIndex, Ok, Err, Some, None, Option, Result, IfOk, IsOk, nat_le, refl, sym, ap, ◌∙◌, inl, inr, arith}
use Rattle.std.proofs.lemmas.Bool.{cases_Bool, cond-true, cond-false, leb-true, leb-false, and_parts}
use Rattle.place.proofs.Sets.{none_in_empty, with_cases}
use Rattle.place.specs.Registers.{has, with}
use Rattle.stage.specs.Faults.{Fault, fault_of, unplaced}
use Rattle.stage.specs.declared.ParameterFault.{ParameterFault}
use Rattle.banks.specs.Lists.{fresh_in, distinct, counted, list_fault, HasRightCount, HasWrongCount, AreDifferentRegisters, IsRegisterList, HasOneAboveR27, HasOneTwice, HasWrongRegister, IsRefusedWith}
use Rattle.banks.specs.BanksLemmas.{at_most_27, differ_at}

-- why the registers of a list are not all new to a set
abbrev Stale : ℕ → List ℕ → Type 0
Stale set xs = HasOneAboveR27 xs ⊎ (HasOneTwice xs ⊎ SomeIndex xs (λ i. has set (slice_index xs i) ≡ true))

stale_later : (set x : ℕ) (xs : List ℕ) → Stale (with set x) xs → Stale set (x ∷ xs)
stale_later set x xs s =
    elim s [
      | inl a ↦ inl (suc a.0, omega (arith, a.1), a.2)
      | inr t ↦ elim t [
        | inl b ↦ inr (inl (suc b.0, omega (arith, b.1), (suc b.2.0, omega (arith, b.2.1), b.2.2)))
        | inr k ↦ elim (with_cases set x (slice_index xs k.0) k.2) [
          | inl old ↦ inr (inr (suc k.0, omega (arith, k.1), old))
          | inr same ↦ inr (inl (suc k.0, omega (arith, k.1), (zero, omega arith, same)))
        ]
      ]
    ]

stale : (xs : List ℕ) (set : ℕ) → fresh_in set xs ≡ false → Stale set xs
stale [] set h = absurd (let w : ◌≡◌ {A = ℕ} 0 1 = cc in omega arith)
stale (x ∷ xs) set h =
    elim (cases_Bool (nat_le x 27)) [
      | inr f ↦ inl (0, omega arith, leb-false x 27 f)
      | inl t ↦ elim (cases_Bool (has set x)) [
        | inl k ↦ inr (inr (0, omega arith, k))
        | inr n ↦ stale_later set x xs (stale xs (with set x) (sym (rw (t, n)) ∙ h))
      ]
    ]

some_spoiled : (xs : List ℕ) → distinct xs ≡ false → HasOneAboveR27 xs ⊎ HasOneTwice xs
some_spoiled xs h =
    elim (stale xs 0 h) [ inl a ↦ inl a | inr t ↦ elim t [ inl b ↦ inr b | inr k ↦ absurd (none_in_empty (slice_index xs k.0) k.2) ] ]

all_different : (xs : List ℕ) → distinct xs ≡ true → AreDifferentRegisters xs
all_different xs d = record {
  each_is_at_most_r27 = λ i l. at_most_27 xs 0 i d l;
  no_two_are_the_same = λ i j l m. differ_at xs 0 i j d l m;
}

abbrev number_or_0 : Option Fault → ℕ
number_or_0 None = 0
number_or_0 (Some f) = f.number

module _ (xs : List ℕ) where
  abbrev Good : Type 0
  Good = (list_fault xs ≡ None) × IsRegisterList xs

  abbrev Miscounted : Type 0
  Miscounted = (list_fault xs ≡ Some (unplaced 2)) × HasWrongCount xs

  abbrev Spoiled : Type 0
  Spoiled = (list_fault xs ≡ Some (unplaced 3)) × HasWrongRegister xs

  miscounted : counted xs ≡ false → HasWrongCount xs
  miscounted h =
      elim (cases_Bool (nat_le 1 (length xs))) [
        | inr f ↦ inl (omega (arith, leb-false 1 (length xs) f))
        | inl t ↦ inr (leb-false (length xs) 16 (sym (rw t) ∙ h))
      ]

  pub cases : Good ⊎ (Miscounted ⊎ Spoiled)
  cases =
      elim (cases_Bool (counted xs)) [
        | inr f ↦ inr (inl (cond-false _ _ _ f, miscounted f))
        | inl t ↦
            let both = and_parts (nat_le 1 (length xs)) _ t in
            let few : HasRightCount xs = (leb-true _ _ both.0, leb-true _ _ both.1) in
            elim (cases_Bool (distinct xs)) [
              | inl d ↦ inl (cond-true _ _ _ t ∙ cond-true _ _ _ d, (few, all_different xs d))
              | inr n ↦ inr (inr (cond-true _ _ _ t ∙ cond-false _ _ _ n, (few, some_spoiled xs n)))
            ]
      ]

  not_good : AreDifferentRegisters xs → HasOneAboveR27 xs ⊎ HasOneTwice xs → ⊥
  not_good d s = elim s [ inl a ↦ let l = d.each_is_at_most_r27 a.0 a.1 in omega (arith, a.2, l) | inr t ↦ d.no_two_are_the_same t.2.0 t.0 t.2.1 t.1 t.2.2 ]

  none_is_no_fault : {X : Type 0} (f : Fault) → ◌≡◌ {A = Option Fault} None (Some f) → X
  none_is_no_fault f e = absurd (let w : ◌≡◌ {A = ℕ} 0 1 = cc in omega arith)

  form_is_not_range : {X : Type 0} → ◌≡◌ {A = Option Fault} (Some (unplaced 2)) (Some (unplaced 3)) → X
  form_is_not_range e = absurd (let w : ◌≡◌ {A = ℕ} 2 3 = ap number_or_0 e in omega arith)

  module _ {X : Type 0} where
    ok_has_none : (r : Result X ParameterFault) → IsOk r → fault_of r ≡ None
    ok_has_none (Ok x) h = refl
    ok_has_none (Err f) h = absurd (let w : ◌≡◌ {A = ℕ} 0 1 = cc in omega arith)

    none_is_ok : (r : Result X ParameterFault) → fault_of r ≡ None → IsOk r
    none_is_ok (Ok x) h = refl
    none_is_ok (Err f) h = none_is_no_fault _ (sym h)

    pub accepted : (r : Result X ParameterFault) → fault_of r ≡ list_fault xs → IsOk r ↔ IsRegisterList xs
    accepted r e = (
      λ h. elim cases [
        | inl g ↦ g.1
        | inr t ↦ elim t [ inl m ↦ none_is_no_fault _ (sym (ok_has_none r h) ∙ (e ∙ m.0)) | inr s ↦ none_is_no_fault _ (sym (ok_has_none r h) ∙ (e ∙ s.0)) ]
      ],
      λ d. elim cases [
        | inl g ↦ none_is_ok r (e ∙ g.0)
        | inr t ↦ elim t [ inl m ↦ absurd (elim m.1 [ inl z ↦ omega (arith, z, d.0) | inr l ↦ omega (arith, l, d.0) ]) | inr s ↦ absurd (not_good d.1 s.1.1) ]
      ],
    )

    pub out_of_range : (r : Result X ParameterFault) → fault_of r ≡ list_fault xs → IsRefusedWith 3 r ↔ HasWrongRegister xs
    out_of_range r e = (
      λ h. elim cases [
        | inl g ↦ none_is_no_fault _ (sym g.0 ∙ (sym e ∙ h))
        | inr t ↦ elim t [ inl m ↦ form_is_not_range (sym m.0 ∙ (sym e ∙ h)) | inr s ↦ s.1 ]
      ],
      λ d. elim cases [
        | inl g ↦ absurd (not_good g.1.1 d.1)
        | inr t ↦ elim t [ inl m ↦ absurd (elim m.1 [ inl z ↦ omega (arith, z, d.0) | inr l ↦ omega (arith, l, d.0) ]) | inr s ↦ e ∙ s.0 ]
      ],
    )

    -- an answer that is a value was given for distinct registers
    pub if_distinct : (r : Result X ParameterFault) (Q P : X → Type 0) → fault_of r ≡ list_fault xs → IfOk r Q → ((x : X) → distinct xs ≡ true → Q x → P x) → IfOk r P
    if_distinct (Err f) Q P e q h = tt
    if_distinct (Ok x) Q P e q h =
        elim (cases_Bool (counted xs)) [
          | inr f ↦ none_is_no_fault _ (e ∙ cond-false _ _ _ f)
          | inl t ↦ elim (cases_Bool (distinct xs)) [ inl d ↦ h x d q | inr n ↦ none_is_no_fault _ (e ∙ (cond-true _ _ _ t ∙ cond-false _ _ _ n)) ]
        ]
