-- The registers that a callee saves.
use Rattle.std.proofs.Common.{◌≡◌, ℕ, zero, suc, ◌+◌, ◌<◌, ◌≤◌, Bool, true, false, cond, ◌&&◌, ◌||◌, ◌==◌, List, [], ◌∷◌, ◌++◌, map, length, get_or, Some, None, Option, refl, sym, ap, ◌∙◌, inl, inr, arith, zero-add, add-one}
use Rattle.std.specs.List.{list_any, filter, filter_map, cons_option, fold, range_with_len, enumerate_from}
use Rattle.std.specs.Iterator.{Yields}
use Rattle.std.proofs.lemmas.Iterator.{YieldsList}
use Rattle.std.proofs.lemmas.Iterator.Consumers.{YieldsList-turn, YieldsList-end}
use Rattle.std.proofs.lemmas.List.Sums.{length-filter, count_by-le-length}
use Rattle.std.proofs.lemmas.Bool.{cases_Bool, cond-false, both_ways, false_from_ne_true, and_right, eqb-true, eq-eqb}
use Rattle.std.proofs.lemmas.List.{map-id}
use Rattle.std.proofs.lemmas.List.FromFn.{filter_of_map_range_with_len_more, length-range_with_len, length-enumerate_from, get_or-enumerate_from}
use Rattle.machine.specs.declared.Instruction.{Instruction}
use Rattle.machine.specs.declared.Instruction.TheVariants.{Set, Mov, Add, Addi, Sign, Load, Store, Call, Ret, Halt}
use Rattle.place.specs.Registers.{has, with}
use Rattle.place.specs.declared.registers.RegisterSet.{RegisterSet}
use Rattle.place.proofs.Sets.{with_itself, with_others, with_cases, none_in_empty}
use Rattle.delivery.specs.Code.{writes, written, saved, saved_below}
use Rattle.emit.specs.Registers.{destination, members}

-- a set, with these registers besides
abbrev pub gathered : RegisterSet → List ℕ → RegisterSet
gathered = fold (λ (s : RegisterSet) (d : ℕ). record { bits = with s.bits d })

same_test : (a b : Bool) → (a ≡ true → b ≡ true) → (b ≡ true → a ≡ true) → a ≡ b
same_test true b f g = sym (f refl)
same_test false true f g = g refl
same_test false false f g = refl

or_false : (b : Bool) → (b || false) ≡ b
or_false true = refl
or_false false = refl

has_with : (set d r : ℕ) → r < 32 → has (with set d) r ≡ (has set r || (d == r))
has_with set d r h =
    elim (cases_Bool (has set r)) [
      | inl t ↦ with_others set d r t ∙ sym (ap (λ (b : Bool). b || (d == r)) t)
      | inr f ↦
          let only : has (with set d) r ≡ true → (d == r) ≡ true = λ t. elim (with_cases set d r t) [ inl a ↦ absurd (both_ways (has set r) f a) | inr e ↦ eq-eqb d r e ] in
          let it : (d == r) ≡ true → has (with set d) r ≡ true = λ q. ap (λ (x : ℕ). has (with set x) r) (eqb-true d r q) ∙ with_itself set r h in
          same_test (has (with set d) r) (d == r) only it ∙ sym (ap (λ (b : Bool). b || (d == r)) f)
    ]

has_none : (r : ℕ) → has 0 r ≡ false
has_none r = false_from_ne_true (has 0 r) (none_in_empty r)

or_assoc : (a b c : Bool) → ((a || b) || c) ≡ (a || (b || c))
or_assoc true b c = refl
or_assoc false b c = refl

none_of_them : (xs : List ℕ) → filter (has 0) xs ≡ []
none_of_them [] = refl
none_of_them (x ∷ xs) = cond-false (has 0 x) (x ∷ filter (has 0) xs) (filter (has 0) xs) (has_none x) ∙ none_of_them xs

pub no_members : members 0 ≡ []
unfolding members
no_members = none_of_them (range_with_len 0 28)

has_gathered : (ds : List ℕ) (s : RegisterSet) (r : ℕ) → r < 32 → has (gathered s ds).bits r ≡ (has s.bits r || list_any (λ d. d == r) ds)
has_gathered [] s r h = sym (or_false (has s.bits r))
has_gathered (d ∷ ds) s r h =
    has_gathered ds (record { bits = with s.bits d }) r h ∙ ap (λ (b : Bool). b || list_any (λ d. d == r) ds) (has_with s.bits d r h) ∙ or_assoc (has s.bits r) (d == r) (list_any (λ d. d == r) ds)

-- whether it is this register
abbrev hits : ℕ → Option ℕ → Bool
hits r None = false
hits r (Some d) = d == r

writes_is : (r : ℕ) (x : Instruction) → writes r x ≡ hits r (destination x)
writes_is r (Set d n) = refl
writes_is r (Mov d s) = refl
writes_is r (Add d s t) = refl
writes_is r (Addi d s i) = refl
writes_is r (Sign d s) = refl
writes_is r (Load d b i w s) = refl
writes_is r (Store s b i w) = refl
writes_is r Call = refl
writes_is r Ret = refl
writes_is r Halt = refl

kept_test : (k dk q w a : Bool) → a ≡ (k && w) → (q ≡ true → dk ≡ k) → cond dk (q || a) a ≡ (k && (q || w))
kept_test k true false w a e h = e
kept_test k false false w a e h = e
kept_test true dk true w a e h = rw (h refl) refl
kept_test false dk true w a e h = rw (h refl) e

any_kept : (r d : ℕ) (dk : Bool) (ds : List ℕ) → list_any (λ x. x == r) (cond dk (d ∷ ds) ds) ≡ cond dk ((d == r) || list_any (λ x. x == r) ds) (list_any (λ x. x == r) ds)
any_kept r d true ds = refl
any_kept r d false ds = refl

one_more_kept : (kept r : ℕ) (o : Option ℕ) (ds : List ℕ) (w : Bool) → list_any (λ d. d == r) (filter (has kept) ds) ≡ (has kept r && w) → list_any (λ d. d == r) (filter (has kept) (cons_option o ds)) ≡ (has kept r && (hits r o || w))
one_more_kept kept r None ds w e = e
one_more_kept kept r (Some d) ds w e = any_kept r d (has kept d) (filter (has kept) ds) ∙ kept_test (has kept r) (has kept d) (d == r) w _ e (λ q. ap (has kept) (eqb-true d r q))

kept_and_written : (kept r : ℕ) (body : List Instruction) → list_any (λ d. d == r) (filter (has kept) (filter_map destination body)) ≡ (has kept r && written r body)
kept_and_written kept r [] = sym (and_right (has kept r) false refl)
kept_and_written kept r (x ∷ xs) = one_more_kept kept r (destination x) (filter_map destination xs) (written r xs) (kept_and_written kept r xs) ∙ ap (λ (b : Bool). has kept r && (b || written r xs)) (sym (writes_is r x))

module _ (kept : ℕ) (body : List Instruction) (set : ℕ) (agrees : (r : ℕ) → r < 32 → has set r ≡ (has kept r && written r body)) where
  members_below : (n : ℕ) → n ≤ 28 → filter (has set) (range_with_len 0 n) ≡ saved_below n kept body
  members_below zero h = refl
  members_below (suc n) h =
      let again : (m : ℕ) → filter (has set) (map (λ (x : ℕ). x) (range_with_len 0 m)) ≡ filter (has set) (range_with_len 0 m) = λ m. ap (filter (has set)) (map-id (range_with_len 0 m)) in
      let up : filter (has set) (map (λ (x : ℕ). x) (range_with_len 0 (suc n))) ≡ filter (has set) (map (λ (x : ℕ). x) (range_with_len 0 (n + 1))) = ap (λ (m : ℕ). filter (has set) (map (λ (x : ℕ). x) (range_with_len 0 m))) (sym (add-one n)) in
      let more = filter_of_map_range_with_len_more (has set) (λ (x : ℕ). x) 0 n n (zero-add n) in
      let one_more : filter (has set) (range_with_len 0 (suc n)) ≡ filter (has set) (range_with_len 0 n) ++ cond (has set n) (n ∷ []) [] = sym (again (suc n)) ∙ (up ∙ (more ∙ ap (λ (l : List ℕ). l ++ cond (has set n) (n ∷ []) []) (again n))) in
      one_more ∙ (ap (λ (l : List ℕ). l ++ cond (has set n) (n ∷ []) []) (members_below n (omega arith)) ∙ ap (λ (b : Bool). saved_below n kept body ++ cond b (n ∷ []) []) (agrees n (omega arith)))

pub members_gathered : (kept : ℕ) (body : List Instruction) → members (gathered (record { bits = 0 }) (filter (has kept) (filter_map destination body))).bits ≡ saved kept body
unfolding members saved
members_gathered kept body = members_below kept body _ (λ r h. has_gathered _ _ r h ∙ (ap (λ (b : Bool). b || list_any (λ d. d == r) (filter (has kept) (filter_map destination body))) (has_none r) ∙ kept_and_written kept r body)) 28 (omega arith)

length_below : (test : ℕ → Bool) (a n : ℕ) → length (filter test (range_with_len a n)) ≤ n
length_below test a n = omega (arith, length-filter test (range_with_len a n), count_by-le-length test (range_with_len a n), length-range_with_len a n)

pub few_members : (set : ℕ) → length (members set) ≤ 28
unfolding members
few_members set = length_below (has set) 0 28

-- a chain that yields a set's registers, numbered from 0
module _ {S : Type 0} {steps : S → Option (ℕ × ℕ) → S → Type 0} {s : S} (set : ℕ) (chain : YieldsList steps (λ p. (p.0, p.1)) s (enumerate_from 0 (members set))) (xs : List (ℕ × ℕ)) (t : S) (y : Yields steps s xs t) (r : Option (ℕ × ℕ)) (u : S) (next : steps t r u) where
  pub numbered : (x : ℕ × ℕ) → r ≡ Some x → (length xs < length (members set)) × (x.0 ≡ length xs) × (x.1 ≡ get_or (members set) (length xs) x.1)
  numbered x e =
      let turn = YieldsList-turn chain xs t y r u x e next in
      let l : length xs < length (members set) = omega (arith, turn.0, length-enumerate_from 0 (members set)) in
      let at = turn.1 ∙ get_or-enumerate_from 0 (members set) (length xs) (x.0, x.1) l in
      (l, ap (λ (p : ℕ × ℕ). p.0) at ∙ zero-add (length xs), ap (λ (p : ℕ × ℕ). p.1) at)

  pub all_numbered : r ≡ None → length xs ≡ length (members set)
  all_numbered e = omega (arith, (YieldsList-end chain xs t y r u e next).1, length-enumerate_from 0 (members set))
