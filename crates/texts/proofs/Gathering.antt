-- What the first words of a list stand for, and the words that are left.
use Rattle.std.proofs.Common.{◌≡◌, Bool, ℕ, min, drop, drop-drop, true, false, ◌+◌, ◌≤◌, cond, List, [], ◌∷◌, ◌++◌, length, Option, Some, None, option_map, refl, ap, sym, ◌∙◌, append_assoc, append-nil, length-append, nat_le, arith, map, subst}
use Rattle.std.specs.List.{AllByRecursion}
use Rattle.std.specs.Option.{option_and_then, unwrap_or}
use Rattle.std.proofs.lemmas.List.Sums.{take_while-cons}
use Rattle.std.proofs.Math.Seq.{drop-length}
use Rattle.std.specs.Prelude.{is_some, take_while}
use Rattle.texts.proofs.Cuts.{none_behind}
use Rattle.texts.specs.Lists.{all_of, all_of_at_most, left_behind}

module _ {W X : Type 0} (f : W → Option X) where
  abbrev pub stands : W → Bool
  stands w = is_some (f w)

  pub record Gathering (all : List W) (xs : List X) (left : List W) : Type 0 where
    pub the_rest_is_to_come : all_of f all ≡ option_map (λ rest. xs ++ rest) (all_of f left)
    pub counted : length all ≡ length xs + length left
    pub left_in_order : left ≡ drop (length xs) all
    pub all_before_stand_for_something : length (take_while stands all) ≡ length xs + length (take_while stands left)

  onto : (xs : List X) (x : X) (r : Option (List X)) → option_map (λ rest. xs ++ rest) (option_map (λ rest. x ∷ rest) r) ≡ option_map (λ rest. (xs ++ x ∷ []) ++ rest) r
  onto xs x None = refl
  onto xs x (Some ys) = ap Some (sym (append_assoc xs (x ∷ []) ys))

  pub gathering : (all : List W) → Gathering all [] all
  gathering all = record { the_rest_is_to_come = elim (all_of f all) as (λ r. r ≡ option_map (λ rest. rest) r) [ None ↦ refl | Some xs ↦ refl ]; counted = omega arith; left_in_order = refl; all_before_stand_for_something = omega arith }

  one_stands : (w : W) (ws : List W) (x : X) → f w ≡ Some x → length (take_while stands (w ∷ ws)) ≡ length (take_while stands ws) + 1
  one_stands w ws x e = rw (take_while-cons stands w ws, e) (omega arith)

  none_stands : (w : W) (ws : List W) → f w ≡ None → length (take_while stands (w ∷ ws)) ≡ 0
  none_stands w ws e = rw (take_while-cons stands w ws, e) refl

  behind : (all : List W) (xs : List X) (w : W) (ws : List W) (n : ℕ) → Gathering all xs (w ∷ ws) → min n (length (take_while stands all)) ≡ length xs → ws ≡ left_behind n f all
  behind all xs w ws n h e = ap (drop 1) h.left_in_order ∙ (drop-drop 1 (length xs) all ∙ ap (λ k. drop (k + 1) all) (sym e))

  gone : (all : List W) → drop (length all + 1) all ≡ []
  gone all = none_behind (length all) (length all + 1) all (drop-length all) (omega arith)

  pub gathering_more : (all : List W) (xs : List X) (w : W) (ws : List W) (x : X) → f w ≡ Some x → Gathering all xs (w ∷ ws) → Gathering all (xs ++ x ∷ []) ws
  gathering_more all xs w ws x e h = record {
    the_rest_is_to_come = h.the_rest_is_to_come ∙ rw e (onto xs x (all_of f ws));
    counted = omega (arith, h.counted, length-append xs (x ∷ []));
    left_in_order = ap (drop 1) h.left_in_order ∙ (drop-drop 1 (length xs) all ∙ ap (λ n. drop n all) (sym (length-append xs (x ∷ []))));
    all_before_stand_for_something = omega (arith, h.all_before_stand_for_something, one_stands w ws x e, length-append xs (x ∷ []));
  }

  -- what is left where a word stops the gathering, or none is left
  pub left_where_none : (all : List W) (xs : List X) (w : W) (ws : List W) (n : ℕ) → f w ≡ None → length xs ≤ n → Gathering all xs (w ∷ ws) → ws ≡ left_behind n f all
  left_where_none all xs w ws n e l h = behind all xs w ws n h (omega (arith, h.all_before_stand_for_something, none_stands w ws e, l))

  pub left_where_full : (all : List W) (xs : List X) (w : W) (ws : List W) (n : ℕ) → length xs ≡ n → Gathering all xs (w ∷ ws) → ws ≡ left_behind n f all
  left_where_full all xs w ws n e h = behind all xs w ws n h (omega (arith, h.all_before_stand_for_something, e))

  pub left_where_all : (all : List W) (xs : List X) (n : ℕ) → length xs ≤ n → Gathering all xs [] → [] ≡ left_behind n f all
  left_where_all all xs n l h =
      let read : length all ≡ length xs = omega (arith, h.counted) in
      let count : min n (length (take_while stands all)) ≡ length all = omega (arith, h.all_before_stand_for_something, l, read) in
      sym (rw count (gone all))

  pub gathering_stops : (all : List W) (xs : List X) (w : W) (ws : List W) → f w ≡ None → Gathering all xs (w ∷ ws) → all_of f all ≡ None
  gathering_stops all xs w ws e h = h.the_rest_is_to_come ∙ rw e refl

  pub none_at_most : (all : List W) (n : ℕ) → all_of f all ≡ None → all_of_at_most n f all ≡ None
  none_at_most all n e = rw e (elim (nat_le (length all) n) as (λ c. cond {A = Option (List X)} c None None ≡ None) [ true ↦ refl | false ↦ refl ])

  pub all_counted : (all : List W) (xs : List X) → all_of f all ≡ Some xs → length xs ≡ length all
  all_counted [] xs e = grind arith
  all_counted (w ∷ ws) xs e = grind (arith, all_counted ws)

  pub all_at_most : (n : ℕ) (all : List W) (xs : List X) → all_of_at_most n f all ≡ Some xs → (all_of f all ≡ Some xs) × (length xs ≡ length all) × (length all ≤ n)
  all_at_most n all xs e = grind (arith, e, all_counted all xs)

  pub gathering_too_many : (all : List W) (xs : List X) (w : W) (ws : List W) (n : ℕ) → n ≤ length xs → Gathering all xs (w ∷ ws) → all_of_at_most n f all ≡ None
  gathering_too_many all xs w ws n l h = grind (arith, h.counted, l)

  pub gathered : (all : List W) (xs : List X) (n : ℕ) → length xs ≤ n → Gathering all xs [] → all_of_at_most n f all ≡ Some xs
  gathered all xs n l h = grind (arith, h.counted, h.the_rest_is_to_come, append-nil xs, l)

-- what is written is read back, and what is read is what was written
module _ {W X : Type 0} (f : W → Option X) (written : X → W) (P : X → Type 0) where
  pub all_of_written : ((x : X) → P x → f (written x) ≡ Some x) → (xs : List X) → AllByRecursion P xs → all_of f (map written xs) ≡ Some xs
  all_of_written h [] p = refl
  all_of_written h (x ∷ xs) p = rw (h x p.0, all_of_written h xs p.1) refl

  pub written_of_all : ((w : W) (x : X) → f w ≡ Some x → P x × (written x ≡ w)) → (ws : List W) (xs : List X) → all_of f ws ≡ Some xs → AllByRecursion P xs × (map written xs ≡ ws)
  written_of_all h [] [] e = (tt, refl)
  written_of_all h [] (x ∷ xs) e = grind (arith, e)
  written_of_all h (w ∷ ws) xs e = first (f w) (all_of f ws) (h w) (written_of_all h ws) xs e
    where
      first : (r : Option X) (rest : Option (List X)) → ((x : X) → r ≡ Some x → P x × (written x ≡ w)) → ((xs : List X) → rest ≡ Some xs → AllByRecursion P xs × (map written xs ≡ ws)) → (xs : List X) → option_and_then (λ x. option_map (λ xs. x ∷ xs) rest) r ≡ Some xs → AllByRecursion P xs × (map written xs ≡ w ∷ ws)
      first None rest one more xs e = grind (arith, e)
      first (Some x) None one more xs e = grind (arith, e)
      first (Some x) (Some ys) one more xs e =
          let a = one x refl in
          let b = more ys refl in
          subst (λ zs. AllByRecursion P zs × (map written zs ≡ w ∷ ws)) (ap (λ r. unwrap_or r []) e) ((a.0, b.0), rw (a.1, b.1) refl)
