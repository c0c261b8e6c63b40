-- What the banks give over whole lists of requests.
use Rattle.std.proofs.Common.{◌≡◌, ℕ, zero, suc, ◌+◌, List, [], ◌∷◌, ◌++◌, map, length, get_or, take, drop, Some, IsSome, sym, refl, ap, ◌∙◌, ◌↔◌, ◌<◌, is_some, inl, inr, one-add, arith, true}
use Rattle.std.proofs.lemmas.List.{drop_more, drop_all, append-nil, length_push}
use Rattle.std.proofs.lemmas.Bool.{cases_lt, cond-true, cond-false, lt-ltb, le-ltb}
use Rattle.std.specs.Option.{option_to_list}
use Rattle.place.specs.declared.pieces.Piece.TheVariants.{Register}
use Rattle.place.specs.declared.pieces.Place.{Place}
use Rattle.place.specs.declared.pieces.Place.TheVariants.{Single}
use Rattle.stage.proofs.Cursors.{none_given, that_given}
use Rattle.stage.proofs.Traces.{by_what_was_given}
use Rattle.stage.specs.Books.{Book, granted, said}
use Rattle.stage.specs.Cursors.{Move, grant, refuse}
use Rattle.values.specs.declared.requests.Request.{Request}
use Rattle.values.specs.declared.sizes.Size.{Size}
use Rattle.values.specs.declared.sizes.Size.TheVariants.{One, Two, Four, Eight}
use Rattle.banks.specs.Banks.{register, count_move, count_does, count_book}
use Rattle.banks.specs.BanksLemmas.{count_cases}
use Rattle.banks.specs.Grants.{of_four, fours, GivesOneByOne}

abbrev ones : List ℕ → List Place
ones = map (λ x. Single (Register x))

take_none : (k : ℕ) → take {A = ℕ} k [] ≡ []
take_none zero = refl
take_none (suc k) = refl

module _ (xs : List ℕ) where
  -- what is granted from cursor n on, by the first request's move
  step : (n : ℕ) (rs : List Request) → ((n : ℕ) → granted (count_book xs n) rs ≡ ones (take (fours rs) (drop n xs))) → (w : Size) → option_to_list (count_move xs n w).answer ++ granted (count_book xs (count_move xs n w).cursor) rs ≡ ones (take (of_four w + fours rs) (drop n xs))
  step n rs ih One = ih n ∙ ap (λ k. ones (take k (drop n xs))) (omega arith)
  step n rs ih Two = ih n ∙ ap (λ k. ones (take k (drop n xs))) (omega arith)
  step n rs ih Eight = ih n ∙ ap (λ k. ones (take k (drop n xs))) (omega arith)
  step n rs ih Four =
      elim (cases_lt n (length xs)) [
        | inl l ↦
            let m : count_move xs n Four ≡ grant (register xs n) (n + 1) = cond-true _ _ _ (lt-ltb n (length xs) l) in
            ap (λ (v : Move). option_to_list v.answer ++ granted (count_book xs v.cursor) rs) m
            ∙ (ap (λ ys. Single (Register (get_or xs n 0)) ∷ ys) (ih (n + 1))
            ∙ (ap (λ ys. ones (take (suc (fours rs)) ys)) (sym (drop_more xs n 0 l)) ∙ ap (λ k. ones (take k (drop n xs))) (sym (one-add (fours rs)))))
        | inr g ↦
            let m : count_move xs n Four ≡ refuse n = cond-false _ _ _ (le-ltb n (length xs) g) in
            let none : (k : ℕ) → ones (take k (drop n xs)) ≡ [] = λ k. ap (λ ys. ones (take k ys)) (drop_all n xs g) ∙ ap ones (take_none k) in
            ap (λ (v : Move). option_to_list v.answer ++ granted (count_book xs v.cursor) rs) m ∙ (ih n ∙ (none (fours rs) ∙ sym (none (1 + fours rs))))
      ]

  from : (rs : List Request) (n : ℕ) → granted (count_book xs n) rs ≡ ones (take (fours rs) (drop n xs))
  from [] n = refl
  from (r ∷ rs) n = step n rs (from rs) r.width

  pub registers_in_order : (rs : List Request) → granted (count_book xs 0) rs ≡ ones (take (fours rs) xs)
  registers_in_order rs = from rs 0

  -- what count does behind n registers given
  abbrev NextOfThem : ℕ → Book → Type 0
  NextOfThem n b =
      ((r : Request) → IsSome (said b r) ↔ ((r.width ≡ Four) × (n < length xs)))
      × ((r : Request) (p : Place) → said b r ≡ Some p → p ≡ register xs n)

  passes : (given : List Place) (r : Request) → (count_does xs (length given) r).cursor ≡ length (given ++ option_to_list (count_does xs (length given) r).answer)
  passes given r = after r.width
    where
      stays : (w : Size) → count_move xs (length given) w ≡ refuse (length given) → (count_move xs (length given) w).cursor ≡ length (given ++ option_to_list (count_move xs (length given) w).answer)
      stays w e = rw e (sym (ap length (append-nil given)))

      after : (w : Size) → (count_move xs (length given) w).cursor ≡ length (given ++ option_to_list (count_move xs (length given) w).answer)
      after One = stays One refl
      after Two = stays Two refl
      after Eight = stays Eight refl
      after Four =
          elim (cases_lt (length given) (length xs)) [
            | inl l ↦ rw (cond-true _ (grant (register xs (length given)) (length given + 1)) (refuse (length given)) (lt-ltb _ _ l)) (sym (length_push given _))
            | inr g ↦ stays Four (cond-false _ _ _ (le-ltb _ _ g))
          ]

  grants_now : (n : ℕ) (w : Size) → (is_some (count_move xs n w).answer ≡ true) ↔ ((w ≡ Four) × (n < length xs))
  grants_now n w = (granted_then n w, λ h. rw (h.0, cond-true _ (grant (register xs n) (n + 1)) (refuse n) (lt-ltb _ _ h.1)) refl)
    where
      granted_then : (n : ℕ) (w : Size) → is_some (count_move xs n w).answer ≡ true → (w ≡ Four) × (n < length xs)
      granted_then n One h = absurd (let k : ◌≡◌ {A = ℕ} 0 1 = cc in omega arith)
      granted_then n Two h = absurd (let k : ◌≡◌ {A = ℕ} 0 1 = cc in omega arith)
      granted_then n Eight h = absurd (let k : ◌≡◌ {A = ℕ} 0 1 = cc in omega arith)
      granted_then n Four h =
          elim (cases_lt n (length xs)) [
            | inl l ↦ (refl, l)
            | inr g ↦
                let m : count_move xs n Four ≡ refuse n = cond-false _ _ _ (le-ltb n (length xs) g) in
                absurd (let k : ◌≡◌ {A = ℕ} 0 1 = cc in omega arith)
          ]

  next_of_them : (n : ℕ) → NextOfThem n (count_book xs n)
  next_of_them n = (
    λ r. grants_now n r.width,
    λ r p e. elim (count_cases xs n r.width) [
      | inl k ↦ none_given _ (count_does xs n r) n p k e
      | inr h ↦ sym (that_given (count_does xs n r) _ p _ h.0 e)
    ],
  )

  gives_from_the_first : GivesOneByOne xs (count_book xs 0)
  gives_from_the_first =
      let next = by_what_was_given (count_does xs) (λ n. 0) length passes NextOfThem next_of_them refl in
      record {
        gives_its_registers_in_order = registers_in_order;
        grants_a_width_of_one_register_while_one_is_left = λ rs r. (next rs).0 r;
        gives_the_register_behind_those_given = λ rs r p. (next rs).1 r p;
      }

pub gives_one_by_one : (xs items : List ℕ) (n : ℕ) → (items ≡ xs) × (n ≡ 0) → GivesOneByOne xs (count_book items n)
gives_one_by_one xs items n h = rw (h.0, h.1) (gives_from_the_first xs)
