-- Over and choose are lawful where both their sides are.
use Rattle.std.specs.Prelude.{◌≡◌, ◌≤◌, Bool, true, false, cond, ◌||◌, ◌⊎◌, [], is_some, Some, None, Option, refl}
use Rattle.std.proofs.Common.{inl, inr, ap, ◌∙◌, arith}
use Rattle.std.proofs.lemmas.Bool.{or_cases}
use Rattle.std.specs.Option.{option_or}
use Rattle.place.specs.declared.pieces.Place.{Place}
use Rattle.stage.specs.Books.{Book, Questions, Profile, Alike, said, after}
use Rattle.stage.specs.Lawful.{Lawful}
use Rattle.values.specs.declared.requests.Request.{Request}
use Rattle.sides.specs.Sides.{Sides, larger, first_on, second_on, both_on, choose_next, choose_book, choose_questions, choose_profile, over_next, over_book, over_questions, over_profile}
use Rattle.sides.specs.TwoSides.{FirstGave, SecondGave, sides_lawful}

-- over

over_keeps : (P Q : Book → Type 0) → ((b : Book) (r : Request) → P b → P (after b r)) → ((b : Book) (r : Request) → Q b → Q (after b r)) → (s : Sides) (r : Request) → P s.first × Q s.second → P (over_next s r).first × Q (over_next s r).second
over_keeps P Q f g s r h =
    elim (is_some (said s.first r)) as (λ c. P (cond c (first_on s r) (both_on s r)).first × Q (cond c (first_on s r) (both_on s r)).second) [ true ↦ (f s.first r h.0, h.1) | false ↦ (f s.first r h.0, g s.second r h.1) ]

first_or_second : (x y : Option Place) (z : Place) → option_or x y ≡ Some z → (x ≡ Some z) ⊎ ((x ≡ None) × (y ≡ Some z))
first_or_second None y z e = inr (refl, e)
first_or_second (Some w) y z e = inl e

over_gave : (s : Sides) (r : Request) (z : Place) → option_or (said s.first r) (said s.second r) ≡ Some z → FirstGave over_next s r z ⊎ SecondGave over_next s r z
over_gave s r z e =
    elim (first_or_second (said s.first r) (said s.second r) z e) [
      | inl k ↦ inl (k, ap (λ o. (cond (is_some o) (first_on s r) (both_on s r)).first) k)
      | inr k ↦ inr (k.1, ap (λ o. (cond (is_some o) (first_on s r) (both_on s r)).second) k.0)
    ]

some_first : (x y : Option Place) → is_some x ≡ true → is_some (option_or x y) ≡ true
some_first None y e = cc
some_first (Some w) y e = refl

some_second : (x y : Option Place) → is_some y ≡ true → is_some (option_or x y) ≡ true
some_second None y e = e
some_second (Some w) y e = refl

pub over_lawful : (p q : Questions) (a b : Book) → Lawful p a → Lawful q b → Lawful (over_questions p q) (over_book a b)
over_lawful p q =
    sides_lawful p q (λ r. p.endless r || q.endless r) (λ s r. option_or (said s.first r) (said s.second r)) over_next over_keeps over_gave (λ s r h e l.
    elim (or_cases (p.endless r) (q.endless r) e) [
      | inl k ↦ some_first (said s.first r) (said s.second r) ((h.0 []).endless_requests_are_granted_up_to_4088 r k (omega arith))
      | inr k ↦ some_second (said s.first r) (said s.second r) ((h.1 []).endless_requests_are_granted_up_to_4088 r k (omega arith))
    ])

-- choose

choose_keeps : (chosen : Request → Bool) (P Q : Book → Type 0) → ((b : Book) (r : Request) → P b → P (after b r)) → ((b : Book) (r : Request) → Q b → Q (after b r)) → (s : Sides) (r : Request) → P s.first × Q s.second → P (choose_next chosen s r).first × Q (choose_next chosen s r).second
choose_keeps chosen P Q f g s r h =
    elim (chosen r) as (λ c. P (cond c (first_on s r) (second_on s r)).first × Q (cond c (first_on s r) (second_on s r)).second) [ true ↦ (f s.first r h.0, h.1) | false ↦ (h.0, g s.second r h.1) ]

choose_gave : (chosen : Request → Bool) (s : Sides) (r : Request) (z : Place) → cond (chosen r) (said s.first r) (said s.second r) ≡ Some z → FirstGave (choose_next chosen) s r z ⊎ SecondGave (choose_next chosen) s r z
choose_gave chosen s r z =
    elim (chosen r) as (λ c. cond c (said s.first r) (said s.second r) ≡ Some z → ((said s.first r ≡ Some z) × ((cond c (first_on s r) (second_on s r)).first ≡ after s.first r)) ⊎ ((said s.second r ≡ Some z) × ((cond c (first_on s r) (second_on s r)).second ≡ after s.second r))) [
      | true ↦ λ e. inl (e, refl)
      | false ↦ λ e. inr (e, refl)
    ]

pub choose_lawful : (chosen : Request → Bool) (p q : Questions) (a b : Book) → Lawful p a → Lawful q b → Lawful (choose_questions chosen p q) (choose_book chosen a b)
choose_lawful chosen p q =
    sides_lawful p q (λ r. cond (chosen r) (p.endless r) (q.endless r)) (λ s r. cond (chosen r) (said s.first r) (said s.second r)) (choose_next chosen) (choose_keeps chosen) (choose_gave chosen) (λ s r h.
    elim (chosen r) as (λ c. cond c (p.endless r) (q.endless r) ≡ true → larger s ≤ 4088 → is_some (cond c (said s.first r) (said s.second r)) ≡ true) [
      | true ↦ λ e l. (h.0 []).endless_requests_are_granted_up_to_4088 r e (omega arith)
      | false ↦ λ e l. (h.1 []).endless_requests_are_granted_up_to_4088 r e (omega arith)
    ])

-- sides that are alike are alike in a layer over both

at_both : {X Y : Type 0} (f : X → X → Y) (a b c d : X) → a ≡ b → c ≡ d → f a c ≡ f b d
at_both f a b c d e h = ap (λ x. f x c) e ∙ ap (f b) h

pub choose_alike : (chosen : Request → Bool) (p p' q q' : Profile) → Alike p p' → Alike q q' → Alike (choose_profile chosen p q) (choose_profile chosen p' q')
choose_alike chosen p p' q q' h k = record {
  equal_first_books = at_both (choose_book chosen) _ _ _ _ h.equal_first_books k.equal_first_books;
  equal_answers_to_questions = at_both (choose_questions chosen) _ _ _ _ h.equal_answers_to_questions k.equal_answers_to_questions;
}

pub over_alike : (p p' q q' : Profile) → Alike p p' → Alike q q' → Alike (over_profile p q) (over_profile p' q')
over_alike p p' q q' h k = record {
  equal_first_books = at_both over_book _ _ _ _ h.equal_first_books k.equal_first_books;
  equal_answers_to_questions = at_both over_questions _ _ _ _ h.equal_answers_to_questions k.equal_answers_to_questions;
}
