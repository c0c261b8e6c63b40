-- The meaning of the layers over two sides, by the meaning of the sides.
use Rattle.std.specs.Prelude.{ℕ, max, Bool, cond, not, ◌&&◌, ◌||◌, [], ◌∷◌, is_some, bit_or}
use Rattle.std.specs.Option.{option_or}
use Rattle.place.specs.Registers.{apart}
use Rattle.stage.specs.Books.{Book, Blame, Entry, Questions, Profile, book_of, after, said, used}
use Rattle.values.specs.declared.requests.Request.{Request}

-- the books of two sides
pub record Sides : Type 0 where
  pub first : Book
  pub second : Book

abbrev pub sides : Book → Book → Sides
sides a b = record { first = a; second = b }

-- the reach of two sides is the larger
abbrev pub larger : Sides → ℕ
larger s = max (used s.first) (used s.second)

-- the sides after a request that went to the first, to the second, or to both
abbrev pub first_on : Sides → Request → Sides
first_on s r = sides (after s.first r) s.second

abbrev pub second_on : Sides → Request → Sides
second_on s r = sides s.first (after s.second r)

abbrev pub both_on : Sides → Request → Sides
both_on s r = sides (after s.first r) (after s.second r)

-- both are sound, no register is in both sets, and at most one has a block
abbrev pub sound_together : Questions → Questions → Bool
sound_together p q = p.sound && (q.sound && (apart p.registers q.registers && not (p.block && q.block)))

-- the answers of two sides: the sets join, and either's block counts
abbrev pub joined : Questions → Questions → (Request → Bool) → Questions
joined p q endless = record {
  registers = bit_or p.registers q.registers;
  block = p.block || q.block;
  sound = sound_together p q;
  endless = endless;
}

-- choose: a request that is chosen goes to the first side, any other to the second
abbrev pub choose_shows : (Request → Bool) → Sides → Entry
choose_shows chosen s = record { reach = larger s; answer = λ r. cond (chosen r) (said s.first r) (said s.second r) }

abbrev pub choose_next : (Request → Bool) → Sides → Request → Sides
choose_next chosen s r = cond (chosen r) (first_on s r) (second_on s r)

abbrev pub choose_book : (Request → Bool) → Book → Book → Book
choose_book chosen a b = book_of (choose_shows chosen) (choose_next chosen) (sides a b)

abbrev pub choose_blame : (Request → Bool) → Blame → Blame → Blame
choose_blame chosen k l [] = λ r. cond (chosen r) (k [] r) (l [] r)
choose_blame chosen k l (r ∷ rs) = choose_blame chosen (cond (chosen r) (after k r) k) (cond (chosen r) l (after l r)) rs

abbrev pub choose_questions : (Request → Bool) → Questions → Questions → Questions
choose_questions chosen p q = joined p q (λ r. cond (chosen r) (p.endless r) (q.endless r))

abbrev pub choose_profile : (Request → Bool) → Profile → Profile → Profile
choose_profile chosen p q = record {
  first = choose_book chosen p.first q.first;
  first_blame = choose_blame chosen p.first_blame q.first_blame;
  questions = choose_questions chosen p.questions q.questions;
}

-- over: only what the first side refuses goes to the second
abbrev pub over_shows : Sides → Entry
over_shows s = record { reach = larger s; answer = λ r. option_or (said s.first r) (said s.second r) }

abbrev pub over_next : Sides → Request → Sides
over_next s r = cond (is_some (said s.first r)) (first_on s r) (both_on s r)

abbrev pub over_book : Book → Book → Book
over_book a b = book_of over_shows over_next (sides a b)

-- it is the second side that refuses
abbrev pub over_blame : Book → Blame → Blame
over_blame a l [] = l []
over_blame a l (r ∷ rs) = over_blame (after a r) (cond (is_some (said a r)) l (after l r)) rs

abbrev pub over_questions : Questions → Questions → Questions
over_questions p q = joined p q (λ r. p.endless r || q.endless r)

abbrev pub over_profile : Profile → Profile → Profile
over_profile p q = record {
  first = over_book p.first q.first;
  first_blame = over_blame p.first q.first_blame;
  questions = over_questions p.questions q.questions;
}
