-- Allocations that answer alike: with equal books, equal soundness and equal places held.
use Rattle.std.proofs.Common.{◌≡◌, ℕ, List, [], ◌∷◌, ◌++◌, length, Some, None, Ok, Err, Option, Result, sym, refl, ap, ◌∙◌, subst}
use Rattle.std.specs.Option.{option_map, option_to_list}
use Rattle.values.specs.declared.requests.Request.{Request}
use Rattle.place.specs.declared.pieces.Place.{Place}
use Rattle.stage.specs.Books.{Alike, Book, Profile, Questions, said, after}
use Rattle.place.specs.Holdings.{Holding}
use Rattle.allocation.specs.States.{State, opened}
use Rattle.allocation.specs.Rules.{request_of, reaching_with, reaching, answer_for, pile_answer, holding_for, placed_by, placed, place_answer}
use Rattle.histories.proofs.Leaving.{rest_is_forgotten}
use Rattle.histories.specs.Events.{requests_since}
use Rattle.histories.specs.Histories.{placed_all, answers}
use Rattle.histories.specs.Laws.{EqualRequestsGetEqualAnswers}
use Rattle.allocation.specs.declared.asked.Asked.{Asked}

pub record Twins (s z : State) : Type 0 where
  pub sound : s.profile.questions.sound ≡ z.profile.questions.sound
  pub book : s.book ≡ z.book
  pub held : s.held ≡ z.held

module _ (s z : State) (w : Twins s z) where
  reach_alike : (o : Option Request) → reaching_with (length s.held) s.profile.questions.sound o ≡ reaching_with (length z.held) z.profile.questions.sound o
  reach_alike o = ap (λ (h : List Holding). reaching_with (length h) s.profile.questions.sound o) w.held ∙ ap (λ b. reaching_with (length z.held) b o) w.sound

  refusal_alike : (o : Option Place) → pile_answer s o ≡ pile_answer z o
  refusal_alike None = ap (λ (h : List Holding). Err (record { layer = 2; number = 24; position = length h })) w.held
  refusal_alike (Some p) = refl

  answer_alike : (t : Result Request ℕ) → answer_for s t ≡ answer_for z t
  answer_alike (Err n) = ap (λ (h : List Holding). Err (record { layer = 2; number = n; position = length h })) w.held
  answer_alike (Ok r) = ap (λ (b : Book). pile_answer s (said b r)) w.book ∙ refusal_alike (said z.book r)

  twins_by : (t : Result Request ℕ) → Twins (placed_by s t) (placed_by z t)
  twins_by (Err n) = w
  twins_by (Ok r) = record {
    sound = w.sound;
    book = ap (λ (b : Book). after b r) w.book;
    held = ap (λ h. h ++ option_to_list (option_map (holding_for r) (said s.book r))) w.held ∙ ap (λ (b : Book). z.held ++ option_to_list (option_map (holding_for r) (said b r))) w.book;
  }

pub answers_alike : (qs : List Asked) (s z : State) → Twins s z → answers s qs ≡ answers z qs
answers_alike [] s z w = refl
answers_alike (q ∷ qs) s z w =
    let t = reaching s q in
    let same = reach_alike s z w (request_of q) in
    let head = answer_alike s z w t ∙ ap (answer_for z) same in
    let next = subst (λ x. Twins (placed_by s t) (placed_by z x)) same (twins_by s z w t) in
    ap (λ a. a ∷ answers (placed s q) qs) head ∙ ap (λ xs. place_answer z q ∷ xs) (answers_alike qs (placed s q) (placed z q) next)

-- and so they stay, whatever both are asked
pub twins_all : (qs : List Asked) (s z : State) → Twins s z → Twins (placed_all s qs) (placed_all z qs)
twins_all [] s z w = w
twins_all (q ∷ qs) s z w =
    let t = reaching s q in
    let same = reach_alike s z w (request_of q) in
    twins_all qs (placed s q) (placed z q) (subst (λ x. Twins (placed_by s t) (placed_by z x)) same (twins_by s z w t))

pub newly_twins : (p q : Profile) → Alike p q → Twins (opened p) (opened q)
newly_twins p q alike = record {
  sound = ap (λ (x : Questions). x.sound) alike.equal_answers_to_questions;
  book = alike.equal_first_books;
  held = refl;
}

pub equal_answers : (p q : Profile) → EqualRequestsGetEqualAnswers p q
equal_answers p q alike first second same next =
    let one = rest_is_forgotten first p ∙ ap (placed_all (opened p)) same in
    let two = rest_is_forgotten second q in
    let since = requests_since second in
    ap (λ s. answers s next) one
    ∙ answers_alike next (placed_all (opened p) since) (placed_all (opened q) since) (twins_all since (opened p) (opened q) (newly_twins p q alike))
    ∙ sym (ap (λ s. answers s next) two)
