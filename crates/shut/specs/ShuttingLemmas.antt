-- Shut is lawful where what is below it is.
use Rattle.std.specs.Prelude.{◌≡◌, ℕ, ◌≤◌, true, false, cond, not, [], is_some, Some, None, Option}
use Rattle.std.proofs.Common.{ap, arith}
use Rattle.place.specs.Pieces.{PlacesApart}
use Rattle.place.specs.declared.pieces.Place.{Place}
use Rattle.stage.proofs.Runs.{along, Always, always_after, Spares, SparesNow, spares_after, lifted}
use Rattle.stage.specs.Books.{Book, Questions, Profile, Alike, book_of, said, used, after}
use Rattle.stage.specs.Lawful.{Granted, LawfulHere, Lawful}
use Rattle.values.specs.declared.requests.Request.{Request}
use Rattle.shut.specs.Shutting.{Gate, gate, shut_shows, shut_next, shut_book, shut_questions, shut_profile}

abbrev passed : Gate → Request → Gate
passed g r = gate (not (is_some (said g.below r))) (after g.below r)

shut_keeps : (P : Book → Type 0) → ((b : Book) (r : Request) → P b → P (after b r)) → (g : Gate) (r : Request) → P g.below → P (shut_next g r).below
shut_keeps P f g r h = elim g.closed as (λ c. P (cond c g (passed g r)).below) [ true ↦ h | false ↦ f g.below r h ]

none_given : (X : Type 0) (z : Place) → ◌≡◌ {A = Option Place} None (Some z) → X
none_given X z e = let w : ◌≡◌ {A = ℕ} 0 1 = cc in absurd (omega arith)

shut_spares : (z : Place) (g : Gate) → Spares z g.below → Spares z (book_of shut_shows shut_next g)
shut_spares z =
    along shut_shows shut_next (λ g. Spares z g.below) (shut_keeps (Spares z) (spares_after z)) (SparesNow z) (λ g h r y. elim g.closed as (λ c. cond c None (said g.below r) ≡ Some y → PlacesApart z y) [ true ↦ none_given (PlacesApart z y) y | false ↦ h [] r y ])

shut_here : (q : Questions) (g : Gate) → Always q g.below → LawfulHere (shut_questions q) (book_of shut_shows shut_next g)
shut_here q g h = record {
  places_are_granted_lawfully = λ r z. elim g.closed as (λ c. cond c None (said g.below r) ≡ Some z → Granted (shut_questions q) r z (used (cond c g (passed g r)).below)) [
    | true ↦ none_given (Granted (shut_questions q) r z (used g.below)) z
    | false ↦ λ e. lifted q (shut_questions q) (λ x k. k) r z (used (after g.below r)) _ (omega arith) ((h []).places_are_granted_lawfully r z e)
  ];
  sound_places_share_no_byte = λ e r z. elim g.closed as (λ c. cond c None (said g.below r) ≡ Some z → Spares z (book_of shut_shows shut_next (cond c g (passed g r)))) [
    | true ↦ none_given (Spares z (book_of shut_shows shut_next g)) z
    | false ↦ λ l. shut_spares z (passed g r) ((h []).sound_places_share_no_byte e r z l)
  ];
  reach_never_falls = λ r. elim g.closed as (λ c. used g.below ≤ used (cond c g (passed g r)).below) [ true ↦ omega arith | false ↦ (h []).reach_never_falls r ];
  reach_is_at_most_4096 = (h []).reach_is_at_most_4096;
  reach_is_0_without_a_block = (h []).reach_is_0_without_a_block;
  endless_requests_are_granted_up_to_4088 = λ r e l. cc;
}

pub shut_lawful : (q : Questions) (b : Book) → Lawful q b → Lawful (shut_questions q) (shut_book false b)
shut_lawful q b l = record {
  registers_are_r0_to_r27 = l.registers_are_r0_to_r27;
  reach_is_0_at_first = l.reach_is_0_at_first;
  after_every_list = along shut_shows shut_next (λ g. Always q g.below) (shut_keeps (Always q) (always_after q)) (LawfulHere (shut_questions q)) (shut_here q) (gate false b) l.after_every_list;
}

-- stages that are alike are alike when they are shut, whatever the lines
pub shut_alike : (line other : ℕ) (p q : Profile) → Alike p q → Alike (shut_profile line p) (shut_profile other q)
shut_alike line other p q h = record {
  equal_first_books = ap (shut_book false) h.equal_first_books;
  equal_answers_to_questions = ap shut_questions h.equal_answers_to_questions;
}
