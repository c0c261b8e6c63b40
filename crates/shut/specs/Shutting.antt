-- The meaning of shut, by the meaning of what is below it.
use Rattle.std.specs.Prelude.{ℕ, Bool, true, false, cond, not, [], ◌∷◌, is_some, None}
use Rattle.stage.specs.Books.{Book, Blame, Entry, Questions, Profile, book_of, after, said, used}
use Rattle.values.specs.declared.requests.Request.{Request}

-- shut: the first refusal closes it, and then nothing goes below
pub record Gate : Type 0 where
  pub closed : Bool
  pub below : Book

abbrev pub gate : Bool → Book → Gate
gate c b = record { closed = c; below = b }

abbrev pub shut_shows : Gate → Entry
shut_shows g = record { reach = used g.below; answer = λ r. cond g.closed None (said g.below r) }

abbrev pub shut_next : Gate → Request → Gate
shut_next g r = cond g.closed g (gate (not (is_some (said g.below r))) (after g.below r))

abbrev pub shut_book : Bool → Book → Book
shut_book closed b = book_of shut_shows shut_next (gate closed b)

-- once closed it refuses by its own line
abbrev pub shut_blame : ℕ → Bool → Book → Blame → Blame
shut_blame line closed b l [] = λ r. cond closed line (l [] r)
shut_blame line closed b l (r ∷ rs) =
    shut_blame line (cond closed true (not (is_some (said b r)))) (cond closed b (after b r)) (cond closed l (after l r)) rs

abbrev pub shut_questions : Questions → Questions
shut_questions q = record { registers = q.registers; block = q.block; sound = q.sound; endless = λ r. false }

abbrev pub shut_profile : ℕ → Profile → Profile
shut_profile line p = record {
  first = shut_book false p.first;
  first_blame = shut_blame line false p.first p.first_blame;
  questions = shut_questions p.questions;
}
