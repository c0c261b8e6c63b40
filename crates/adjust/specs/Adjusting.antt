-- The meaning of a layer that changes requests, by the meaning of what is below it.
use Rattle.std.specs.Prelude.{[], ◌∷◌}
use Rattle.stage.specs.Books.{Book, Blame, Entry, Questions, Profile, book_of, after, said, used}
use Rattle.values.specs.Requests.{widened, raised}
use Rattle.values.specs.declared.requests.Request.{Request}
use Rattle.adjust.specs.declared.Change.{Change}
use Rattle.adjust.specs.declared.Least.{Least}
use Rattle.adjust.specs.declared.Least.TheVariants.{Width, Alignment}

-- widen and raise change the width or the alignment, where it is smaller
abbrev pub raised_to : Least → Request → Request
raised_to (Width m) = widened m
raised_to (Alignment m) = raised m

-- what a change makes of a request
abbrev pub changed : Change → Request → Request
changed c = raised_to c.least

-- each request is changed on its way down
abbrev pub map_shows : (Request → Request) → Book → Entry
map_shows f b = record { reach = used b; answer = λ r. said b (f r) }

abbrev pub map_book : (Request → Request) → Book → Book
map_book f = book_of (map_shows f) (λ b r. after b (f r))

abbrev pub map_blame : (Request → Request) → Blame → Blame
map_blame f l [] = λ r. l [] (f r)
map_blame f l (r ∷ rs) = map_blame f (after l (f r)) rs

abbrev pub map_questions : (Request → Request) → Questions → Questions
map_questions f q = record { registers = q.registers; block = q.block; sound = q.sound; endless = λ r. q.endless (f r) }

abbrev pub map_profile : (Request → Request) → Profile → Profile
map_profile f p = record {
  first = map_book f p.first;
  first_blame = map_blame f p.first_blame;
  questions = map_questions f p.questions;
}
