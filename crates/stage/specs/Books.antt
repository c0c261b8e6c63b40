-- A stage's meaning is its book: for each list of further requests, its answer to one request more and the block bytes used by then.
use Rattle.std.specs.Prelude.{◌≡◌, ℕ, Bool, List, [], ◌∷◌, ◌++◌, Option}
use Rattle.std.specs.Option.{option_to_list}
use Rattle.place.specs.declared.pieces.Place.{Place}
use Rattle.values.specs.declared.requests.Request.{Request}

-- what a book has after a list of requests: the block bytes used, and the place that one request more is given, or none
pub record Entry : Type 0 where
  pub reach : ℕ
  pub answer : Request → Option Place

abbrev pub Book : Type 0
Book = List Request → Entry

-- the line of the stage that would refuse one request more, after each list of further requests; it is no part of the book
abbrev pub Blame : Type 0
Blame = List Request → Request → ℕ

-- the answer to the next request
abbrev pub said : Book → Request → Option Place
said b r = (b []).answer r

-- the block bytes used so far
abbrev pub used : Book → ℕ
used b = (b []).reach

-- what is left of a book, or of a blame, after a request
abbrev pub after : {E : Type 0} → (List Request → E) → Request → List Request → E
after b r = λ rs. b (r ∷ rs)

-- what is left of a book after a list of requests
abbrev pub past : Book → List Request → Book
past b rs = λ more. b (rs ++ more)

-- the places that a list of requests is granted, in order
abbrev pub granted : Book → List Request → List Place
granted b [] = []
granted b (r ∷ rs) = option_to_list (said b r) ++ granted (after b r) rs

-- what a stage blames for its refusals that has no description line
abbrev pub built_in : Blame
built_in rs r = 0

-- the book of what goes from state to state: what each state shows, and the state after a request
abbrev pub book_of : {S : Type 0} → (S → Entry) → (S → Request → S) → S → Book
book_of shows next s [] = shows s
book_of shows next s (r ∷ rs) = book_of shows next (next s r) rs

-- the answers that no request changes
pub record Questions : Type 0 where
  -- the registers that the stage may give, as a set of bits
  pub registers : ℕ
  -- whether it may give bytes of the block
  pub block : Bool
  -- whether no two of its places share a byte
  pub sound : Bool
  -- whether a request is granted until the block is nearly full
  pub endless : Request → Bool

-- what no call changes: the book and the blame of a stage when it was made, and its answers
pub record Profile : Type 0 where
  pub first : Book
  pub first_blame : Blame
  pub questions : Questions

-- a stage that was just cleared: its book, its blame and its profile, by the profile that it had before
pub record Cleared (b : Book) (lines : Blame) (p before : Profile) : Type 0 where
  pub first_book_is_back : b ≡ before.first
  pub first_blame_is_back : lines ≡ before.first_blame
  pub profile_stays : p ≡ before

-- stages with equal first books and equal answers to questions: they differ at most in the lines that they blame
pub record Alike (p q : Profile) : Type 0 where
  pub equal_first_books : p.first ≡ q.first
  pub equal_answers_to_questions : p.questions ≡ q.questions
