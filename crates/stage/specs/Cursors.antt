-- Bottoms that go by a cursor: what one does with a request, and the book that it has.
use Rattle.std.specs.Prelude.{ℕ, Some, None, Option}
use Rattle.place.specs.declared.pieces.Place.{Place}
use Rattle.values.specs.declared.requests.Request.{Request}
use Rattle.stage.specs.Books.{Book, book_of}

-- what a bottom does with a request: its answer, and its cursor after it
pub record Move : Type 0 where
  pub answer : Option Place
  pub cursor : ℕ

abbrev pub grant : Place → ℕ → Move
grant p n = record { answer = Some p; cursor = n }

-- a refusal leaves the cursor where it was
abbrev pub refuse : ℕ → Move
refuse n = record { answer = None; cursor = n }

-- the book of a bottom at a cursor: what it does at each, and the block bytes that it has used there
abbrev pub bottom_book : (ℕ → Request → Move) → (ℕ → ℕ) → ℕ → Book
bottom_book move size = book_of (λ n. record { reach = size n; answer = λ r. (move n r).answer }) (λ n r. (move n r).cursor)
