-- Bottoms whose cursor can be read off the places that they gave.
use Rattle.std.proofs.Common.{◌≡◌, ℕ, List, [], ◌∷◌, ◌++◌, sym, subst}
use Rattle.std.proofs.lemmas.List.{append-nil, append_assoc}
use Rattle.std.specs.Option.{option_to_list}
use Rattle.place.specs.declared.pieces.Place.{Place}
use Rattle.values.specs.declared.requests.Request.{Request}
use Rattle.stage.specs.Books.{Book, granted, past}
use Rattle.stage.specs.Cursors.{Move, bottom_book}

-- Where each move leads to the cursor that the places given say, what holds of the book at each such cursor holds after
-- every list of requests, at the cursor that the places given by then say.
module _ (move : ℕ → Request → Move) (size : ℕ → ℕ) (cursor : List Place → ℕ)
    (steps : (given : List Place) (r : Request) → (move (cursor given) r).cursor ≡ cursor (given ++ option_to_list (move (cursor given) r).answer))
    (P : ℕ → Book → Type 0) (here : (n : ℕ) → P n (bottom_book move size n)) where
  abbrev book : ℕ → Book
  book = bottom_book move size

  from : (rs : List Request) (given : List Place) → P (cursor (given ++ granted (book (cursor given)) rs)) (past (book (cursor given)) rs)
  from [] given = subst (λ ps. P (cursor ps) (book (cursor given))) (sym (append-nil given)) (here (cursor given))
  from (r ∷ rs) given =
      let m = move (cursor given) r in
      let next = given ++ option_to_list m.answer in
      let ih : P (cursor (next ++ granted (book m.cursor) rs)) (past (book m.cursor) rs) = subst (λ n. P (cursor (next ++ granted (book n) rs)) (past (book n) rs)) (sym (steps given r)) (from rs next) in
      subst (λ ps. P (cursor ps) (past (book m.cursor) rs)) (append_assoc given (option_to_list m.answer) (granted (book m.cursor) rs)) ih

  pub by_what_was_given : cursor [] ≡ 0 → (rs : List Request) → P (cursor (granted (book 0) rs)) (past (book 0) rs)
  by_what_was_given e rs = subst (λ n. P (cursor (granted (book n) rs)) (past (book n) rs)) e (from rs [])
