-- A bottom whose cursor passes what it gives is lawful.
use Rattle.std.proofs.Common.{◌≡◌, ℕ, ◌≤◌, true, false, ◌⊎◌, is_some, Some, None, Option, sym, ap, ◌∙◌, subst, inl, inr, arith}
use Rattle.std.specs.List.{AllByRecursion}
use Rattle.place.proofs.Apart.{apart_by_pieces}
use Rattle.place.specs.Pieces.{Apart, pieces}
use Rattle.place.specs.Registers.{has}
use Rattle.place.specs.declared.pieces.Piece.{Piece}
use Rattle.place.specs.declared.pieces.Place.{Place}
use Rattle.values.specs.declared.requests.Request.{Request}
use Rattle.stage.proofs.Runs.{along, Spares, SparesNow}
use Rattle.stage.specs.Books.{Entry, Questions, book_of}
use Rattle.stage.specs.Lawful.{Granted, LawfulHere, Lawful}
use Rattle.stage.specs.Cursors.{Move, grant, refuse, bottom_book}

pub none_given : (X : Type 0) (m : Move) (n : ℕ) (z : Place) → m ≡ refuse n → m.answer ≡ Some z → X
none_given X m n z k e = let no : ◌≡◌ {A = Option Place} None (Some z) = sym (ap (λ (v : Move). v.answer) k) ∙ e in let w : ◌≡◌ {A = ℕ} 0 1 = cc in absurd (omega arith)

pub that_given : (m : Move) (y z : Place) (n : ℕ) → m ≡ grant y n → m.answer ≡ Some z → y ≡ z
that_given m y z n g e = let some : ◌≡◌ {A = Option Place} (Some y) (Some z) = sym (ap (λ (v : Move). v.answer) g) ∙ e in cc

-- a request that a bottom grants at cursor n: pieces between the index of n and that of the cursor after it
pub record Gives (In : ℕ → ℕ → Piece → Type 0) (index size : ℕ → ℕ) (q : Questions) (Inv : ℕ → Type 0) (move : ℕ → Request → Move) (n : ℕ) (r : Request) : Type 0 where
  pub place : Place
  pub cursor : ℕ
  pub moved : move n r ≡ grant place cursor
  pub between : AllByRecursion (In (index n) (index cursor)) (pieces place)
  pub lawful : Granted q r place (size cursor)
  pub onward : index n ≤ index cursor
  pub larger : size n ≤ size cursor
  pub again : Inv cursor

module _ (In : ℕ → ℕ → Piece → Type 0)
    (apart : (lo mid from hi : ℕ) → mid ≤ from → (x y : Piece) → In lo mid x → In from hi y → Apart x y)
    (index size : ℕ → ℕ) (q : Questions) (Inv : ℕ → Type 0) (move : ℕ → Request → Move)
    (steps : (n : ℕ) (r : Request) → Inv n → (move n r ≡ refuse n) ⊎ Gives In index size q Inv move n r)
    (bounded : (n : ℕ) → Inv n → size n ≤ 4096)
    (idle : q.block ≡ false → (n : ℕ) → Inv n → size n ≡ 0)
    (endless : (n : ℕ) (r : Request) → Inv n → q.endless r ≡ true → size n ≤ 4088 → is_some (move n r).answer ≡ true) where
  abbrev shows : ℕ → Entry
  shows n = record { reach = size n; answer = λ r. (move n r).answer }

  abbrev next : ℕ → Request → ℕ
  next n r = (move n r).cursor

  abbrev cursor_of : Move → ℕ
  cursor_of m = m.cursor

  -- what holds of the cursor after a grant and of the one before holds of the next
  at_next : (P : ℕ → Type 0) (n : ℕ) (r : Request) → Inv n → P n → ((g : Gives In index size q Inv move n r) → P g.cursor) → P (next n r)
  at_next P n r i stay go =
      elim (steps n r i) [ inl e ↦ subst P (sym (ap cursor_of e)) stay | inr g ↦ subst P (sym (ap cursor_of g.moved)) (go g) ]

  keeps : (n : ℕ) (r : Request) → Inv n → Inv (next n r)
  keeps n r i = at_next Inv n r i i (λ g. g.again)

  passes : (n : ℕ) (r : Request) → Inv n → index n ≤ index (next n r)
  passes n r i = at_next (λ k. index n ≤ index k) n r i (omega arith) (λ g. g.onward)

  grows : (n : ℕ) (r : Request) → Inv n → size n ≤ size (next n r)
  grows n r i = at_next (λ k. size n ≤ size k) n r i (omega arith) (λ g. g.larger)

  abbrev Gave : ℕ → Request → Place → ℕ → Type 0
  Gave n r z k = AllByRecursion (In (index n) (index k)) (pieces z) × Granted q r z (size k)

  gave : (n : ℕ) (r : Request) (z : Place) → Inv n → (move n r).answer ≡ Some z → Gave n r z (next n r)
  gave n r z i e =
      elim (steps n r i) [
        | inl k ↦ let no : ◌≡◌ {A = Option Place} None (Some z) = sym (ap (λ (m : Move). m.answer) k) ∙ e in let w : ◌≡◌ {A = ℕ} 0 1 = cc in absurd (omega arith)
        | inr g ↦
            let some : ◌≡◌ {A = Option Place} (Some g.place) (Some z) = sym (ap (λ (m : Move). m.answer) g.moved) ∙ e in
            let same : g.place ≡ z = cc in
            subst (Gave n r z) (sym (ap cursor_of g.moved)) (subst (λ y. Gave n r y g.cursor) same (g.between, g.lawful))
      ]

  spares : (z : Place) (lo mid : ℕ) → AllByRecursion (In lo mid) (pieces z) → (n : ℕ) → Inv n × (mid ≤ index n) → Spares z (book_of shows next n)
  spares z lo mid a =
      along shows next (λ n. Inv n × (mid ≤ index n)) (λ n r h. (keeps n r h.0, omega (arith, passes n r h.0, h.1))) (SparesNow z) (λ n h s y e. let g = gave n s y h.0 e in apart_by_pieces (In lo mid) (In (index n) (index (next n s))) (apart lo mid (index n) (index (next n s)) h.1) z y a g.0)

  here : (n : ℕ) → Inv n → LawfulHere q (book_of shows next n)
  here n i = record {
    places_are_granted_lawfully = λ r p e. (gave n r p i e).1;
    sound_places_share_no_byte = λ _ r p e. spares p (index n) (index (next n r)) (gave n r p i e).0 (next n r) (keeps n r i, omega arith);
    reach_never_falls = λ r. grows n r i;
    reach_is_at_most_4096 = bounded n i;
    reach_is_0_without_a_block = λ e. idle e n i;
    endless_requests_are_granted_up_to_4088 = λ r. endless n r i;
  }

  pub cursor_lawful : ((x : ℕ) → has q.registers x ≡ true → x ≤ 27) → size 0 ≡ 0 → Inv 0 → Lawful q (bottom_book move size 0)
  cursor_lawful set zero first = record {
    registers_are_r0_to_r27 = set;
    reach_is_0_at_first = zero;
    after_every_list = along shows next Inv keeps (LawfulHere q) here 0 first;
  }
