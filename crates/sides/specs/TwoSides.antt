-- A layer over two sides is lawful where both are.
use Rattle.std.specs.Prelude.{◌≡◌, ℕ, ◌≤◌, Bool, true, false, ◌⊎◌, List, [], ◌∷◌, is_some, Some, Option}
use Rattle.std.proofs.Common.{inl, inr, ap, sym, subst, arith}
use Rattle.std.proofs.lemmas.Bool.{and_parts, and_cases, not-true, or_parts}
use Rattle.std.specs.List.{AllByRecursion}
use Rattle.place.proofs.Apart.{registers_apart, register_block_apart, block_register_apart, apart_by_pieces}
use Rattle.values.proofs.Rounding.{at_least_one}
use Rattle.place.proofs.Sets.{union_left, union_right, union_cases, apart_differ}
use Rattle.place.specs.Pieces.{Apart, PlacesApart, pieces, Below}
use Rattle.place.specs.Registers.{apart}
use Rattle.place.specs.declared.pieces.Piece.{Piece}
use Rattle.place.specs.declared.pieces.Piece.TheVariants.{Register, Block}
use Rattle.place.specs.declared.pieces.Place.{Place}
use Rattle.values.specs.declared.requests.Request.{Request}
use Rattle.stage.proofs.Runs.{along, Always, always_after, always_past, Spares, SparesNow, spares_after, Given, given, lifted}
use Rattle.stage.specs.Books.{Book, Entry, Questions, book_of, said, used, after, past}
use Rattle.stage.specs.Lawful.{InSet, Granted, LawfulHere, Lawful}
use Rattle.sides.specs.Sides.{Sides, sides, larger, joined, sound_together}

all_both : (P Q : Piece → Type 0) (xs : List Piece) → AllByRecursion P xs → AllByRecursion Q xs → AllByRecursion (λ x. P x × Q x) xs
all_both P Q [] a b = tt
all_both P Q (x ∷ xs) a b = ((a.0, b.0), all_both P Q xs a.1 b.1)

-- what lets two stages stand side by side
pub record Separate (p q : Questions) : Type 0 where
  pub first_sound : p.sound ≡ true
  pub second_sound : q.sound ≡ true
  pub sets_apart : apart p.registers q.registers ≡ true
  pub one_block : (p.block ≡ false) ⊎ (q.block ≡ false)

pub separate : (p q : Questions) → sound_together p q ≡ true → Separate p q
separate p q e =
    let a = and_parts p.sound _ e in
    let b = and_parts q.sound _ a.1 in
    let c = and_parts (apart p.registers q.registers) _ b.1 in
    record { first_sound = a.0; second_sound = b.0; sets_apart = c.0; one_block = and_cases p.block q.block (not-true _ c.1) }

-- a piece of a set, below a reach
abbrev Of : ℕ → ℕ → Piece → Type 0
Of m n x = InSet m x × Below n x

pieces_apart : (m m' n k : ℕ) → apart m m' ≡ true → (n ≡ 0) ⊎ (k ≡ 0) → (x y : Piece) → Of m n x → Of m' k y → Apart x y
pieces_apart m m' n k d z (Register x) (Register y) g h = registers_apart x y (apart_differ m m' x y d g.0 h.0)
pieces_apart m m' n k d z (Register x) (Block o w) g h = register_block_apart x o w
pieces_apart m m' n k d z (Block o w) (Register y) g h = block_register_apart o w y
pieces_apart m m' n k d z (Block o v) (Block u w) g h =
    elim z [
      | inl e ↦ absurd (omega (arith, e, g.1, at_least_one v))
      | inr e ↦ absurd (omega (arith, e, h.1, at_least_one w))
    ]

places_apart : (p q : Questions) → Separate p q → (r s : Request) (y z : Place) (n k : ℕ) → Given p r y n → Given q s z k → PlacesApart y z
places_apart p q d r s y z n k g h =
    let no_block : (n ≡ 0) ⊎ (k ≡ 0) = elim d.one_block [ inl e ↦ inl (g.1 e) | inr e ↦ inr (h.1 e) ] in
    apart_by_pieces (Of p.registers n) (Of q.registers k) (pieces_apart p.registers q.registers n k d.sets_apart no_block) y z
    (all_both _ _ (pieces y) g.0.registers_are_in_the_set g.0.reach_lies_above_its_block_bytes)
    (all_both _ _ (pieces z) h.0.registers_are_in_the_set h.0.reach_lies_above_its_block_bytes)

apart_back : (p q : Place) → PlacesApart p q → PlacesApart q p
apart_back p q h = swapped (pieces p) (pieces q) h
  where
    column : (xs : List Piece) (y : Piece) (ys : List Piece) → AllByRecursion (λ x. AllByRecursion (Apart x) (y ∷ ys)) xs → AllByRecursion (Apart y) xs × AllByRecursion (λ x. AllByRecursion (Apart x) ys) xs
    column [] y ys h = (tt, tt)
    column (x ∷ xs) y ys h = let rest = column xs y ys h.1 in (((λ b c d. h.0.0 b d c), rest.0), (h.0.1, rest.1))

    swapped : (xs ys : List Piece) → AllByRecursion (λ x. AllByRecursion (Apart x) ys) xs → AllByRecursion (λ y. AllByRecursion (Apart y) xs) ys
    swapped xs [] h = tt
    swapped xs (y ∷ ys) h = let c = column xs y ys h in (c.0, swapped xs ys c.1)

abbrev pub Both : Questions → Questions → Sides → Type 0
Both p q s = Always p s.first × Always q s.second

-- the first side gave a place, and has passed on; or the second
abbrev pub FirstGave : (Sides → Request → Sides) → Sides → Request → Place → Type 0
FirstGave next s r z = (said s.first r ≡ Some z) × ((next s r).first ≡ after s.first r)

abbrev pub SecondGave : (Sides → Request → Sides) → Sides → Request → Place → Type 0
SecondGave next s r z = (said s.second r ≡ Some z) × ((next s r).second ≡ after s.second r)

module _ (p q : Questions) (endless : Request → Bool) (answer : Sides → Request → Option Place) (next : Sides → Request → Sides)
    (keeps : (P Q : Book → Type 0) → ((b : Book) (r : Request) → P b → P (after b r)) → ((b : Book) (r : Request) → Q b → Q (after b r)) → (s : Sides) (r : Request) → P s.first × Q s.second → P (next s r).first × Q (next s r).second)
    (gave : (s : Sides) (r : Request) (z : Place) → answer s r ≡ Some z → FirstGave next s r z ⊎ SecondGave next s r z)
    (lasts : (s : Sides) (r : Request) → Both p q s → endless r ≡ true → larger s ≤ 4088 → is_some (answer s r) ≡ true) where
  abbrev shows : Sides → Entry
  shows s = record { reach = larger s; answer = answer s }

  both_keeps : (s : Sides) (r : Request) → Both p q s → Both p q (next s r)
  both_keeps = keeps (Always p) (Always q) (always_after p) (always_after q)

  -- a lawful book that has reached n at least
  abbrev From : Questions → ℕ → Book → Type 0
  From k n b = Always k b × (n ≤ used b)

  from_keeps : (k : Questions) (n : ℕ) (b : Book) (r : Request) → From k n b → From k n (after b r)
  from_keeps k n b r h = (always_after k b r h.0, omega (arith, h.1, (h.0 []).reach_never_falls r))

  rises : (s : Sides) (r : Request) → Both p q s → larger s ≤ larger (next s r)
  rises s r h =
      let m = used s.first in
      let n = used s.second in
      let up = keeps (From p m) (From q n) (from_keeps p m) (from_keeps q n) s r ((h.0, omega arith), (h.1, omega arith)) in
      omega (arith, up.0.1, up.1.1)

  spares_here : (z : Place) (s : Sides) → Spares z s.first × Spares z s.second → SparesNow z (book_of shows next s)
  spares_here z s h r y e = elim (gave s r y e) [ inl g ↦ h.0 [] r y g.0 | inr g ↦ h.1 [] r y g.0 ]

  spares : (z : Place) (s : Sides) → Spares z s.first × Spares z s.second → Spares z (book_of shows next s)
  spares z = along shows next (λ s. Spares z s.first × Spares z s.second) (keeps (Spares z) (Spares z) (spares_after z) (spares_after z)) (SparesNow z) (spares_here z)

  -- what one side gave is spared by the other
  second_spares : Separate p q → (r : Request) (z : Place) (n : ℕ) → Given p r z n → (b : Book) → Always q b → Spares z b
  second_spares d r z n g b h rs s y e = places_apart p q d r s z y n _ g (given q (past b rs) (always_past q b rs h) s y e)

  first_spares : Separate p q → (r : Request) (z : Place) (n : ℕ) → Given q r z n → (b : Book) → Always p b → Spares z b
  first_spares d r z n g b h rs s y e = apart_back y z (places_apart p q d s r y z _ n (given p (past b rs) (always_past p b rs h) s y e) g)

  alone : (s : Sides) → Both p q s → Separate p q → (r : Request) (z : Place) → answer s r ≡ Some z → Spares z (book_of shows next (next s r))
  alone s h d r z e =
      let on = both_keeps s r h in
      spares z (next s r) (elim (gave s r z e) [
        | inl g ↦ (subst (Spares z) (sym g.1) ((h.0 []).sound_places_share_no_byte d.first_sound r z g.0), second_spares d r z _ (given p s.first h.0 r z g.0) (next s r).second on.1)
        | inr g ↦ (first_spares d r z _ (given q s.second h.1 r z g.0) (next s r).first on.0, subst (Spares z) (sym g.1) ((h.1 []).sound_places_share_no_byte d.second_sound r z g.0))
      ])

  granted : (s : Sides) → Both p q s → (r : Request) (z : Place) → answer s r ≡ Some z → Granted (joined p q endless) r z (larger (next s r))
  granted s h r z e =
      elim (gave s r z e) [
        | inl g ↦
            lifted p (joined p q endless) (union_left p.registers q.registers) r z (used (after s.first r)) _ (omega (arith, ap used g.1)) ((h.0 []).places_are_granted_lawfully r z g.0)
        | inr g ↦
            lifted q (joined p q endless) (union_right p.registers q.registers) r z (used (after s.second r)) _ (omega (arith, ap used g.1)) ((h.1 []).places_are_granted_lawfully r z g.0)
      ]

  here : (s : Sides) → Both p q s → LawfulHere (joined p q endless) (book_of shows next s)
  here s h = record {
    places_are_granted_lawfully = granted s h;
    sound_places_share_no_byte = λ e. alone s h (separate p q e);
    reach_never_falls = λ r. rises s r h;
    reach_is_at_most_4096 = omega (arith, (h.0 []).reach_is_at_most_4096, (h.1 []).reach_is_at_most_4096);
    reach_is_0_without_a_block = λ e. let b = or_parts p.block q.block e in omega (arith, (h.0 []).reach_is_0_without_a_block b.0, (h.1 []).reach_is_0_without_a_block b.1);
    endless_requests_are_granted_up_to_4088 = λ r. lasts s r h;
  }

  pub sides_lawful : (a b : Book) → Lawful p a → Lawful q b → Lawful (joined p q endless) (book_of shows next (sides a b))
  sides_lawful a b l m = record {
    registers_are_r0_to_r27 = λ x h. elim (union_cases p.registers q.registers x h) [ inl k ↦ l.registers_are_r0_to_r27 x k | inr k ↦ m.registers_are_r0_to_r27 x k ];
    reach_is_0_at_first = omega (arith, l.reach_is_0_at_first, m.reach_is_0_at_first);
    after_every_list = along shows next (Both p q) both_keeps (LawfulHere (joined p q endless)) here (sides a b) (l.after_every_list, m.after_every_list);
  }
