-- The banks are lawful.
use Rattle.std.specs.Prelude.{◌≡◌, ℕ, zero, suc, ◌+◌, ◌*◌, ◌/◌, ◌%◌, ◌<◌, ◌≤◌, true, false, not, ◌⊎◌, List, [], ◌∷◌, length, ◌≢◌, nat_le, nat_lt, slice_index, refl}
use Rattle.std.proofs.Common.{inl, inr, ap, sym, subst, ◌∙◌, arith}
use Rattle.std.proofs.lemmas.Bool.{leb-true, ltb-true, and_parts, both_ways, not-true, cases_Bool, cond-true, cond-false}
use Rattle.place.proofs.Apart.{registers_apart}
use Rattle.values.proofs.Rounding.{rounded, by_four}
use Rattle.place.proofs.Sets.{none_in_empty, with_itself, with_others, with_cases}
use Rattle.place.specs.Pieces.{Apart}
use Rattle.place.specs.Registers.{has, with}
use Rattle.values.specs.Sizes.{bytes, larger_of}
use Rattle.place.specs.declared.pieces.Piece.{Piece}
use Rattle.place.specs.declared.pieces.Piece.TheVariants.{Register, Block}
use Rattle.values.specs.declared.requests.Request.{Request}
use Rattle.values.specs.declared.sizes.Size.{Size}
use Rattle.values.specs.declared.sizes.Size.TheVariants.{One, Two, Four, Eight}
use Rattle.stage.specs.Lawful.{Granted, Lawful}
use Rattle.banks.specs.Lists.{fresh_in, distinct, with_all, set_of}
use Rattle.stage.specs.Cursors.{grant, refuse}
use Rattle.banks.specs.Banks.{register, register_pair, bank_questions, count_move, count_book, bits_move, bits_start, bits_book}
use Rattle.stage.proofs.Cursors.{cursor_lawful}

-- the facts of a list's first register, and of the rest
fresh_parts : (set x : ℕ) (xs : List ℕ) → fresh_in set (x ∷ xs) ≡ true → (x ≤ 27) × (has set x ≡ false) × (fresh_in (with set x) xs ≡ true)
fresh_parts set x xs h =
    let a = and_parts (nat_le x 27) _ h in
    let b = and_parts (not (has set x)) _ a.1 in
    (leb-true x 27 a.0, not-true (has set x) b.0, b.1)

pub at_most_27 : (xs : List ℕ) (set i : ℕ) → fresh_in set xs ≡ true → i < length xs → slice_index xs i ≤ 27
at_most_27 [] set i h l = absurd (omega arith)
at_most_27 (x ∷ xs) set zero h l = (fresh_parts set x xs h).0
at_most_27 (x ∷ xs) set (suc i) h l = at_most_27 xs (with set x) i (fresh_parts set x xs h).2 (omega arith)

not_before : (xs : List ℕ) (set i : ℕ) → fresh_in set xs ≡ true → i < length xs → has set (slice_index xs i) ≡ true → ⊥
not_before [] set i h l e = absurd (omega arith)
not_before (x ∷ xs) set zero h l e = both_ways (has set x) (fresh_parts set x xs h).1 e
not_before (x ∷ xs) set (suc i) h l e = not_before xs (with set x) i (fresh_parts set x xs h).2 (omega arith) (with_others set x (slice_index xs i) e)

pub differ_at : (xs : List ℕ) (set i j : ℕ) → fresh_in set xs ≡ true → i < j → j < length xs → slice_index xs i ≢ slice_index xs j
differ_at [] set i j h l m e = absurd (omega arith)
differ_at (x ∷ xs) set i zero h l m e = absurd (omega arith)
differ_at (x ∷ xs) set zero (suc j) h l m e =
    let p = fresh_parts set x xs h in
    not_before xs (with set x) j p.2 (omega arith) (subst (λ y. has (with set x) y ≡ true) e (with_itself set x (omega (arith, p.0))))
differ_at (x ∷ xs) set (suc i) (suc j) h l m e = differ_at xs (with set x) i j (fresh_parts set x xs h).2 (omega arith) (omega arith) e

all_keeps : (xs : List ℕ) (set y : ℕ) → has set y ≡ true → has (with_all set xs) y ≡ true
all_keeps [] set y h = h
all_keeps (x ∷ xs) set y h = all_keeps xs (with set x) y (with_others set x y h)

pub in_set : (xs : List ℕ) (set i : ℕ) → fresh_in set xs ≡ true → i < length xs → has (with_all set xs) (slice_index xs i) ≡ true
in_set [] set i h l = absurd (omega arith)
in_set (x ∷ xs) set zero h l = all_keeps xs (with set x) x (with_itself set x (omega (arith, (fresh_parts set x xs h).0)))
in_set (x ∷ xs) set (suc i) h l = in_set xs (with set x) i (fresh_parts set x xs h).2 (omega arith)

set_bounded : (xs : List ℕ) (set : ℕ) → fresh_in set xs ≡ true → ((y : ℕ) → has set y ≡ true → y ≤ 27) → (y : ℕ) → has (with_all set xs) y ≡ true → y ≤ 27
set_bounded [] set h b y = b y
set_bounded (x ∷ xs) set h b y =
    let p = fresh_parts set x xs h in
    set_bounded xs (with set x) p.2 (λ z k. elim (with_cases set x z k) [ inl a ↦ b z a | inr e ↦ omega (arith, p.0, e) ]) y

-- what a bank does with a request, case by case

module _ (xs : List ℕ) where
  pub count_cases : (n : ℕ) (w : Size) → (count_move xs n w ≡ refuse n) ⊎ ((count_move xs n w ≡ grant (register xs n) (n + 1)) × (n < length xs) × (bytes w ≤ 4))
  count_cases n One = inl refl
  count_cases n Two = inl refl
  count_cases n Eight = inl refl
  count_cases n Four =
      elim (cases_Bool (nat_lt n (length xs))) [ inl t ↦ inr (cond-true _ _ _ t, ltb-true _ _ t, omega arith) | inr f ↦ inl (cond-false _ _ _ f) ]

  abbrev pub FourGiven : ℕ → ℕ → Size → Type 0
  FourGiven n c w = (bits_move xs n c w ≡ grant (register xs (c / 4)) (c + 4)) × (c + 4 ≤ 4 * length xs) × (w ≡ Four)

  abbrev pub EightGiven : ℕ → ℕ → Size → Type 0
  EightGiven n c w = (bits_move xs n c w ≡ grant (register_pair xs (c / 4)) (c + 8)) × (c + 8 ≤ 4 * length xs) × (w ≡ Eight)

  pub bits_cases : (n c : ℕ) (w : Size) → (bits_move xs n c w ≡ refuse n) ⊎ (FourGiven n c w ⊎ EightGiven n c w)
  bits_cases n c One = inl refl
  bits_cases n c Two = inl refl
  bits_cases n c Four =
      elim (cases_Bool (nat_le (c + 4) (4 * length xs))) [ inl t ↦ inr (inl (cond-true _ _ _ t, leb-true _ _ t, refl)) | inr f ↦ inl (cond-false _ _ _ f) ]
  bits_cases n c Eight =
      elim (cases_Bool (nat_le (c + 8) (4 * length xs))) [ inl t ↦ inr (inr (cond-true _ _ _ t, leb-true _ _ t, refl)) | inr f ↦ inl (cond-false _ _ _ f) ]

module _ (xs : List ℕ) (d : distinct xs ≡ true) where
  -- a register of the list at an index from lo up to below hi
  abbrev At : ℕ → ℕ → Piece → Type 0
  At lo hi (Register x) = (a : ℕ) × (lo ≤ a) × (a < hi) × (a < length xs) × (x ≡ slice_index xs a)
  At lo hi (Block o w) = ⊥

  at_apart : (lo mid from hi : ℕ) → mid ≤ from → (x y : Piece) → At lo mid x → At from hi y → Apart x y
  at_apart lo mid from hi l (Register x) (Register y) g h =
      registers_apart x y (λ e. differ_at xs 0 g.0 h.0 d (omega (arith, g.2, h.1)) h.3 (sym g.4 ∙ (e ∙ h.4)))
  at_apart lo mid from hi l (Register x) (Block o w) g h = absurd h
  at_apart lo mid from hi l (Block o w) y g h = absurd g

  one_granted : (r : Request) (i : ℕ) → i < length xs → bytes r.width ≤ 4 → Granted (bank_questions xs) r (register xs i) 0
  one_granted r i l w = record {
    is_well_formed = (at_most_27 xs 0 i d l, omega arith);
    is_as_wide_as_requested_or_wider = w;
    pieces_share_no_byte = tt;
    registers_are_in_the_set = (in_set xs 0 i d l, tt);
    low_block_piece_is_aligned = tt;
    reach_lies_above_its_block_bytes = (tt, tt);
  }

  pair_granted : (r : Request) (i : ℕ) → i + 1 < length xs → bytes r.width ≤ 8 → Granted (bank_questions xs) r (register_pair xs i) 0
  pair_granted r i l w = record {
    is_well_formed = (at_most_27 xs 0 i d (omega arith), at_most_27 xs 0 (i + 1) d l, refl, refl, refl);
    is_as_wide_as_requested_or_wider = w;
    pieces_share_no_byte = registers_apart _ _ (differ_at xs 0 i (i + 1) d (omega arith) l);
    registers_are_in_the_set = (in_set xs 0 i d (omega arith), (in_set xs 0 (i + 1) d l, tt));
    low_block_piece_is_aligned = tt;
    reach_lies_above_its_block_bytes = (tt, (tt, tt));
  }

  bank_set : (y : ℕ) → has (set_of xs) y ≡ true → y ≤ 27
  bank_set = set_bounded xs 0 d (λ y h. absurd (none_in_empty y h))

  pub count_lawful : Lawful (bank_questions xs) (count_book xs 0)
  count_lawful =
      cursor_lawful At at_apart (λ n. n) (λ n. 0) (bank_questions xs) (λ n. Unit {0}) (λ n r. count_move xs n r.width) (λ n r i. elim (count_cases xs n r.width) [
        | inl e ↦ inl e
        | inr h ↦ inr (record {
          place = register xs n;
          cursor = n + 1;
          moved = h.0;
          between = ((n, omega arith, omega arith, h.1, refl), tt);
          lawful = one_granted r n h.1 h.2;
          onward = omega arith;
          larger = omega arith;
          again = tt;
        })
      ])
      (λ n i. omega arith) (λ e n i. refl) (λ n r i e l. cc) bank_set refl tt

  -- the place in the list where a byte cursor stands, which may be within a register
  abbrev index : ℕ → ℕ
  index n = (n + 3) / 4

  pub bits_lawful : Lawful (bank_questions xs) (bits_book xs 0)
  bits_lawful =
      cursor_lawful At at_apart index (λ n. 0) (bank_questions xs) (λ n. Unit {0}) (λ n r. bits_move xs n (bits_start n r) r.width) (λ n r i.
      let c = bits_start n r in
      let m : c % 4 ≡ 0 = by_four r.alignment n in
      let l : n ≤ c = (rounded (larger_of Four r.alignment) n).not_below in
      elim (bits_cases xs n c r.width) [
        | inl e ↦ inl e
        | inr t ↦ elim t [
          | inl h ↦ inr (record {
            place = register xs (c / 4);
            cursor = c + 4;
            moved = h.0;
            between = ((c / 4, omega (arith, m, l), omega (arith, m), omega (arith, m, h.1), refl), tt);
            lawful = one_granted r (c / 4) (omega (arith, m, h.1)) (omega (arith, ap bytes h.2));
            onward = omega (arith, m, l);
            larger = omega arith;
            again = tt;
          })
          | inr h ↦ inr (record {
            place = register_pair xs (c / 4);
            cursor = c + 8;
            moved = h.0;
            between = ((c / 4, omega (arith, m, l), omega (arith, m), omega (arith, m, h.1), refl), ((c / 4 + 1, omega (arith, m, l), omega (arith, m), omega (arith, m, h.1), refl), tt));
            lawful = pair_granted r (c / 4) (omega (arith, m, h.1)) (omega (arith, ap bytes h.2));
            onward = omega (arith, m, l);
            larger = omega arith;
            again = tt;
          })
        ]
      ])
      (λ n i. omega arith) (λ e n i. refl) (λ n r i e l. cc) bank_set refl tt
