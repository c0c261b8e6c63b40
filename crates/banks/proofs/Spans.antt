-- What bits gives over whole lists of requests, by the bytes of its list.
use Rattle.std.proofs.Common.{◌≡◌, ℕ, ◌+◌, ◌*◌, ◌/◌, ◌%◌, ◌<◌, ◌≤◌, max, true, ◌↔◌, List, [], ◌∷◌, ◌++◌, length, slice_index, nat_eq, is_some, Some, None, Option, IsSome, refl, sym, ap, ◌∙◌, subst, inl, inr, arith}
use Rattle.std.proofs.lemmas.Bool.{cond-true, eq-eqb, ne_eqb, le-leb}
use Rattle.std.proofs.lemmas.Grind.{flat_map-append}
use Rattle.std.proofs.lemmas.List.{append-nil}
use Rattle.std.proofs.lemmas.List.Sums.{position_or_len_is}
use Rattle.std.specs.List.{flat_map, last_or, position_or_len}
use Rattle.std.specs.Option.{option_to_list, option_map_or}
use Rattle.place.specs.Pieces.{pieces, low_piece}
use Rattle.place.specs.declared.pieces.Piece.TheVariants.{Register}
use Rattle.place.specs.declared.pieces.Place.{Place}
use Rattle.stage.proofs.Cursors.{none_given, that_given}
use Rattle.stage.proofs.Traces.{by_what_was_given}
use Rattle.stage.specs.Books.{Book, said}
use Rattle.stage.specs.Cursors.{Move, grant, refuse}
use Rattle.values.proofs.Rounding.{rounded, grown, four_grown, divides}
use Rattle.values.specs.Sizes.{bytes, larger_of, round_up}
use Rattle.values.specs.declared.requests.Request.{Request}
use Rattle.values.specs.declared.sizes.Size.{Size}
use Rattle.values.specs.declared.sizes.Size.TheVariants.{One, Two, Four, Eight}
use Rattle.banks.specs.Banks.{register, register_pair, bits_move, bits_does, bits_start, bits_book}
use Rattle.banks.specs.BanksLemmas.{differ_at, bits_cases}
use Rattle.banks.specs.Grants.{start_in, end_in, last_end, IsOneOrTwoRegistersWide, StandsAt, GivesByBytes}
use Rattle.banks.specs.Lists.{distinct}

last_or_append : {X : Type 0} (o : Option X) (xs ys : List X) → last_or o (xs ++ ys) ≡ last_or (last_or o xs) ys
last_or_append o [] ys = refl
last_or_append o (x ∷ xs) ys = last_or_append (Some x) xs ys

larger_is_max : (s : Size) → max 4 (bytes s) ≡ bytes (larger_of Four s)
larger_is_max One = refl
larger_is_max Two = refl
larger_is_max Four = refl
larger_is_max Eight = refl

-- a start of bits: a multiple of 4 and of the alignment, from n on
record Starts (n : ℕ) (r : Request) : Type 0 where
  pub by_four : bits_start n r % 4 ≡ 0
  pub by_alignment : bits_start n r % bytes r.alignment ≡ 0
  pub not_before : n ≤ bits_start n r

starts : (n : ℕ) (r : Request) → Starts n r
starts n r =
    let larger = larger_of Four r.alignment in
    let near = rounded larger n in
    record {
      by_four = divides larger Four (bits_start n r) (four_grown r.alignment) near.multiple;
      by_alignment = divides larger r.alignment (bits_start n r) (grown Four r.alignment) near.multiple;
      not_before = near.not_below;
    }

-- the bytes in the list before a register at index c / 4
whole : (c : ℕ) → c % 4 ≡ 0 → 4 * (c / 4) ≡ c
whole c h = omega arith

module _ (xs : List ℕ) (d : distinct xs ≡ true) where
  position_at : (i : ℕ) → i < length xs → position_or_len (nat_eq (slice_index xs i)) xs ≡ i
  position_at i l =
      position_or_len_is (nat_eq (slice_index xs i)) xs i 0 (omega (arith, l)) (λ k m. ne_eqb (slice_index xs i) (slice_index xs k) (λ e. differ_at xs 0 k i d m l (sym e))) (λ _. eq-eqb (slice_index xs i) (slice_index xs i) refl)

  begins_at : (c i : ℕ) → c ≡ 4 * i → i < length xs → start_in xs (Register (slice_index xs i)) ≡ c
  begins_at c i e l = omega (arith, e, position_at i l)

  last_after : (given : List Place) (p : Place) → last_end xs (given ++ p ∷ []) ≡ option_map_or (end_in xs) (last_or (last_or None (flat_map pieces given)) (pieces p ++ [])) 0
  last_after given p =
      ap (λ ps. option_map_or (end_in xs) (last_or None ps) 0) (flat_map-append pieces given (p ∷ []))
      ∙ ap (λ o. option_map_or (end_in xs) o 0) (last_or_append None (flat_map pieces given) (pieces p ++ []))

  passes : (given : List Place) (r : Request) → (bits_does xs (last_end xs given) r).cursor ≡ last_end xs (given ++ option_to_list (bits_does xs (last_end xs given) r).answer)
  passes given r =
      let n = last_end xs given in
      let c = bits_start n r in
      let s = starts n r in
      let whole_start = whole c s.by_four in
      elim (bits_cases xs n c r.width) [
        | inl e ↦ to (refuse n) e (sym (ap (last_end xs) (append-nil given)))
        | inr t ↦ elim t [
          | inl h ↦ to (grant (register xs (c / 4)) (c + 4)) h.0 (sym (last_after given _ ∙ omega (arith, position_at (c / 4) (omega (arith, whole_start, h.1)), whole_start)))
          | inr h ↦ to (grant (register_pair xs (c / 4)) (c + 8)) h.0 (sym (last_after given _ ∙ omega (arith, position_at (c / 4 + 1) (omega (arith, whole_start, h.1)), whole_start)))
        ]
      ]
    where
      to : (m : Move) → bits_does xs (last_end xs given) r ≡ m → m.cursor ≡ last_end xs (given ++ option_to_list m.answer) → (bits_does xs (last_end xs given) r).cursor ≡ last_end xs (given ++ option_to_list (bits_does xs (last_end xs given) r).answer)
      to m e h = subst (λ (v : Move). v.cursor ≡ last_end xs (given ++ option_to_list v.answer)) (sym e) h

  abbrev start_at : ℕ → Request → ℕ
  start_at n r = round_up (max 4 (bytes r.alignment)) n

  same_start : (n : ℕ) (r : Request) → bits_start n r ≡ start_at n r
  same_start n r = ap (λ k. round_up k n) (sym (larger_is_max r.alignment))

  abbrev Fits : ℕ → Request → Type 0
  Fits c r = IsOneOrTwoRegistersWide r × (c + bytes r.width ≤ 4 * length xs)

  -- a place that bits gives from byte c on, with n bytes given
  record Stands (n c : ℕ) (r : Request) (p : Place) : Type 0 where
    pub in_the_list : StandsAt xs r p (c / 4)
    pub not_before : n ≤ start_in xs (low_piece p)
    pub aligned : start_in xs (low_piece p) % bytes r.alignment ≡ 0

  -- what bits does behind n bytes given
  abbrev NextOfBytes : ℕ → Book → Type 0
  NextOfBytes n b =
      ((r : Request) → IsSome (said b r) ↔ Fits (start_at n r) r)
      × ((r : Request) (p : Place) → said b r ≡ Some p → Stands n (start_at n r) r p)

  fits_then : (n c : ℕ) (r : Request) → Fits c r → is_some (bits_move xs n c r.width).answer ≡ true
  fits_then n c r h =
      elim h.0 [
        | inl w ↦ let l : c + 4 ≤ 4 * length xs = omega (arith, h.1, ap bytes w) in rw (w, cond-true _ (grant (register xs (c / 4)) (c + 4)) (refuse n) (le-leb _ _ l)) refl
        | inr w ↦ let l : c + 8 ≤ 4 * length xs = omega (arith, h.1, ap bytes w) in rw (w, cond-true _ (grant (register_pair xs (c / 4)) (c + 8)) (refuse n) (le-leb _ _ l)) refl
      ]

  granted_then : (n c : ℕ) (r : Request) → is_some (bits_move xs n c r.width).answer ≡ true → Fits c r
  granted_then n c r e =
      elim (bits_cases xs n c r.width) [
        | inl k ↦ absurd (let no : ◌≡◌ {A = ℕ} 0 1 = cc in omega arith)
        | inr t ↦ elim t [ inl h ↦ (inl h.2, omega (arith, h.1, ap bytes h.2)) | inr h ↦ (inr h.2, omega (arith, h.1, ap bytes h.2)) ]
      ]

  placed : (n : ℕ) (r : Request) (p : Place) → bits_start n r / 4 < length xs → low_piece p ≡ Register (slice_index xs (bits_start n r / 4)) → StandsAt xs r p (bits_start n r / 4) → Stands n (bits_start n r) r p
  placed n r p l low at =
      let c = bits_start n r in
      let s = starts n r in
      let begins : start_in xs (low_piece p) ≡ c = ap (start_in xs) low ∙ begins_at c (c / 4) (sym (whole c s.by_four)) l in
      record {
        in_the_list = at;
        not_before = omega (arith, begins, s.not_before);
        aligned = ap (λ k. k % bytes r.alignment) begins ∙ s.by_alignment;
      }

  stands : (n : ℕ) (r : Request) (p : Place) → (bits_does xs n r).answer ≡ Some p → Stands n (bits_start n r) r p
  stands n r p e =
      let c = bits_start n r in
      let whole_start = whole c (starts n r).by_four in
      elim (bits_cases xs n c r.width) [
        | inl k ↦ none_given _ (bits_does xs n r) n p k e
        | inr t ↦ elim t [
          | inl h ↦
              let one = placed n r (register xs (c / 4)) (omega (arith, whole_start, h.1)) refl (inl (h.2, refl, omega (arith, whole_start, h.1))) in
              subst (Stands n c r) (that_given (bits_does xs n r) (register xs (c / 4)) p (c + 4) h.0 e) one
          | inr h ↦
              let two = placed n r (register_pair xs (c / 4)) (omega (arith, whole_start, h.1)) refl (inr (h.2, refl, omega (arith, whole_start, h.1))) in
              subst (Stands n c r) (that_given (bits_does xs n r) (register_pair xs (c / 4)) p (c + 8) h.0 e) two
        ]
      ]

  next_of_bytes : (n : ℕ) → NextOfBytes n (bits_book xs n)
  next_of_bytes n = (
    λ r. subst (λ c. (is_some (bits_does xs n r).answer ≡ true) ↔ Fits c r) (same_start n r) (granted_then n (bits_start n r) r, fits_then n (bits_start n r) r),
    λ r p e. subst (λ c. Stands n c r p) (same_start n r) (stands n r p e),
  )

  gives_from_the_first : GivesByBytes xs (bits_book xs 0)
  gives_from_the_first =
      let next = by_what_was_given (bits_does xs) (λ n. 0) (last_end xs) passes NextOfBytes next_of_bytes refl in
      record {
        grants_one_or_two_registers_while_they_fit = λ rs r. (next rs).0 r;
        gives_the_registers_at_the_next_start = λ rs r p e. ((next rs).1 r p e).in_the_list;
        begins_no_place_before_the_last_one_ends = λ rs r p e. ((next rs).1 r p e).not_before;
        starts_at_multiples_of_the_alignment = λ rs r p e. ((next rs).1 r p e).aligned;
      }

pub gives_by_bytes : (xs items : List ℕ) → distinct xs ≡ true → (n : ℕ) → (items ≡ xs) × (n ≡ 0) → GivesByBytes xs (bits_book items n)
gives_by_bytes xs items d n h = rw (h.0, h.1) (gives_from_the_first xs d)
