-- Up is lawful.
use Rattle.std.specs.Prelude.{◌≡◌, ℕ, ◌+◌, ◌≤◌, true, ◌&&◌, leb, ◌⊎◌, is_some, nat_le, refl}
use Rattle.std.proofs.Common.{inl, inr, ap, arith}
use Rattle.std.proofs.lemmas.Bool.{leb-true, le-leb, and_parts, cases_Bool, cond-true, cond-false}
use Rattle.std.specs.List.{AllByRecursion}
use Rattle.place.proofs.Apart.{blocks_apart}
use Rattle.values.proofs.Rounding.{rounded, at_most_eight}
use Rattle.place.proofs.Sets.{none_in_empty}
use Rattle.place.specs.Pieces.{Apart, pieces}
use Rattle.values.specs.Sizes.{bytes, round_up}
use Rattle.place.specs.declared.pieces.Piece.{Piece}
use Rattle.place.specs.declared.pieces.Piece.TheVariants.{Register, Block}
use Rattle.place.specs.declared.pieces.Place.TheVariants.{Single}
use Rattle.values.specs.declared.requests.Request.{Request}
use Rattle.values.specs.declared.sizes.Size.{Size}
use Rattle.values.specs.declared.sizes.Size.TheVariants.{One, Two, Four, Eight}
use Rattle.stage.specs.Lawful.{Granted, Lawful, Aligned}
use Rattle.stage.specs.Cursors.{grant, refuse}
use Rattle.blocks.specs.Blocks.{block_place, up_move, up_book, up_questions}
use Rattle.stage.proofs.Cursors.{cursor_lawful}

-- block bytes from lo on that end by hi
abbrev Between : ℕ → ℕ → Piece → Type 0
Between lo hi (Register x) = ⊥
Between lo hi (Block o w) = (lo ≤ o) × (o + bytes w ≤ hi)

between_apart : (lo mid from hi : ℕ) → mid ≤ from → (x y : Piece) → Between lo mid x → Between from hi y → Apart x y
between_apart lo mid from hi l (Register x) y g h = absurd g
between_apart lo mid from hi l (Block o v) (Register y) g h = absurd h
between_apart lo mid from hi l (Block o v) (Block u w) g h = blocks_apart o v u w (omega (arith, g.1, h.0))

given_between : (lo o : ℕ) (w : Size) → lo ≤ o → AllByRecursion (Between lo (o + bytes w)) (pieces (block_place o w))
given_between lo o One l = ((l, omega arith), tt)
given_between lo o Two l = ((l, omega arith), tt)
given_between lo o Four l = ((l, omega arith), tt)
given_between lo o Eight l = ((l, omega arith), ((omega arith, omega arith), tt))

single_granted : (m : Size) (r : Request) (o : ℕ) (w : Size) → bytes w ≤ 4 → r.width ≡ w → Aligned (bytes r.alignment) (Block o w) → Granted (up_questions m) r (Single (Block o w)) (o + bytes w)
single_granted m r o w small e a = record {
  is_well_formed = (tt, small);
  is_as_wide_as_requested_or_wider = omega (arith, ap bytes e);
  pieces_share_no_byte = tt;
  registers_are_in_the_set = (tt, tt);
  low_block_piece_is_aligned = a;
  reach_lies_above_its_block_bytes = (omega arith, tt);
}

given_granted : (m : Size) (r : Request) (o : ℕ) (w : Size) → r.width ≡ w → Aligned (bytes r.alignment) (Block o w) → Granted (up_questions m) r (block_place o w) (o + bytes w)
given_granted m r o One e a = single_granted m r o One (omega arith) e a
given_granted m r o Two e a = single_granted m r o Two (omega arith) e a
given_granted m r o Four e a = single_granted m r o Four (omega arith) e a
given_granted m r o Eight e a = record {
  is_well_formed = (tt, tt, refl, refl, refl);
  is_as_wide_as_requested_or_wider = omega (arith, ap bytes e);
  pieces_share_no_byte = blocks_apart o Four (o + 4) Four (omega arith);
  registers_are_in_the_set = (tt, (tt, tt));
  low_block_piece_is_aligned = a;
  reach_lies_above_its_block_bytes = (omega arith, (omega arith, tt));
}

abbrev pub start : ℕ → Request → ℕ
start n r = round_up (bytes r.alignment) n

abbrev pub Given : Size → ℕ → Request → Type 0
Given m n r = (up_move m n r ≡ grant (block_place (start n r) r.width) (start n r + bytes r.width)) × (start n r + bytes r.width ≤ 4096)

pub up_cases : (m : Size) (n : ℕ) (r : Request) → (up_move m n r ≡ refuse n) ⊎ Given m n r
up_cases m n r =
    let a = leb (bytes r.alignment) (bytes m) in
    let b = leb (start n r + bytes r.width) 4096 in
    elim (cases_Bool (a && b)) [ inl t ↦ inr (cond-true (a && b) _ _ t, leb-true _ _ (and_parts a b t).1) | inr f ↦ inl (cond-false (a && b) _ _ f) ]

up_endless : (m : Size) (n : ℕ) (r : Request) → nat_le (bytes r.alignment) (bytes m) ≡ true → n ≤ 4088 → is_some (up_move m n r).answer ≡ true
up_endless m n r e h =
    let fits : leb (start n r + bytes r.width) 4096 ≡ true = le-leb _ _ (omega (arith, (rounded r.alignment n).end_fits h, at_most_eight r.width)) in
    rw (e, fits)

pub up_lawful : (m : Size) → Lawful (up_questions m) (up_book m 0)
up_lawful m =
    cursor_lawful Between between_apart (λ n. n) (λ n. n) (up_questions m) (λ n. n ≤ 4096) (up_move m) (λ n r i.
    let near = rounded r.alignment n in
    elim (up_cases m n r) [
      | inl e ↦ inl e
      | inr h ↦ inr (record {
        place = block_place (start n r) r.width;
        cursor = start n r + bytes r.width;
        moved = h.0;
        between = given_between n (start n r) r.width near.not_below;
        lawful = given_granted m r (start n r) r.width refl near.multiple;
        onward = omega (arith, near.not_below);
        larger = omega (arith, near.not_below);
        again = h.1;
      })
    ])
    (λ n i. i) (λ e n i. cc) (λ n r i. up_endless m n r) (λ x h. absurd (none_in_empty x h)) refl (omega arith)
