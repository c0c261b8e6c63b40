-- The bottom that has two registers to give is lawful.
use Rattle.std.specs.Prelude.{◌≡◌, ℕ, zero, suc, ◌<◌, ◌≤◌, true, ◌⊎◌, nat_lt, refl}
use Rattle.std.proofs.Common.{inl, inr, arith}
use Rattle.std.proofs.lemmas.Bool.{ltb-true, cases_Bool, cond-true, cond-false}
use Rattle.place.proofs.Apart.{registers_apart}
use Rattle.place.proofs.Sets.{none_in_empty, with_itself, with_others, with_cases}
use Rattle.place.specs.Pieces.{Apart}
use Rattle.place.specs.Registers.{has, with}
use Rattle.place.specs.declared.pieces.Piece.{Piece}
use Rattle.place.specs.declared.pieces.Piece.TheVariants.{Register, Block}
use Rattle.place.specs.declared.pieces.Place.TheVariants.{Single}
use Rattle.values.specs.Sizes.{bytes}
use Rattle.values.specs.declared.requests.Request.{Request}
use Rattle.values.specs.declared.sizes.Size.{Size}
use Rattle.values.specs.declared.sizes.Size.TheVariants.{One, Two, Four, Eight}
use Rattle.stage.specs.Lawful.{Granted, Lawful}
use Rattle.stage.specs.Cursors.{grant, refuse}
use Rattle.stage.proofs.Cursors.{cursor_lawful}
use Rattle.foreign_bottoms.specs.TwoRegisters.{one_more, two_move, two_does, two_questions, two_book}

-- a register from lo up to below hi
abbrev Within : ℕ → ℕ → Piece → Type 0
Within lo hi (Register x) = (lo ≤ x) × (x < hi)
Within lo hi (Block o w) = ⊥

within_apart : (lo mid from hi : ℕ) → mid ≤ from → (x y : Piece) → Within lo mid x → Within from hi y → Apart x y
within_apart lo mid from hi l (Register x) (Register y) g h = registers_apart x y (λ e. omega (arith, g.1, h.0, e))
within_apart lo mid from hi l (Register x) (Block o w) g h = absurd h
within_apart lo mid from hi l (Block o w) y g h = absurd g

in_set : (n : ℕ) → n < 2 → has two_questions.registers n ≡ true
in_set zero l = with_others (with 0 0) 1 0 (with_itself 0 0 (omega arith))
in_set (suc zero) l = with_itself (with 0 0) 1 (omega arith)
in_set (suc (suc n)) l = absurd (omega arith)

at_most_27 : (x : ℕ) → has two_questions.registers x ≡ true → x ≤ 27
at_most_27 x h =
    elim (with_cases (with 0 0) 1 x h) [
      | inl a ↦ elim (with_cases 0 0 x a) [ inl none ↦ absurd (none_in_empty x none) | inr e ↦ omega (arith, e) ]
      | inr e ↦ omega (arith, e)
    ]

granted : (r : Request) (n : ℕ) → n < 2 → bytes r.width ≤ 4 → Granted two_questions r (Single (Register n)) 0
granted r n l w = record {
  is_well_formed = (omega arith, omega arith);
  is_as_wide_as_requested_or_wider = w;
  pieces_share_no_byte = tt;
  registers_are_in_the_set = (in_set n l, tt);
  low_block_piece_is_aligned = tt;
  reach_lies_above_its_block_bytes = (tt, tt);
}

-- it refuses, or it gives the next register and goes on to the one after it
cases : (n : ℕ) (w : Size) → (two_move n w ≡ refuse n) ⊎ ((two_move n w ≡ grant (Single (Register n)) (one_more n)) × (n < 2) × (bytes w ≤ 4))
cases n One = inl refl
cases n Two = inl refl
cases n Eight = inl refl
cases n Four = elim (cases_Bool (nat_lt n 2)) [ inl t ↦ inr (cond-true _ _ _ t, ltb-true _ _ t, omega arith) | inr f ↦ inl (cond-false _ _ _ f) ]

pub two_lawful : Lawful two_questions (two_book 0)
two_lawful =
    cursor_lawful Within within_apart (λ n. n) (λ n. 0) two_questions (λ n. Unit {0}) two_does (λ n r i. elim (cases n r.width) [
      | inl e ↦ inl e
      | inr h ↦ inr (record {
        place = Single (Register n);
        cursor = one_more n;
        moved = h.0;
        between = ((omega arith, omega arith), tt);
        lawful = granted r n h.1 h.2;
        onward = omega arith;
        larger = omega arith;
        again = tt;
      })
    ])
    (λ n i. omega arith) (λ e n i. refl) (λ n r i e l. cc) at_most_27 refl tt
