-- What the chains over places and over a body find, by the words of the library.
use Rattle.std.proofs.Common.{◌≡◌, ℕ, suc, ◌+◌, Bool, true, false, cond, not, ◌&&◌, ◌||◌, ltb, List, [], ◌∷◌, map, length, Some, None, Option, refl, ap, ◌∙◌, inl, inr, add-zero, zero-add, lt-ltb, le-ltb, arith}
use Rattle.std.proofs.lemmas.Bool.{cases_order}
use Rattle.std.proofs.lemmas.Bool.Decides.{nat_tests}
use Rattle.std.specs.Prelude.{nat_le}
use Rattle.std.specs.List.{list_any, position_or_len, enumerate_from}
use Rattle.machine.specs.declared.Instruction.{Instruction}
use Rattle.place.specs.Pieces.{in_block, low_piece}
use Rattle.allocation.specs.States.{holding}
use Rattle.allocation.specs.declared.held.Held.{Held}
use Rattle.delivery.specs.Bodies.{accepts, body_fault}
use Rattle.emit.specs.Coding.{in_block_any}

pub some_in_block : (hs : List Held) → list_any (λ h. in_block (low_piece h.place)) hs ≡ in_block_any (map holding hs)
some_in_block [] = refl
some_in_block (h ∷ hs) = ap (λ b. in_block (low_piece h.place) || b) (some_in_block hs)

-- an instruction, with its index, that a body may not have, or that is one too many
abbrev pub bad : ℕ → ℕ × Instruction → Bool
bad homes p = nat_le 256 p.0 || not (accepts homes p.1)

bad_is : (homes i : ℕ) (x : Instruction) → bad homes (i, x) ≡ not (ltb i 256 && accepts homes x)
bad_is homes i x = grind (arith, nat_tests)

-- what a search that starts at index i answers: the index where it stops, unless that is the end
abbrev found : ℕ → ℕ → ℕ → Option ℕ
found i k n = cond (ltb k n) (Some (i + k)) None

found_first : (i n : ℕ) → found i 0 (suc n) ≡ Some i
found_first i n = rw (lt-ltb 0 (suc n) (omega arith), add-zero) refl

found_later : (i k n : ℕ) → found i (1 + k) (suc n) ≡ found (i + 1) k n
found_later i k n =
    let e : i + (1 + k) ≡ i + 1 + k = omega arith in
    elim (cases_order k n) [
      | inl q ↦ rw (le-ltb k n (omega arith), le-ltb (1 + k) (suc n) (omega arith)) refl
      | inr d ↦ elim d [ inl l ↦ rw (lt-ltb k n l, lt-ltb (1 + k) (suc n) (omega arith), e) refl | inr g ↦ rw (le-ltb k n (omega arith), le-ltb (1 + k) (suc n) (omega arith)) refl ]
    ]

first_bad_step : (homes i : ℕ) (x : Instruction) (k n : ℕ) (o : Option ℕ) (b t : Bool) → b ≡ not t → found (i + 1) k n ≡ o → found i (cond (not b) (1 + k) 0) (suc n) ≡ cond t o (Some i)
first_bad_step homes i x k n o b true e h = rw e (found_later i k n ∙ h)
first_bad_step homes i x k n o b false e h = rw e (found_first i n)

first_bad_from : (homes i : ℕ) (body : List Instruction) → found i (position_or_len (bad homes) (enumerate_from i body)) (length (enumerate_from i body)) ≡ body_fault homes body i
first_bad_from homes i [] = refl
first_bad_from homes i (x ∷ xs) = first_bad_step homes i x _ _ _ _ _ (bad_is homes i x) (first_bad_from homes (i + 1) xs)

pub first_bad : (homes : ℕ) (body : List Instruction) → cond (ltb (position_or_len (bad homes) (enumerate_from 0 body)) (length (enumerate_from 0 body))) (Some (position_or_len (bad homes) (enumerate_from 0 body))) None ≡ body_fault homes body 0
first_bad homes body = let e = first_bad_from homes 0 body in rw zero-add at e
