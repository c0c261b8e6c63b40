-- How long the codes of a call are.
use Rattle.std.proofs.Common.{◌≡◌, ℕ, ◌+◌, ◌*◌, ◌≤◌, ltb, List, [], ◌∷◌, length, None, refl, arith}
use Rattle.std.proofs.lemmas.List.{length-append}
use Rattle.std.proofs.lemmas.Bool.{cond_both}
use Rattle.machine.specs.declared.Instruction.{Instruction}
use Rattle.place.specs.Holdings.{Holding}
use Rattle.place.specs.Pieces.{pieces}
use Rattle.place.specs.declared.pieces.Piece.{Piece}
use Rattle.place.specs.declared.pieces.Piece.TheVariants.{Register, Block}
use Rattle.place.specs.declared.pieces.Place.{Place}
use Rattle.place.specs.declared.pieces.Place.TheVariants.{Single, Double}
use Rattle.values.specs.Sizes.{bytes}
use Rattle.values.specs.declared.sizes.Size.{Size}
use Rattle.delivery.proofs.Running.{each_short, fill_all_short}
use Rattle.delivery.proofs.Saving.{saved_few}
use Rattle.delivery.specs.Bodies.{body_fault}
use Rattle.delivery.specs.Code.{copy_piece, copy_pieces, copy_place, store_register, store_piece, store_pieces, store_place, each_word, save_word, restore_word, home_bytes, saved, frame_bytes, caller_code, callee_code}
use Rattle.emit.proofs.Tested.{short_body}

-- a piece is copied by at most 2 instructions, and stored by at most 1
copy_piece_short : (p : Piece) (f h : ℕ) → length (copy_piece f p h) ≤ 2
copy_piece_short (Register d) f h = omega arith
copy_piece_short (Block o w) f h = omega arith

store_register_short : (p : Piece) (w : Size) (h : ℕ) → length (store_register w p h) ≤ 1
store_register_short (Register d) w h = omega arith
store_register_short (Block o v) w h = omega arith

store_piece_short : (p : Piece) (w : Size) (k h : ℕ) → length (store_piece w p k h) ≤ 1
store_piece_short p w k h =
    cond_both (ltb (4 * k) (bytes w)) (store_register w p (h + 4 * k)) [] (λ is. length is ≤ 1) (λ e. store_register_short p w (h + 4 * k)) (λ e. omega arith)

copy_short : (p : Place) (f h : ℕ) → length (copy_pieces f (pieces p) h) ≤ 4
copy_short (Single low) f h = simp length-append (omega (arith, copy_piece_short low f h))
copy_short (Double low high) f h = simp length-append (omega (arith, copy_piece_short low f h, copy_piece_short high f (h + 4)))

store_short : (p : Place) (w : Size) (h : ℕ) → length (store_pieces w (pieces p) 0 h) ≤ 4
store_short (Single low) w h = simp length-append (omega (arith, store_piece_short low w 0 h))
store_short (Double low high) w h = simp length-append (omega (arith, store_piece_short low w 0 h, store_piece_short high w 1 h))

-- one instruction for each register
words_many : (code : ℕ → ℕ → Instruction) (rs : List ℕ) (h : ℕ) → length (each_word code rs h) ≡ length rs
words_many code [] h = refl
words_many code (r ∷ rs) h = omega (arith, words_many code rs (h + 4))

-- a step for each record of both codes is at most 512
pub codes_have_at_most_512_records :
    (a r c d : List Holding) (b kept : ℕ) (body : List Instruction) → length a ≤ 16 → length r ≤ 4 → length c ≤ 16 → length d ≤ 4 →
    body_fault (home_bytes (length c + length d)) body 0 ≡ None →
    length (caller_code a r b) + length (callee_code c d kept body) ≤ 512
codes_have_at_most_512_records a r c d b kept body la lr lc ld e =
    let rs : List ℕ = saved kept body in
    let f : ℕ = frame_bytes c d rs in
    let fill = fill_all_short a b in
    let store = each_short store_place (λ x h. store_short x.place x.width h) r (b + home_bytes (length a)) in
    let save = words_many save_word rs (home_bytes (length c + length d)) in
    let copy = each_short (copy_place f) (λ x h. copy_short x.place f h) c 0 in
    let inner = short_body body (home_bytes (length c + length d)) 0 (omega arith) e in
    let reply = fill_all_short d (home_bytes (length c)) in
    let restore = words_many restore_word rs (home_bytes (length c + length d)) in
    let few = saved_few kept body in
    simp length-append (omega arith)
