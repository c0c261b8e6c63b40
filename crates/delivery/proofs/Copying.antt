-- Places are copied to homes.
use Rattle.std.proofs.Common.{◌≡◌, ℕ, ◌+◌, ◌-◌, ◌^◌, ◌<◌, ◌≤◌, false, List, [], ◌∷◌, ◌++◌, length, get_or, sym, refl, ap, ◌∙◌, subst, inl, inr, add_assoc, arith}
use Rattle.std.proofs.lemmas.Bool.{cases_lt}
use Rattle.std.specs.List.{AllByRecursion}
use Rattle.machine.specs.Machine.{Contents, reg, bytes_of}
use Rattle.machine.specs.declared.Instruction.TheVariants.{Load, Store}
use Rattle.machine.specs.declared.Width.TheVariants as Widths
use Rattle.place.specs.Holdings.{Holding}
use Rattle.place.specs.Pieces.{pieces, piece_width, place_width, WellFormed, Below}
use Rattle.place.specs.declared.pieces.Piece.{Piece}
use Rattle.place.specs.declared.pieces.Piece.TheVariants.{Register, Block}
use Rattle.place.specs.declared.pieces.Place.{Place}
use Rattle.place.specs.declared.pieces.Place.TheVariants.{Single, Double}
use Rattle.values.specs.Sizes.{bytes}
use Rattle.delivery.specs.Code.{offset, home_size, home_bytes, moved, copy_piece, copy_pieces, copy_all}
use Rattle.delivery.proofs.Ready.{Sane, Fits, AllPieces}
use Rattle.delivery.specs.Delivering.{Widened}
use Rattle.delivery.specs.Widening.{byte_of, widened_byte}
use Rattle.delivery.proofs.Leading.{Leads, leads_then, leads_weaker, leads_end, Keeps, keeps_same, keeps_then, keeps_weaker, But, Beside}
use Rattle.delivery.proofs.Memory.{word_byte}
use Rattle.delivery.proofs.Places.{PieceHas, PlaceHas, AllHave, Carried, piece_carried, all_carried, all_pieces_weaker, Shielded, shielded_carried, Sound, pieces_sound, all_sound, moved_bytes, beside_part}
use Rattle.delivery.proofs.Steps.{load_offset, store_offset}

-- a piece is copied to offset h; the block lies at offset f
copy_piece_lem :
    (p : Piece) (sp f h b : ℕ) (x : Contents) (V : ℕ → ℕ) → Sane x → reg x 31 ≡ sp → Sound p → Below b p → h < 2 ^ 15 → f + b < 2 ^ 15 → sp + h + 4 ≤ length x.mem → sp + f + b ≤ length x.mem → PieceHas x (sp + f) p V →
    Leads (copy_piece f p h) x (λ y. ((i : ℕ) → i < piece_width p → get_or y.mem (sp + h + i) 0 ≡ V i) × Keeps (But 28) (Beside (sp + h) 4) x y)
copy_piece_lem (Register d) sp f h b x V n s k e low near room block has =
    leads_weaker (copy_piece f (Register d) h) x (store_offset sp d h Widths.Four x n s (omega arith) low room) λ y put.
    ((λ i l. put.0 i l ∙ has i l), keeps_weaker put.1 (λ r q. tt) (λ a q. q))
copy_piece_lem (Block o w) sp f h b x V n s k e low near room block has =
    let same : bytes_of (moved w) ≡ bytes w = moved_bytes w k.1 in
    leads_then (Load 28 31 (offset (f + o)) (moved w) false ∷ []) (Store 28 31 (offset h) (moved w) ∷ []) x (load_offset sp 28 (f + o) (moved w) false x n s (omega arith) (omega arith) (omega arith)) λ z got.
    let size = got.1.size in
    leads_weaker (Store 28 31 (offset h) (moved w) ∷ []) z (store_offset sp 28 h (moved w) z got.1.sane (got.1.regs 31 (λ q. omega arith) ∙ s) (omega arith) low (omega arith)) λ y put. (
      (λ i l.
          let sum : sp + (f + o) + i ≡ sp + f + o + i = omega arith in
          put.0 i (omega arith) ∙ (ap (λ v. byte_of v i) got.0 ∙ (word_byte (bytes_of (moved w)) i x.mem (sp + (f + o)) n.bytes_have_8_bits (omega arith) ∙ (ap (λ a. get_or x.mem a 0) sum ∙ has i l)))),
      keeps_then got.1 put.1 (λ r q. (q, tt)) (λ a q. (tt, beside_part (sp + h) 4 (sp + h) (bytes_of (moved w)) a (omega arith) (omega arith) q)),
    )

-- a copy below the block leaves every piece alone
shielded_below : (p : Piece) (sp f h k : ℕ) → Sound p → h + k ≤ f → Shielded (But 28) (Beside (sp + h) k) (sp + f) p
shielded_below (Register d) sp f h k s l = λ same. omega arith
shielded_below (Block o w) sp f h k s l = λ i q. inr (omega arith)

copy_place_lem :
    (p : Place) (sp f h b : ℕ) (x : Contents) (V : ℕ → ℕ) → Sane x → reg x 31 ≡ sp → WellFormed p → AllByRecursion (Below b) (pieces p) → h + 8 ≤ f → f + b < 2 ^ 15 → sp + f + b ≤ length x.mem → PlaceHas x (sp + f) p V →
    Leads (copy_pieces f (pieces p) h) x (λ y. ((j : ℕ) → j < place_width p → get_or y.mem (sp + h + j) 0 ≡ V j) × Keeps (But 28) (Beside (sp + h) 8) x y)
copy_place_lem (Single low) sp f h b x V n s w ends below near room has =
    leads_end (copy_piece f low h) x
    (leads_weaker (copy_piece f low h) x (copy_piece_lem low sp f h b x V n s w ends.0 (omega arith) near (omega arith) room has) λ y got.
    (got.0, keeps_weaker got.1 (λ r q. q) (λ a q. beside_part (sp + h) 8 (sp + h) 4 a (omega arith) (omega arith) q)))
copy_place_lem (Double low high) sp f h b x V n s w ends below near room has =
    let sounds = pieces_sound (Double low high) w in
    leads_then (copy_piece f low h) (copy_piece f high (h + 4) ++ []) x (copy_piece_lem low sp f h b x V n s sounds.0 ends.0 (omega arith) near (omega arith) room has.0) λ z got.
    let size = got.1.size in
    let carry = shielded_carried high (But 28) (Beside (sp + h) 4) (sp + f) x z got.1 (shielded_below high sp f h 4 sounds.1.0 (omega arith)) in
    let there = piece_carried high x (sp + f) z (sp + f) (λ i. V (4 + i)) carry has.1 in
    leads_end (copy_piece f high (h + 4)) z
    (leads_weaker (copy_piece f high (h + 4)) z
    (copy_piece_lem high sp f (h + 4) b z (λ i. V (4 + i)) got.1.sane (got.1.regs 31 (λ q. omega arith) ∙ s) sounds.1.0 ends.1.0 (omega arith) near (omega arith) (omega arith) there) λ y more. (
      (λ j q.
          elim (cases_lt j 4) [
            | inl c ↦ more.1.mem (sp + h + j) (inl (omega arith)) ∙ got.0 j (omega arith)
            | inr c ↦
                let place : sp + h + j ≡ sp + (h + 4) + (j - 4) = omega arith in
                let index : 4 + (j - 4) ≡ j = omega arith in
                ap (λ a. get_or y.mem a 0) place ∙ (more.0 (j - 4) (omega arith) ∙ ap V index)
          ]),
      keeps_then got.1 more.1 (λ r q. (q, q)) (λ a q. (beside_part (sp + h) 8 (sp + h) 4 a (omega arith) (omega arith) q, beside_part (sp + h) 8 (sp + (h + 4)) 4 a (omega arith) (omega arith) q)),
    ))

place_small : (p : Place) → WellFormed p → place_width p ≤ 8
place_small (Single low) w = omega arith
place_small (Double low high) w = omega arith

-- places that hold their homes' bytes are copied to other homes
pub copy_all_lem :
    (hs : List Holding) (sp f h b : ℕ) (m : List ℕ) (c : ℕ) (x : Contents) →
    Sane x → reg x 31 ≡ sp → AllByRecursion Fits hs → AllPieces (Below b) hs → h + home_bytes (length hs) ≤ f → f + b < 2 ^ 15 → sp + f + b ≤ length x.mem → AllHave x (sp + f) hs m c →
    Leads (copy_all f hs h) x (λ y. Widened hs y.mem (sp + h) m c × Keeps (But 28) (Beside (sp + h) (home_bytes (length hs))) x y)
copy_all_lem [] sp f h b m c x n s w ends below near room has = (x, refl, (tt, keeps_same n))
copy_all_lem (a ∷ hs) sp f h b m c x n s w ends below near room has =
    let width = place_small a.place w.0.is_well_formed in
    let V : ℕ → ℕ = widened_byte a.kind a.width m c in
    leads_then (copy_pieces f (pieces a.place) h) (copy_all f hs (h + home_size)) x (copy_place_lem a.place sp f h b x V n s w.0.is_well_formed ends.0 (omega arith) near room has.0) λ z got.
    let size = got.1.size in
    let carry : AllPieces (Carried x (sp + f) z (sp + f)) hs =
    all_pieces_weaker Sound (Carried x (sp + f) z (sp + f)) (λ p q. shielded_carried p (But 28) (Beside (sp + h) 8) (sp + f) x z got.1 (shielded_below p sp f h 8 q (omega arith))) hs (all_sound hs w.1) in
    let there = all_carried hs x (sp + f) z (sp + f) m (c + home_size) carry has.1 in
    leads_weaker (copy_all f hs (h + home_size)) z
    (copy_all_lem hs sp f (h + home_size) b m (c + home_size) z got.1.sane (got.1.regs 31 (λ q. omega arith) ∙ s) w.1 ends.1 (omega arith) near (omega arith) there) λ y rest. (
      ((λ j q. rest.1.mem (sp + h + j) (inl (omega arith)) ∙ got.0 j q), subst (λ (d : ℕ). Widened hs y.mem d m (c + home_size)) (sym (add_assoc sp h home_size)) rest.0),
      keeps_then got.1 rest.1 (λ r q. (q, q))
          (λ i q. (beside_part (sp + h) (home_bytes (length (a ∷ hs))) (sp + h) 8 i (omega arith) (omega arith) q, beside_part (sp + h) (home_bytes (length (a ∷ hs))) (sp + (h + home_size)) (home_bytes (length hs)) i (omega arith) (omega arith) q)),
    )
