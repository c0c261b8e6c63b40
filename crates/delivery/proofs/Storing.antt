-- Results in registers are stored to homes.
use Rattle.std.proofs.Common.{◌≡◌, ℕ, ◌+◌, ◌-◌, ◌^◌, ◌<◌, ◌≤◌, true, ltb, ◌⊎◌, List, [], ◌∷◌, ◌++◌, length, get_or, sym, refl, ap, ◌∙◌, subst, inl, inr, add-zero, add_assoc, arith}
use Rattle.std.proofs.lemmas.Bool.{cases_lt, lt-ltb}
use Rattle.std.specs.List.{AllByRecursion}
use Rattle.machine.specs.Machine.{Contents, reg, bytes_of}
use Rattle.machine.specs.declared.Instruction.{Instruction}
use Rattle.machine.specs.declared.Instruction.TheVariants.{Store}
use Rattle.machine.specs.declared.Width.{Width}
use Rattle.machine.specs.declared.Width.TheVariants as Widths
use Rattle.place.specs.Holdings.{Holding}
use Rattle.place.specs.Pieces.{pieces, place_width, WellFormed}
use Rattle.place.specs.declared.pieces.Piece.TheVariants.{Register, Block}
use Rattle.place.specs.declared.pieces.Place.{Place}
use Rattle.place.specs.declared.pieces.Place.TheVariants.{Single, Double}
use Rattle.values.specs.Sizes.{bytes}
use Rattle.values.specs.declared.sizes.Size.{Size}
use Rattle.values.specs.declared.sizes.Size.TheVariants.{One, Two, Four, Eight}
use Rattle.delivery.specs.Code.{offset, home_size, home_bytes, moved, store_piece, store_pieces, store_all}
use Rattle.delivery.proofs.Ready.{Sane, Fits, AllPieces, InRegister}
use Rattle.delivery.specs.Delivering.{Returned, ResultByte}
use Rattle.delivery.specs.Widening.{byte_of, widened_byte}
use Rattle.delivery.proofs.Leading.{Leads, leads_then, leads_weaker, leads_end, Keeps, keeps_same, keeps_then, keeps_weaker, Every, Beside}
use Rattle.delivery.proofs.Places.{PlaceHas, AllHave, Carried, all_carried, all_pieces_both, Sound, all_sound, register_carried, beside_part, outside}
use Rattle.delivery.proofs.Steps.{store_offset}

-- bytes of register d are stored to offset h
abbrev Stores : List Instruction → ℕ → ℕ → ℕ → Contents → Type 0
Stores code d a k x = Leads code x (λ y. ((j : ℕ) → j < k → get_or y.mem (a + j) 0 ≡ byte_of (reg x d) j) × Keeps Every (Beside a k) x y)

store_at : (v : Width) (sp d h : ℕ) (x : Contents) → Sane x → reg x 31 ≡ sp → d < 32 → h + 8 ≤ 2 ^ 15 → sp + h + bytes_of v ≤ length x.mem → Stores (Store d 31 (offset (h + 0)) v ∷ []) d (sp + h) (bytes_of v) x
store_at v sp d h x n s l near room = subst (λ (k : ℕ). Stores (Store d 31 (offset k) v ∷ []) d (sp + h) (bytes_of v) x) (sym (add-zero h)) (store_offset sp d h v x n s l (omega arith) room)

store_low : (w : Size) (sp d h : ℕ) (x : Contents) → Sane x → reg x 31 ≡ sp → d < 32 → h + 8 ≤ 2 ^ 15 → sp + h + bytes w ≤ length x.mem → Stores (store_piece w (Register d) 0 h) d (sp + h) (bytes_of (moved w)) x
store_low One sp d h x n s l near room = store_at Widths.One sp d h x n s l near room
store_low Two sp d h x n s l near room = store_at Widths.Two sp d h x n s l near room
store_low Four sp d h x n s l near room = store_at Widths.Four sp d h x n s l near room
store_low Eight sp d h x n s l near room = store_at Widths.Four sp d h x n s l near (omega arith)

-- the bytes that the second piece of a result does not go to
abbrev NotHigh : ℕ → ℕ → ℕ → Type 0
NotHigh a k i = (i < a + 4) ⊎ (a + k ≤ i)

store_high :
    (w : Size) (sp d h : ℕ) (x : Contents) → Sane x → reg x 31 ≡ sp → d < 32 → h + 8 ≤ 2 ^ 15 → sp + h + bytes w ≤ length x.mem →
    Leads (store_piece w (Register d) 1 h) x (λ y. ((j : ℕ) → 4 + j < bytes w → get_or y.mem (sp + h + (4 + j)) 0 ≡ byte_of (reg x d) j) × Keeps Every (NotHigh (sp + h) (bytes w)) x y)
store_high One sp d h x n s l near room = (x, refl, ((λ j q. absurd (omega arith)), keeps_same n))
store_high Two sp d h x n s l near room = (x, refl, ((λ j q. absurd (omega arith)), keeps_same n))
store_high Four sp d h x n s l near room = (x, refl, ((λ j q. absurd (omega arith)), keeps_same n))
store_high Eight sp d h x n s l near room =
    leads_weaker (store_piece Eight (Register d) 1 h) x (store_offset sp d (h + 4) Widths.Four x n s l (omega arith) (omega arith)) λ y put. (
      (λ j q. let sum : sp + h + (4 + j) ≡ sp + (h + 4) + j = omega arith in ap (λ i. get_or y.mem i 0) sum ∙ put.0 j (omega arith)),
      keeps_weaker put.1 (λ r q. q) (λ i q. elim q [ inl p ↦ inl (omega arith) | inr p ↦ inr (omega arith) ]),
    )

moved_covers : (w : Size) (j : ℕ) → j < 4 → j < bytes w → j < bytes_of (moved w)
moved_covers One j p q = q
moved_covers Two j p q = q
moved_covers Four j p q = q
moved_covers Eight j p q = p

moved_within : (w : Size) → bytes_of (moved w) ≤ bytes w
moved_within One = omega arith
moved_within Two = omega arith
moved_within Four = omega arith
moved_within Eight = omega arith

-- the low bytes of a place in registers are stored
store_place_lem :
    (p : Place) (w : Size) (sp h sp' : ℕ) (x : Contents) (V : ℕ → ℕ) → Sane x → reg x 31 ≡ sp → WellFormed p → bytes w ≤ place_width p → AllByRecursion InRegister (pieces p) → h + 8 ≤ 2 ^ 15 → sp + h + bytes w ≤ length x.mem → PlaceHas x sp' p V →
    Leads (store_pieces w (pieces p) 0 h) x (λ y. ((j : ℕ) → j < bytes w → get_or y.mem (sp + h + j) 0 ≡ V j) × Keeps Every (Beside (sp + h) (bytes w)) x y)
store_place_lem (Single (Block o v)) w sp h sp' x V n s f wide only near room has = absurd only.0
store_place_lem (Single (Register d)) w sp h sp' x V n s f wide only near room has =
    let part = moved_within w in
    let code : List Instruction = store_piece w (Register d) 0 h in
    leads_end code x
    (leads_weaker code x (store_low w sp d h x n s (omega arith) near room) λ y put. (
      (λ j q. put.0 j (moved_covers w j (omega arith) q) ∙ has j (omega arith)),
      keeps_weaker put.1 (λ r q. q) (λ a q. beside_part (sp + h) (bytes w) (sp + h) (bytes_of (moved w)) a (omega arith) (omega arith) q),
    ))
store_place_lem (Double (Block o v) high) w sp h sp' x V n s f wide only near room has = absurd only.0
store_place_lem (Double (Register d) (Block o v)) w sp h sp' x V n s f wide only near room has = absurd only.1.0
store_place_lem (Double (Register d) (Register e)) w sp h sp' x V n s f wide only near room has =
    let part = moved_within w in
    let low : List Instruction = store_piece w (Register d) 0 h in
    let high : List Instruction = store_piece w (Register e) 1 h in
    leads_then low (high ++ []) x (store_low w sp d h x n s (omega arith) near room) λ z put.
    let size = put.1.size in
    leads_end high z
    (leads_weaker high z (store_high w sp e h z put.1.sane (put.1.regs 31 tt ∙ s) (omega arith) near (omega arith)) λ y more. (
      (λ j q.
          elim (cases_lt j 4) [
            | inl c ↦ more.1.mem (sp + h + j) (inl (omega arith)) ∙ (put.0 j (moved_covers w j c q) ∙ has.0 j c)
            | inr c ↦
                let index : j ≡ 4 + (j - 4) = omega arith in
                let last : byte_of (reg z e) (j - 4) ≡ V (4 + (j - 4)) = ap (λ v. byte_of v (j - 4)) (put.1.regs e tt) ∙ has.1 (j - 4) (omega arith) in
                ap (λ i. get_or y.mem (sp + h + i) 0) index ∙ (more.0 (j - 4) (omega arith) ∙ (last ∙ ap V (sym index)))
          ]),
      keeps_then put.1 more.1 (λ r q. (tt, tt))
          (λ a q. (beside_part (sp + h) (bytes w) (sp + h) (bytes_of (moved w)) a (omega arith) (omega arith) q, elim q [ inl c ↦ inl (omega arith) | inr c ↦ inr c ])),
    ))

size_small : (w : Size) → bytes w ≤ 8
size_small One = omega arith
size_small Two = omega arith
size_small Four = omega arith
size_small Eight = omega arith

-- the bytes of results lie from their first home on
result_above : (hs : List Holding) (a i : ℕ) → ResultByte hs a i → a ≤ i
result_above [] a i r = absurd r
result_above (h ∷ hs) a i (inl r) = r.0
result_above (h ∷ hs) a i (inr r) = let l = result_above hs (a + home_size) i r in omega arith

-- results that hold their homes' bytes are stored to other homes
pub store_all_lem :
    (hs : List Holding) (sp h sp' : ℕ) (m : List ℕ) (c : ℕ) (x : Contents) →
    Sane x → reg x 31 ≡ sp → AllByRecursion Fits hs → AllPieces InRegister hs → h + home_bytes (length hs) ≤ 2 ^ 15 → sp + h + home_bytes (length hs) ≤ length x.mem → AllHave x sp' hs m c →
    Leads (store_all hs h) x (λ y. Returned hs y.mem (sp + h) m c × Keeps Every (λ i. ResultByte hs (sp + h) i → ⊥) x y)
store_all_lem [] sp h sp' m c x n s f only near room has = (x, refl, (tt, keeps_same n))
store_all_lem (a ∷ hs) sp h sp' m c x n s f only near room has =
    let w : Size = a.width in
    let small = size_small w in
    let V : ℕ → ℕ = widened_byte a.kind w m c in
    leads_then (store_pieces w (pieces a.place) 0 h) (store_all hs (h + home_size)) x
    (store_place_lem a.place w sp h sp' x V n s f.0.is_well_formed f.0.is_wide_enough only.0 (omega arith) (omega arith) has.0) λ z put.
    let size = put.1.size in
    let carry : AllPieces (Carried x sp' z sp') hs =
    all_pieces_both Sound InRegister (Carried x sp' z sp') (λ p q i. register_carried p x sp' z sp' (λ r l. put.1.regs r tt) q i) hs (all_sound hs f.1) only.1 in
    let there = all_carried hs x sp' z sp' m (c + home_size) carry has.1 in
    leads_weaker (store_all hs (h + home_size)) z (store_all_lem hs sp (h + home_size) sp' m (c + home_size) z put.1.sane (put.1.regs 31 tt ∙ s) f.1 only.1 (omega arith) (omega arith) there) λ y rest. (
      (
        (λ j q.
            let t : ltb j (bytes w) ≡ true = lt-ltb j (bytes w) q in
            let value : V j ≡ get_or m (c + j) 0 = rw t in
            rest.1.mem (sp + h + j) (λ r. omega (arith, result_above hs (sp + (h + home_size)) (sp + h + j) r)) ∙ (put.0 j q ∙ value)),
        subst (λ (d : ℕ). Returned hs y.mem d m (c + home_size)) (sym (add_assoc sp h home_size)) rest.0,
      ),
      keeps_then put.1 rest.1 (λ r q. (tt, tt))
          (λ i q. (outside (sp + h) (bytes w) i (λ r. q (inl r)), λ r. q (inr (subst (λ (d : ℕ). ResultByte hs d i) (sym (add_assoc sp h home_size)) r)))),
    )
