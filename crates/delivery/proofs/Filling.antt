-- Places are filled from homes.
use Rattle.std.proofs.Common.{◌≡◌, map, ℕ, ◌+◌, ◌^◌, ◌<◌, ◌≤◌, Bool, true, ltb, List, [], ◌∷◌, ◌++◌, length, sym, refl, ap, ◌∙◌, subst, add_assoc, arith}
use Rattle.std.proofs.ByRecursion.{All-weaker}
use Rattle.std.proofs.lemmas.Bool.{lt-ltb}
use Rattle.std.specs.List.{AllByRecursion}
use Rattle.machine.specs.Machine.{Contents, reg, word, loaded, widened, bytes_of, sign_of}
use Rattle.machine.specs.declared.Instruction.{Instruction}
use Rattle.machine.specs.declared.Instruction.TheVariants.{Set, Sign, Load}
use Rattle.machine.specs.declared.Width.{Width}
use Rattle.machine.specs.declared.Width.TheVariants as Widths
use Rattle.place.specs.Holdings.{Holding}
use Rattle.place.specs.Pieces.{pieces, Apart, PlacesApart, WellFormed, PiecesApart, Below, EachApart}
use Rattle.place.specs.declared.pieces.Piece.{Piece}
use Rattle.place.specs.declared.pieces.Piece.TheVariants.{Register, Block}
use Rattle.place.specs.declared.pieces.Place.{Place}
use Rattle.place.specs.declared.pieces.Place.TheVariants.{Single, Double}
use Rattle.values.specs.Sizes.{bytes}
use Rattle.values.specs.declared.kinds.Kind.{Kind}
use Rattle.values.specs.declared.kinds.Kind.TheVariants.{Unsigned, Signed, Float, Address}
use Rattle.values.specs.declared.sizes.Size.{Size}
use Rattle.values.specs.declared.sizes.Size.TheVariants.{One, Two, Four, Eight}
use Rattle.delivery.specs.Code.{offset, home_size, home_bytes, moved, through, by_sign, extend, settle, fill_further, fill_pieces, fill_all}
use Rattle.delivery.proofs.Ready.{Sane, Fits, AllPieces}
use Rattle.delivery.specs.Widening.{byte_of, widened_byte}
use Rattle.delivery.proofs.Leading.{Leads, leads_then, leads_weaker, leads_end, Keeps, keeps_same, keeps_then, keeps_weaker, Every, But}
use Rattle.delivery.proofs.Memory.{AgreeFrom, word_same}
use Rattle.delivery.proofs.Places.{all_places, PieceHas, PlaceHas, AllHave, Carried, piece_carried, place_carried, Misses, Clear, shielded_carried, shielded_apart, shielded_all, pieces_apart, through_below, Sound, pieces_sound, moved_bytes, moved_small, beside_part, misses_above}
use Rattle.delivery.proofs.Steps.{set_step, load_offset, store_offset}
use Rattle.delivery.proofs.Widths.{upper, further, whole_loaded, loaded_byte, further_byte, sign_below, widened_same}

-- an instruction that makes a piece's value, and what puts it into its place
fill_piece :
    (p : Piece) (sp base : ℕ) (i : Instruction) (x : Contents) (v : ℕ) (V : ℕ → ℕ) →
    Sound p → Below base p → base < 2 ^ 15 → reg x 31 ≡ sp → sp + base ≤ length x.mem → Leads (i ∷ []) x (λ y. (reg y (through p) ≡ v) × Keeps (But (through p)) Every x y) →
    ((j : ℕ) → j < 4 → byte_of v j ≡ V j) →
    Leads (i ∷ settle p) x (λ y. PieceHas y sp p V × (reg y (through p) ≡ v) × Keeps (λ r. Clear r p) (λ a. Misses sp a p) x y)
fill_piece (Register d) sp base i x v V f e near s room made b =
    leads_weaker (i ∷ []) x made λ y got. ((λ j l. ap (λ n. byte_of n j) got.0 ∙ b j l), got.0, got.1)
fill_piece (Block o w) sp base i x v V f e near s room made b =
    let same : bytes_of (moved w) ≡ bytes w = moved_bytes w f.1 in
    leads_then (i ∷ []) (settle (Block o w)) x made λ z got.
    let size = got.1.size in
    leads_weaker (settle (Block o w)) z (store_offset sp 28 o (moved w) z got.1.sane (got.1.regs 31 (λ h. omega arith) ∙ s) (omega arith) (omega arith) (omega arith)) λ y put. (
      (λ j h. put.0 j (omega arith) ∙ (ap (λ n. byte_of n j) got.0 ∙ b j (omega arith))),
      put.1.regs 28 tt ∙ got.0,
      keeps_then got.1 put.1 (λ r h. (h, tt)) (λ a h. (tt, beside_part (sp + o) (bytes w) (sp + o) (bytes_of (moved w)) a (omega arith) (omega arith) h)),
    )

-- what goes on behind a low piece
upper_step : (t : Kind) (d s : ℕ) (x : Contents) (v : ℕ) → Sane x → d < 32 → s < 32 → reg x s ≡ v → Leads (extend t d s ∷ []) x (λ y. (reg y d ≡ upper t v) × Keeps (But d) Every x y)
upper_step Unsigned d s x v n p q e = let t : ltb d 32 ≡ true = lt-ltb d 32 p in set_step (Set d 0) x d 0 n p (omega arith) (rw t)
upper_step Signed d s x v n p q e =
    let t : ltb d 32 ≡ true = lt-ltb d 32 p in
    let u : ltb s 32 ≡ true = lt-ltb s 32 q in
    set_step (Sign d s) x d (sign_of v) n p (sign_below v) (rw (t, u, e))
upper_step Float d s x v n p q e = let t : ltb d 32 ≡ true = lt-ltb d 32 p in set_step (Set d 0) x d 0 n p (omega arith) (rw t)
upper_step Address d s x v n p q e = let t : ltb d 32 ≡ true = lt-ltb d 32 p in set_step (Set d 0) x d 0 n p (omega arith) (rw t)

-- the second piece of a value, where register s has its low piece v
further_step :
    (w : Size) (t : Kind) (sp d s home : ℕ) (x : Contents) (v : ℕ) → Sane x → reg x 31 ≡ sp → d < 32 → s < 32 → reg x s ≡ v → home + 8 ≤ 2 ^ 15 → sp + home + 8 ≤ length x.mem →
    Leads (fill_further t w 1 d s home ∷ []) x (λ y. (reg y d ≡ further t w x.mem (sp + home) v) × Keeps (But d) Every x y)
further_step One t sp d s home x v n r p q e near room = upper_step t d s x v n p q e
further_step Two t sp d s home x v n r p q e near room = upper_step t d s x v n p q e
further_step Four t sp d s home x v n r p q e near room = upper_step t d s x v n p q e
further_step Eight t sp d s home x v n r p q e near room =
    leads_weaker (fill_further t Eight 1 d s home ∷ []) x (load_offset sp d (home + 4) Widths.Four (by_sign t) x n r p (omega arith) (omega arith)) λ y got.
    (got.0 ∙ whole_loaded (by_sign t) (word x.mem (sp + (home + 4)) 4) ∙ ap (λ a. word x.mem a 4) (sym (add_assoc sp home 4)), got.1)

loaded_same : (w : Width) (b : Bool) (m n : List ℕ) (a : ℕ) → AgreeFrom a m n → loaded m a w b ≡ loaded n a w b
loaded_same w b m n a e = ap (widened b (bytes_of w)) (word_same (bytes_of w) m n a e)

-- the low piece of a place is filled from its home; m is memory with the same homes
fill_low :
    (p : Piece) (t : Kind) (w : Size) (base home sp : ℕ) (m : List ℕ) (x : Contents) →
    Sane x → reg x 31 ≡ sp → Sound p → Below base p → base ≤ home → home + 8 ≤ 2 ^ 15 → sp + home + 8 ≤ length x.mem → AgreeFrom (sp + base) x.mem m →
    Leads (Load (through p) 31 (offset home) (moved w) (by_sign t) ∷ settle p) x
    (λ y. PieceHas y sp p (widened_byte t w m (sp + home)) × (reg y (through p) ≡ loaded x.mem (sp + home) (moved w) (by_sign t)) × Keeps (λ r. Clear r p) (λ a. Misses sp a p) x y)
fill_low p t w base home sp m x n s f ends below near room agree =
    let small = moved_small w in
    let reach = through_below p f.0 in
    fill_piece p sp base (Load (through p) 31 (offset home) (moved w) (by_sign t)) x (loaded x.mem (sp + home) (moved w) (by_sign t)) (widened_byte t w m (sp + home)) f ends (omega arith) s (omega arith)
    (load_offset sp (through p) home (moved w) (by_sign t) x n s (omega arith) (omega arith) (omega arith))
    (λ j l. loaded_byte t w x.mem (sp + home) j n.bytes_have_8_bits l ∙ widened_same t w x.mem m (sp + home) (λ i h. agree i (omega arith)) j)

-- the second piece of a place is filled, where register s has the low piece
fill_high :
    (p : Piece) (t : Kind) (w : Size) (base home sp s : ℕ) (m : List ℕ) (x : Contents) →
    Sane x → reg x 31 ≡ sp → s < 32 → reg x s ≡ loaded x.mem (sp + home) (moved w) (by_sign t) → Sound p → Below base p → base ≤ home → home + 8 ≤ 2 ^ 15 → sp + home + 8 ≤ length x.mem → AgreeFrom (sp + base) x.mem m →
    Leads (fill_further t w 1 (through p) s home ∷ settle p) x (λ y. PieceHas y sp p (λ i. widened_byte t w m (sp + home) (4 + i)) × Keeps (λ r. Clear r p) (λ a. Misses sp a p) x y)
fill_high p t w base home sp s m x n at l e f ends below near room agree =
    let reach = through_below p f.0 in
    let v : ℕ = loaded x.mem (sp + home) (moved w) (by_sign t) in
    leads_weaker (fill_further t w 1 (through p) s home ∷ settle p) x
    (fill_piece p sp base (fill_further t w 1 (through p) s home) x (further t w x.mem (sp + home) v) (λ i. widened_byte t w m (sp + home) (4 + i)) f ends (omega arith) at (omega arith)
    (further_step w t sp (through p) s home x v n at (omega arith) l e near room)
    (λ j q. further_byte w t x.mem (sp + home) j n.bytes_have_8_bits q ∙ widened_same t w x.mem m (sp + home) (λ i h. agree i (omega arith)) (4 + j)))
    λ y got. (got.0, got.2)

-- a place is filled from its home
fill_place_lem :
    (p : Place) (t : Kind) (w : Size) (base home sp : ℕ) (m : List ℕ) (x : Contents) →
    Sane x → reg x 31 ≡ sp → WellFormed p → PiecesApart p → AllByRecursion (Below base) (pieces p) → base ≤ home → home + 8 ≤ 2 ^ 15 → sp + home + 8 ≤ length x.mem → AgreeFrom (sp + base) x.mem m →
    Leads (fill_pieces t w (pieces p) home) x (λ y. PlaceHas y sp p (widened_byte t w m (sp + home)) × Keeps (λ r. AllByRecursion (Clear r) (pieces p)) (λ a. AllByRecursion (Misses sp a) (pieces p)) x y)
fill_place_lem (Single low) t w base home sp m x n s f apart ends below near room agree =
    let code : List Instruction = Load (through low) 31 (offset home) (moved w) (by_sign t) ∷ settle low in
    leads_end code x (leads_weaker code x (fill_low low t w base home sp m x n s f ends.0 below near room agree) λ y got. (got.0, keeps_weaker got.2 (λ r h. h.0) (λ a h. h.0)))
fill_place_lem (Double low high) t w base home sp m x n s f apart ends below near room agree =
    let sounds = pieces_sound (Double low high) f in
    let reach = through_below low f.0 in
    let first : List Instruction = Load (through low) 31 (offset home) (moved w) (by_sign t) ∷ settle low in
    let second : List Instruction = fill_further t w 1 (through high) (through low) home ∷ settle high in
    leads_then first (second ++ []) x (fill_low low t w base home sp m x n s sounds.0 ends.0 below near room agree) λ z got.
    let size = got.2.size in
    let stays : AgreeFrom (sp + base) z.mem x.mem = λ i h. got.2.mem i (misses_above sp base i low h ends.0) in
    let value : reg z (through low) ≡ loaded z.mem (sp + home) (moved w) (by_sign t) =
    got.1 ∙ sym (loaded_same (moved w) (by_sign t) z.mem x.mem (sp + home) (λ i h. stays i (omega arith))) in
    leads_end second z
    (leads_weaker second z
    (fill_high high t w base home sp (through low) m z got.2.sane (got.2.regs 31 (λ h. omega arith) ∙ s) (omega arith) value sounds.1.0 ends.1.0 below near (omega arith) (λ i h. stays i h ∙ agree i h)) λ y more. (
      (piece_carried low z sp y sp (widened_byte t w m (sp + home)) (shielded_carried low (λ r. Clear r high) (λ a. Misses sp a high) sp z y more.1 (shielded_apart low high sp f.0 apart)) got.0, more.0),
      keeps_then got.2 more.1 (λ r h. (h.0, h.1.0)) (λ a h. (h.0, h.1.0)),
    ))

-- no place has a register above r28
pub clear_of : (r : ℕ) (hs : List Holding) → 28 < r → AllByRecursion Fits hs → AllPieces (Clear r) hs
clear_of r [] l f = tt
clear_of r (h ∷ hs) l f =
    (All-weaker Sound (Clear r) (λ p g same. omega (arith, through_below p g.0)) (pieces h.place) (pieces_sound h.place f.0.is_well_formed), clear_of r hs l f.1)

-- pieces keep what they hold while places apart from them are filled
pieces_kept :
    (ps : List Piece) (hs : List Holding) (sp : ℕ) (x y : Contents) → AllByRecursion Sound ps → AllByRecursion (λ q. AllPieces (Apart q) hs) ps → Keeps (λ r. AllPieces (Clear r) hs) (λ a. AllPieces (Misses sp a) hs) x y →
    AllByRecursion (Carried x sp y sp) ps
pieces_kept [] hs sp x y c d k = tt
pieces_kept (p ∷ ps) hs sp x y c d k =
    (shielded_carried p (λ r. AllPieces (Clear r) hs) (λ a. AllPieces (Misses sp a) hs) sp x y k (shielded_all p hs sp c.0.0 d.0), pieces_kept ps hs sp x y c.1 d.1 k)

-- places that share no byte are filled from their homes; m is memory with the same homes
pub fill_all_lem :
    (hs : List Holding) (base home sp : ℕ) (m : List ℕ) (x : Contents) →
    Sane x → reg x 31 ≡ sp → AllByRecursion Fits hs → EachApart (map (λ x. x.place) hs) → AllPieces (Below base) hs → base ≤ home → home + home_bytes (length hs) ≤ 2 ^ 15 → sp + home + home_bytes (length hs) ≤ length x.mem → AgreeFrom (sp + base) x.mem m →
    Leads (fill_all hs home) x (λ y. AllHave y sp hs m (sp + home) × Keeps (λ r. AllPieces (Clear r) hs) (λ a. AllPieces (Misses sp a) hs) x y)
fill_all_lem [] base home sp m x n s f apart ends below near room agree = (x, refl, (tt, keeps_same n))
fill_all_lem (h ∷ hs) base home sp m x n s f apart ends below near room agree =
    let V : ℕ → ℕ = widened_byte h.kind h.width m (sp + home) in
    let formed = f.0.is_well_formed in
    leads_then (fill_pieces h.kind h.width (pieces h.place) home) (fill_all hs (home + home_size)) x
    (fill_place_lem h.place h.kind h.width base home sp m x n s formed f.0.pieces_share_no_byte ends.0 below (omega arith) (omega arith) agree) λ z got.
    let size = got.1.size in
    let pointer : reg z 31 ≡ sp = got.1.regs 31 (clear_of 31 (h ∷ hs) (omega arith) f).0 ∙ s in
    let stays : AgreeFrom (sp + base) z.mem m = λ i l. got.1.mem i (All-weaker (Below base) (Misses sp i) (λ p e. misses_above sp base i p l e) (pieces h.place) ends.0) ∙ agree i l in
    leads_weaker (fill_all hs (home + home_size)) z (fill_all_lem hs base (home + home_size) sp m z got.1.sane pointer f.1 apart.1 ends.1 (omega arith) (omega arith) (omega arith) stays) λ y rest. (
      (
        place_carried h.place z sp y sp V (pieces_kept (pieces h.place) hs sp z y (pieces_sound h.place formed) (pieces_apart h.place hs (all_places (PlacesApart h.place) hs apart.0)) rest.1) got.0,
        subst (λ (c : ℕ). AllHave y sp hs m c) (sym (add_assoc sp home home_size)) rest.0,
      ),
      keeps_then got.1 rest.1 (λ r q. q) (λ a q. q),
    )
