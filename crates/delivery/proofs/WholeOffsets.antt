-- Code is the same for offsets that stand the same wherever they are below 2 ^ 15.
use Rattle.std.proofs.Common.{◌≡◌, ℕ, suc, ◌+◌, ◌*◌, ◌^◌, ◌<◌, ◌≤◌, cond, List, [], ◌∷◌, ◌++◌, length, ℤ, pos, neg_ℤ, false, mod-eq_of_lt, refl, ap, ◌∙◌, ltb, arith}
use Rattle.std.specs.List.{AllByRecursion}
use Rattle.machine.specs.Laws.{calling, called}
use Rattle.machine.specs.declared.Instruction.{Instruction}
use Rattle.machine.specs.declared.Instruction.TheVariants.{Addi, Load, Store}
use Rattle.machine.specs.declared.Width.TheVariants as Widths
use Rattle.place.specs.Holdings.{Holding}
use Rattle.place.specs.Pieces.{pieces, Below}
use Rattle.place.specs.declared.pieces.Piece.{Piece}
use Rattle.place.specs.declared.pieces.Piece.TheVariants.{Register, Block}
use Rattle.place.specs.declared.pieces.Place.{Place}
use Rattle.place.specs.declared.pieces.Place.TheVariants.{Single, Double}
use Rattle.values.specs.Sizes.{bytes}
use Rattle.values.specs.declared.kinds.Kind.{Kind}
use Rattle.values.specs.declared.sizes.Size.{Size}
use Rattle.delivery.proofs.Ready.{AllPieces}
use Rattle.delivery.specs.CodeBy.{home_size, stack_pointer, scratch, moved, through, by_sign, extend, each_home, each_word, saved, home_bytes, frame_bytes}
use Rattle.delivery.specs.CodeBy as By
use Rattle.delivery.specs.Code.{offset, caller_code, callee_code, whole_caller_code, whole_callee_code}

-- two lists of records that are each equal in both parts
joined : (x y x' y' : List Instruction) → x ≡ x' → y ≡ y' → x ++ y ≡ x' ++ y'
joined x y x' y' e f = ap (λ l. l ++ y) e ∙ ap (λ l. x' ++ l) f

two_at_most : (p : Place) → length (pieces p) ≤ 2
two_at_most (Single low) = omega arith
two_at_most (Double low high) = omega arith

abbrev Within : Piece → Type 0
Within = Below 4096

-- places whose pieces end within the block
abbrev PlaceWithin : Holding → Type 0
PlaceWithin a = AllByRecursion Within (pieces a.place)

module _ (f g : ℕ → ℤ) (same : (n : ℕ) → n < 2 ^ 15 → f n ≡ g n) where
  settled : (p : Piece) → Within p → By.settle f p ≡ By.settle g p
  settled (Register d) h = refl
  settled (Block o w) h = ap (λ i. Store scratch stack_pointer i (moved w) ∷ []) (same o (omega (arith, h)))

  further : (t : Kind) (w : Size) (k d s h : ℕ) → h + 4 * k < 2 ^ 15 → By.fill_further f t w k d s h ≡ By.fill_further g t w k d s h
  further t w k d s h l = ap (λ i. cond (ltb (4 * k) (bytes w)) (Load d stack_pointer i Widths.Four (by_sign t)) (extend t d s)) (same (h + 4 * k) l)

  rest : (t : Kind) (w : Size) (ps : List Piece) (k s h : ℕ) → h + 4 * (k + length ps) < 2 ^ 15 → AllByRecursion Within ps → By.fill_rest f t w ps k s h ≡ By.fill_rest g t w ps k s h
  rest t w [] k s h l a = refl
  rest t w (p ∷ ps) k s h l a =
      joined _ _ _ _ (joined (By.fill_further f t w k (through p) s h ∷ []) _ (By.fill_further g t w k (through p) s h ∷ []) _ (ap (λ x. x ∷ []) (further t w k (through p) s h (omega (arith, l)))) (settled p a.0)) (rest t w ps (suc k) s h (omega (arith, l)) a.1)

  filled_pieces : (t : Kind) (w : Size) (ps : List Piece) (h : ℕ) → h + 4 * length ps + 4 < 2 ^ 15 → AllByRecursion Within ps → By.fill_pieces f t w ps h ≡ By.fill_pieces g t w ps h
  filled_pieces t w [] h l a = refl
  filled_pieces t w (p ∷ ps) h l a =
      joined _ _ _ _ (joined (Load (through p) stack_pointer (f h) (moved w) (by_sign t) ∷ []) _ (Load (through p) stack_pointer (g h) (moved w) (by_sign t) ∷ []) _ (ap (λ i. Load (through p) stack_pointer i (moved w) (by_sign t) ∷ []) (same h (omega (arith, l)))) (settled p a.0)) (rest t w ps 1 (through p) h (omega (arith, l)) a.1)

  filled : (a : Holding) (h : ℕ) → PlaceWithin a → h ≤ 30000 → By.fill_place f a h ≡ By.fill_place g a h
  filled a h i l = let two = two_at_most a.place in filled_pieces a.kind a.width (pieces a.place) h (omega (arith, l, two)) i

  copied_piece : (b : ℕ) (p : Piece) (h : ℕ) → b ≤ 4096 → h < 2 ^ 15 → Within p → By.copy_piece f b p h ≡ By.copy_piece g b p h
  copied_piece b (Register d) h m l i = ap (λ o. Store d stack_pointer o Widths.Four ∷ []) (same h l)
  copied_piece b (Block o w) h m l i =
      joined (Load scratch stack_pointer (f (b + o)) (moved w) false ∷ []) _ (Load scratch stack_pointer (g (b + o)) (moved w) false ∷ []) _ (ap (λ k. Load scratch stack_pointer k (moved w) false ∷ []) (same (b + o) (omega (arith, m, i)))) (ap (λ k. Store scratch stack_pointer k (moved w) ∷ []) (same h l))

  copied_pieces : (b : ℕ) (ps : List Piece) (h : ℕ) → b ≤ 4096 → h + 4 * length ps < 2 ^ 15 → AllByRecursion Within ps → By.copy_pieces f b ps h ≡ By.copy_pieces g b ps h
  copied_pieces b [] h m l a = refl
  copied_pieces b (p ∷ ps) h m l a = joined _ _ _ _ (copied_piece b p h m (omega (arith, l)) a.0) (copied_pieces b ps (h + 4) m (omega (arith, l)) a.1)

  copied : (b : ℕ) → b ≤ 4096 → (a : Holding) (h : ℕ) → PlaceWithin a → h ≤ 30000 → By.copy_place f b a h ≡ By.copy_place g b a h
  copied b m a h i l = let two = two_at_most a.place in copied_pieces b (pieces a.place) h m (omega (arith, l, two)) i

  stored_register : (w : Size) (p : Piece) (h : ℕ) → h < 2 ^ 15 → By.store_register f w p h ≡ By.store_register g w p h
  stored_register w (Register d) h l = ap (λ i. Store d stack_pointer i (moved w) ∷ []) (same h l)
  stored_register w (Block o v) h l = refl

  stored_pieces : (w : Size) (ps : List Piece) (k h : ℕ) → h + 4 * (k + length ps) < 2 ^ 15 → By.store_pieces f w ps k h ≡ By.store_pieces g w ps k h
  stored_pieces w [] k h l = refl
  stored_pieces w (p ∷ ps) k h l =
      joined _ _ _ _ (ap (λ x. cond (ltb (4 * k) (bytes w)) x []) (stored_register w p (h + 4 * k) (omega (arith, l)))) (stored_pieces w ps (suc k) h (omega (arith, l)))

  stored : (a : Holding) (h : ℕ) → Unit {0} → h ≤ 30000 → By.store_place f a h ≡ By.store_place g a h
  stored a h i l = let two = two_at_most a.place in stored_pieces a.width (pieces a.place) 0 h (omega (arith, l, two))

  -- code for each place, where the code for one is the same
  homes : (P : Holding → Type 0) (c d : Holding → ℕ → List Instruction) → ((a : Holding) (h : ℕ) → P a → h ≤ 30000 → c a h ≡ d a h) → (hs : List Holding) (h : ℕ) → h + 8 * length hs ≤ 30000 → AllByRecursion P hs → each_home c hs h ≡ each_home d hs h
  homes P c d one [] h l a = refl
  homes P c d one (x ∷ hs) h l a = joined _ _ _ _ (one x h a.0 (omega (arith, l))) (homes P c d one hs (h + home_size) (omega (arith, l)) a.1)

  words : (c d : ℕ → ℕ → Instruction) → ((r h : ℕ) → h ≤ 30000 → c r h ≡ d r h) → (rs : List ℕ) (h : ℕ) → h + 4 * length rs ≤ 30000 → each_word c rs h ≡ each_word d rs h
  words c d one [] h l = refl
  words c d one (r ∷ rs) h l = joined (c r h ∷ []) _ (d r h ∷ []) _ (ap (λ x. x ∷ []) (one r h (omega (arith, l)))) (words c d one rs (h + 4) (omega (arith, l)))

  anywhere : (hs : List Holding) → AllByRecursion (λ (a : Holding). Unit {0}) hs
  anywhere [] = tt
  anywhere (a ∷ hs) = (tt, anywhere hs)

  up_same : (n : ℕ) → n < 2 ^ 15 → By.up f n ≡ By.up g n
  up_same n l = ap (Addi stack_pointer stack_pointer) (same n l)

  down_same : (n : ℕ) → n < 2 ^ 15 → By.down f n ≡ By.down g n
  down_same n l = ap (λ i. Addi stack_pointer stack_pointer (neg_ℤ i)) (same n l)

  pub caller_same : (args results : List Holding) (b : ℕ) → b ≤ 4096 → length args + length results ≤ 32 → AllPieces Within args → By.caller_code f args results b ≡ By.caller_code g args results b
  caller_same args results b l n a =
      let fills = homes PlaceWithin (By.fill_place f) (By.fill_place g) filled args b (omega (arith, l, n)) a in
      let stores = homes (λ _. Unit {0}) (By.store_place f) (By.store_place g) stored results (b + home_bytes (length args)) (omega (arith, l, n)) (anywhere results) in
      let before = joined (By.down f b ∷ []) _ (By.down g b ∷ []) _ (ap (λ x. x ∷ []) (down_same b (omega (arith, l)))) fills in
      let after = joined _ (By.up f b ∷ []) _ (By.up g b ∷ []) stores (ap (λ x. x ∷ []) (up_same b (omega (arith, l)))) in
      ap (λ x. calling x (By.after_call f args results b)) before ∙ ap (calling (By.before_call g args b)) after

  pub callee_same : (args results : List Holding) (kept : ℕ) (body : List Instruction) → frame_bytes args results (saved kept body) ≤ 4096 → length args + length results ≤ 32 → length (saved kept body) ≤ 28 → AllPieces Within args → AllPieces Within results → By.callee_code f args results kept body ≡ By.callee_code g args results kept body
  callee_same args results kept body l n s a r =
      let rs = saved kept body in
      let b = frame_bytes args results rs in
      let home = home_bytes (length args + length results) in
      let saves = words (By.save_word f) (By.save_word g) (λ r h k. ap (λ i. Store r stack_pointer i Widths.Four) (same h (omega (arith, k)))) rs home (omega (arith, n, s)) in
      let loads = words (By.restore_word f) (By.restore_word g) (λ r h k. ap (λ i. Load r stack_pointer i Widths.Four false) (same h (omega (arith, k)))) rs home (omega (arith, n, s)) in
      let copies = homes PlaceWithin (By.copy_place f b) (By.copy_place g b) (copied b l) args 0 (omega (arith, n)) a in
      let fills = homes PlaceWithin (By.fill_place f) (By.fill_place g) filled results (home_bytes (length args)) (omega (arith, n)) r in
      let before = joined (By.down f b ∷ []) _ (By.down g b ∷ []) _ (ap (λ x. x ∷ []) (down_same b (omega (arith, l)))) (joined _ _ _ _ saves copies) in
      let after = joined _ _ _ _ fills (joined _ (By.up f b ∷ []) _ (By.up g b ∷ []) loads (ap (λ x. x ∷ []) (up_same b (omega (arith, l))))) in
      ap called (joined _ _ _ _ before (ap (λ x. body ++ x) after))

offset_whole : (n : ℕ) → n < 2 ^ 15 → offset n ≡ pos n
offset_whole n h = ap pos (mod-eq_of_lt h)

pub caller_whole : (args results : List Holding) (b : ℕ) → b ≤ 4096 → length args + length results ≤ 32 → AllPieces (Below 4096) args → caller_code args results b ≡ whole_caller_code args results b
caller_whole = caller_same offset pos offset_whole

pub callee_whole : (args results : List Holding) (kept : ℕ) (body : List Instruction) → frame_bytes args results (saved kept body) ≤ 4096 → length args + length results ≤ 32 → length (saved kept body) ≤ 28 → AllPieces (Below 4096) args → AllPieces (Below 4096) results → callee_code args results kept body ≡ whole_callee_code args results kept body
callee_whole = callee_same offset pos offset_whole
