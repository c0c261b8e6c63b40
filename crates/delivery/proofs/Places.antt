-- What pieces and places hold, byte by byte, and what leaves it alone.
use Rattle.std.proofs.Common.{◌≡◌, map, ℕ, ◌+◌, ◌<◌, ◌≤◌, List, [], ◌∷◌, get_or, sym, refl, ap, ◌∙◌, inl, inr, arith}
use Rattle.std.proofs.ByRecursion.{All-weaker}
use Rattle.std.specs.List.{AllByRecursion}
use Rattle.machine.specs.Machine.{Contents, reg, bytes_of}
use Rattle.place.specs.Holdings.{Holding}
use Rattle.place.specs.Pieces.{of_register, of_block, pieces, piece_width, Placeable, WellFormed, Apart, PlacesApart, Below}
use Rattle.place.specs.declared.pieces.Piece.{Piece}
use Rattle.place.specs.declared.pieces.Piece.TheVariants.{Register, Block}
use Rattle.place.specs.declared.pieces.Place.{Place}
use Rattle.place.specs.declared.pieces.Place.TheVariants.{Single, Double}
use Rattle.values.specs.Sizes.{bytes}
use Rattle.values.specs.declared.sizes.Size.{Size}
use Rattle.values.specs.declared.sizes.Size.TheVariants.{One, Two, Four, Eight}
use Rattle.delivery.specs.Code.{home_size, moved, through}
use Rattle.delivery.proofs.Ready.{Fits, AllPieces, InRegister, Spares}
use Rattle.delivery.specs.Widening.{byte_of, widened_byte}
use Rattle.delivery.proofs.Leading.{Keeps, Every, But, Beside}

-- a piece holds these bytes; the block lies at sp
abbrev pub PieceHas : Contents → ℕ → Piece → (ℕ → ℕ) → Type 0
PieceHas x sp (Register d) V = (i : ℕ) → i < 4 → byte_of (reg x d) i ≡ V i
PieceHas x sp (Block o w) V = (i : ℕ) → i < bytes w → get_or x.mem (sp + o + i) 0 ≡ V i

abbrev pub PlaceHas : Contents → ℕ → Place → (ℕ → ℕ) → Type 0
PlaceHas x sp (Single low) V = PieceHas x sp low V
PlaceHas x sp (Double low high) V = PieceHas x sp low V × PieceHas x sp high (λ i. V (4 + i))

-- each place holds its home's bytes, widened; the homes lie in m from c on
abbrev pub AllHave : Contents → ℕ → List Holding → List ℕ → ℕ → Type 0
AllHave x sp [] m c = Unit {0}
AllHave x sp (h ∷ hs) m c = PlaceHas x sp h.place (widened_byte h.kind h.width m c) × AllHave x sp hs m (c + home_size)

-- what a piece holds is the same in y, with the block at sp'
abbrev pub Carried : Contents → ℕ → Contents → ℕ → Piece → Type 0
Carried x sp y sp' (Register d) = reg y d ≡ reg x d
Carried x sp y sp' (Block o w) = (i : ℕ) → i < bytes w → get_or y.mem (sp' + o + i) 0 ≡ get_or x.mem (sp + o + i) 0

pub piece_carried : (p : Piece) (x : Contents) (sp : ℕ) (y : Contents) (sp' : ℕ) (V : ℕ → ℕ) → Carried x sp y sp' p → PieceHas x sp p V → PieceHas y sp' p V
piece_carried (Register d) x sp y sp' V c h = λ i l. ap (λ v. byte_of v i) c ∙ h i l
piece_carried (Block o w) x sp y sp' V c h = λ i l. c i l ∙ h i l

pub place_carried : (p : Place) (x : Contents) (sp : ℕ) (y : Contents) (sp' : ℕ) (V : ℕ → ℕ) → AllByRecursion (Carried x sp y sp') (pieces p) → PlaceHas x sp p V → PlaceHas y sp' p V
place_carried (Single low) x sp y sp' V c h = piece_carried low x sp y sp' V c.0 h
place_carried (Double low high) x sp y sp' V c h = (piece_carried low x sp y sp' V c.0 h.0, piece_carried high x sp y sp' (λ i. V (4 + i)) c.1.0 h.1)

pub all_carried : (hs : List Holding) (x : Contents) (sp : ℕ) (y : Contents) (sp' : ℕ) (m : List ℕ) (c : ℕ) → AllPieces (Carried x sp y sp') hs → AllHave x sp hs m c → AllHave y sp' hs m c
all_carried [] x sp y sp' m c k h = tt
all_carried (a ∷ hs) x sp y sp' m c k h =
    (place_carried a.place x sp y sp' (widened_byte a.kind a.width m c) k.0 h.0, all_carried hs x sp y sp' m (c + home_size) k.1 h.1)

pub all_pieces_weaker : (P Q : Piece → Type 0) → ((p : Piece) → P p → Q p) → (hs : List Holding) → AllPieces P hs → AllPieces Q hs
all_pieces_weaker P Q f hs h = All-weaker (λ g. AllByRecursion P (pieces g.place)) (λ g. AllByRecursion Q (pieces g.place)) (λ g. All-weaker P Q f (pieces g.place)) hs h

pub all_pieces_both : (P Q R : Piece → Type 0) → ((p : Piece) → P p → Q p → R p) → (hs : List Holding) → AllPieces P hs → AllPieces Q hs → AllPieces R hs
all_pieces_both P Q R f [] a b = tt
all_pieces_both P Q R f (h ∷ hs) a b = (both (pieces h.place) a.0 b.0, all_pieces_both P Q R f hs a.1 b.1)
  where
    both : (ps : List Piece) → AllByRecursion P ps → AllByRecursion Q ps → AllByRecursion R ps
    both [] a b = tt
    both (p ∷ ps) a b = (f p a.0 b.0, both ps a.1 b.1)

-- filling a piece leaves byte a alone
abbrev pub Misses : ℕ → ℕ → Piece → Type 0
Misses sp a (Register d) = Unit {0}
Misses sp a (Block o w) = Beside (sp + o) (bytes w) a

-- filling a piece leaves register r alone
abbrev pub Clear : ℕ → Piece → Type 0
Clear r p = But (through p) r

-- a piece's register is in K, or its bytes are in N
abbrev pub Shielded : (ℕ → Type 0) → (ℕ → Type 0) → ℕ → Piece → Type 0
Shielded K N sp (Register d) = K d
Shielded K N sp (Block o w) = (i : ℕ) → i < bytes w → N (sp + o + i)

pub shielded_carried : (p : Piece) (K N : ℕ → Type 0) (sp : ℕ) (x y : Contents) → Keeps K N x y → Shielded K N sp p → Carried x sp y sp p
shielded_carried (Register d) K N sp x y k s = k.regs d s
shielded_carried (Block o w) K N sp x y k s = λ i l. k.mem (sp + o + i) (s i l)

pub through_below : (p : Piece) → Placeable p → through p < 29
through_below (Register d) f = omega arith
through_below (Block o w) f = omega arith

block_apart : (o u w i sp : ℕ) → ((u ≤ o + i) × (o + i < u + w) → ⊥) → Beside (sp + u) w (sp + o + i)
block_apart o u w i sp h = grind arith

-- what filling a piece leaves of one that is apart from it
pub shielded_apart : (p q : Piece) (sp : ℕ) → Placeable p → Apart p q → Shielded (λ r. Clear r q) (λ a. Misses sp a q) sp p
shielded_apart (Register d) (Register e) sp f a = λ same. a (of_register d 0) (refl, omega arith) (same, omega arith)
shielded_apart (Register d) (Block u v) sp f a = λ same. omega arith
shielded_apart (Block o w) (Register e) sp f a = λ i l. tt
shielded_apart (Block o w) (Block u v) sp f a = λ i l. block_apart o u (bytes v) i sp (λ b. a (of_block (o + i)) (omega arith, omega arith) b)

-- and what filling places leaves of it
pub shielded_all : (p : Piece) (hs : List Holding) (sp : ℕ) → Placeable p → AllPieces (Apart p) hs → Shielded (λ r. AllPieces (Clear r) hs) (λ a. AllPieces (Misses sp a) hs) sp p
shielded_all (Register d) hs sp f a = all_pieces_weaker (Apart (Register d)) (Clear d) (λ q b. shielded_apart (Register d) q sp f b) hs a
shielded_all (Block o w) hs sp f a = λ i l. all_pieces_weaker (Apart (Block o w)) (Misses sp (sp + o + i)) (λ q b. shielded_apart (Block o w) q sp f b i l) hs a

-- what holds of places holds of those who hold them
pub all_places : (P : Place → Type 0) (hs : List Holding) → AllByRecursion P (map (λ x. x.place) hs) → AllByRecursion (λ h. P h.place) hs
all_places P [] a = tt
all_places P (h ∷ hs) a = (a.0, all_places P hs a.1)

-- each piece of a place is apart from every place that the place is apart from
pub pieces_apart : (p : Place) (hs : List Holding) → AllByRecursion (λ g. PlacesApart p g.place) hs → AllByRecursion (λ q. AllPieces (Apart q) hs) (pieces p)
pieces_apart (Single low) hs a = (All-weaker (λ g. PlacesApart (Single low) g.place) (λ g. AllByRecursion (Apart low) (pieces g.place)) (λ g b. b.0) hs a, tt)
pieces_apart (Double low high) hs a = (
  All-weaker (λ g. PlacesApart (Double low high) g.place) (λ g. AllByRecursion (Apart low) (pieces g.place)) (λ g b. b.0) hs a,
  (All-weaker (λ g. PlacesApart (Double low high) g.place) (λ g. AllByRecursion (Apart high) (pieces g.place)) (λ g b. b.1.0) hs a, tt),
)

-- a piece of a place: in r0 to r27, and of at most 4 bytes
abbrev pub Sound : Piece → Type 0
Sound p = Placeable p × (piece_width p ≤ 4)

pub pieces_sound : (p : Place) → WellFormed p → AllByRecursion Sound (pieces p)
pieces_sound (Single low) f = (f, tt)
pieces_sound (Double low high) f = ((f.0, omega arith), ((f.1, omega arith), tt))

-- every piece of these places is sound
pub all_sound : (hs : List Holding) → AllByRecursion Fits hs → AllPieces Sound hs
all_sound [] f = tt
all_sound (h ∷ hs) f = (pieces_sound h.place f.0.is_well_formed, all_sound hs f.1)

-- a piece in a register holds the same wherever the block lies
pub register_carried : (p : Piece) (x : Contents) (sp : ℕ) (y : Contents) (sp' : ℕ) → ((r : ℕ) → r < 28 → reg y r ≡ reg x r) → Sound p → InRegister p → Carried x sp y sp' p
register_carried (Register d) x sp y sp' k s i = k d (omega arith)
register_carried (Block o w) x sp y sp' k s i = absurd i

pub register_missed : (p : Piece) (sp a : ℕ) → InRegister p → Misses sp a p
register_missed (Register d) sp a i = tt
register_missed (Block o w) sp a i = absurd i

pub register_ends : (p : Piece) (b : ℕ) → InRegister p → Below b p
register_ends (Register d) b i = tt
register_ends (Block o w) b i = absurd i

-- a change of r28 to r31 alone leaves every piece alone
pub shielded_but : (p : Piece) (r sp : ℕ) → 27 < r → Sound p → Shielded (But r) Every sp p
shielded_but (Register d) r sp l s = λ same. omega arith
shielded_but (Block o w) r sp l s = λ i q. tt

-- a change of registers that a piece spares leaves it alone
pub shielded_spared : (p : Piece) (rs : List ℕ) (sp : ℕ) → AllByRecursion (λ r. Spares r p) rs → Shielded (λ r. AllByRecursion (λ d. But d r) rs) Every sp p
shielded_spared (Register d) rs sp h = All-weaker (λ r. Spares r (Register d)) (λ r. But r d) (λ r n same. n (sym same)) rs h
shielded_spared (Block o w) rs sp h = λ i q. tt

-- what all of these places spare, each of their pieces spares
pub all_spared : (rs : List ℕ) (hs : List Holding) → AllPieces Sound hs → AllByRecursion (λ r. AllPieces (Spares r) hs) rs → AllPieces (λ p. AllByRecursion (λ r. Spares r p) rs) hs
all_spared [] hs s h = all_pieces_weaker Sound (λ p. Unit {0}) (λ p q. tt) hs s
all_spared (r ∷ rs) hs s h = all_pieces_both (Spares r) (λ p. AllByRecursion (λ r. Spares r p) rs) (λ p. AllByRecursion (λ r. Spares r p) (r ∷ rs)) (λ p a b. (a, b)) hs h.0 (all_spared rs hs s h.1)

-- a register other than r28 that pieces spare
pub spared_clear : (p : Piece) (r : ℕ) → But 28 r → Spares r p → Clear r p
spared_clear (Register d) r n s = s
spared_clear (Block o w) r n s = n

pub moved_bytes : (w : Size) → bytes w ≤ 4 → bytes_of (moved w) ≡ bytes w
moved_bytes One h = refl
moved_bytes Two h = refl
moved_bytes Four h = refl
moved_bytes Eight h = absurd (omega arith)

pub moved_small : (w : Size) → bytes_of (moved w) ≤ 4
moved_small One = omega arith
moved_small Two = omega arith
moved_small Four = omega arith
moved_small Eight = omega arith

-- beside bytes, and so beside a part of them
pub beside_part : (a k c l j : ℕ) → a ≤ c → c + l ≤ a + k → Beside a k j → Beside c l j
beside_part a k c l j p q (inl h) = inl (omega arith)
beside_part a k c l j p q (inr h) = inr (omega arith)

-- not one of k bytes from a on
pub outside : (a k j : ℕ) → ((a ≤ j) × (j < a + k) → ⊥) → Beside a k j
outside a k j h = grind arith

-- bytes beside the block are missed
pub misses_beside : (sp base a : ℕ) (p : Piece) → Beside sp base a → Below base p → Misses sp a p
misses_beside sp base a (Register d) h e = tt
misses_beside sp base a (Block o w) (inl h) e = inl (omega arith)
misses_beside sp base a (Block o w) (inr h) e = inr (omega arith)

pub misses_above : (sp base a : ℕ) (p : Piece) → sp + base ≤ a → Below base p → Misses sp a p
misses_above sp base a p h e = misses_beside sp base a p (inr h) e
