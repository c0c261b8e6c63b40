-- The derived `==` of places answers whether they are equal.
use Rattle.std.proofs.Common.{rules, ◌≡◌, refl, true, false, Bool, Decides, ap}
use Rattle.std.specs.Prelude.{◌==◌, ◌&&◌}
use Rattle.std.specs.Cmp.{unsigned_Decides}
use denote.Enum.Bare.{same_true, true_same}
use Rattle.values.specs.contracts.sizes.Size as SizeType
use Rattle.values.specs.declared.sizes.Size.{Size}
use Rattle.place.specs.contracts.pieces.PlacePartialEq.TheImpl as PlaceEq
use Rattle.place.specs.contracts.pieces.PiecePartialEq.TheImpl as PieceEq
use Rattle.values.specs.contracts.sizes.SizePartialEq.TheImpl as SizeEq
use Rattle.place.specs.declared.pieces.Place.{Place}
use Rattle.place.specs.declared.pieces.Place.TheVariants.{Single, Double}
use Rattle.place.specs.declared.pieces.Piece.{Piece}
use Rattle.place.specs.declared.pieces.Piece.TheVariants.{Register, Block}

-- a constructor of one argument
decides_one : {A C : Type 0} (f : A → C) (a b : A) (s : Bool) → (f a ≡ f b → a ≡ b) → Decides s (a ≡ b) → Decides s (f a ≡ f b)
decides_one f a b s inner p = (λ e. ap f (p.0 e), λ e. p.1 (inner e))

-- a constructor of two arguments
pub decides_two : {A B C : Type 0} (f : A → B → C) (a b : A) (c d : B) (s t : Bool) → (f a c ≡ f b d → (a ≡ b) × (c ≡ d)) →
    Decides s (a ≡ b) → Decides t (c ≡ d) → Decides (s && t) (f a c ≡ f b d)
decides_two f a b c d true true inner p q = (λ e. let g = p.0 refl in let h = q.0 refl in cc, λ e. refl)
decides_two f a b c d true false inner p q = (λ e. let h : false ≡ true = e in cc, λ e. q.1 (inner e).1)
decides_two f a b c d false t inner p q = (λ e. let h : false ≡ true = e in cc, λ e. p.1 (inner e).0)

size_decides : (m n : Size) → Decides (SizeEq.eq-value.it m n) (m ≡ n)
size_decides m n = (same_true SizeType.the_type (search rules) m n, true_same SizeType.the_type m n)

piece_decides : (p q : Piece) → Decides (PieceEq.eq-value.it p q) (p ≡ q)
piece_decides (Register a) (Register b) = decides_one Register a b (a == b) (λ e. cc) (unsigned_Decides a b)
piece_decides (Register a) (Block b n) = (λ e. cc, λ e. cc)
piece_decides (Block a m) (Register b) = (λ e. cc, λ e. cc)
piece_decides (Block a m) (Block b n) = decides_two Block a b m n (a == b) (SizeEq.eq-value.it m n) (λ e. (cc, cc)) (unsigned_Decides a b) (size_decides m n)

pub place_decides : (p q : Place) → Decides (PlaceEq.eq-value.it p q) (p ≡ q)
place_decides (Single a) (Single b) = decides_one Single a b (PieceEq.eq-value.it a b) (λ e. cc) (piece_decides a b)
place_decides (Single a) (Double b d) = (λ e. cc, λ e. cc)
place_decides (Double a c) (Single b) = (λ e. cc, λ e. cc)
place_decides (Double a c) (Double b d) = decides_two Double a b c d (PieceEq.eq-value.it a b) (PieceEq.eq-value.it c d) (λ e. (cc, cc)) (piece_decides a b) (piece_decides c d)
