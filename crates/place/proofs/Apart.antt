-- Pieces and places that share no byte.
use Rattle.std.proofs.Common.{◌≡◌, ℕ, ◌+◌, ◌≤◌, sym, ◌∙◌, arith}
use Rattle.std.proofs.ByRecursion.{All-weaker}
use Rattle.std.specs.List.{AllByRecursion}
use Rattle.place.specs.Pieces.{of_register, of_block, Apart, pieces, PlacesApart}
use Rattle.values.specs.Sizes.{bytes}
use Rattle.place.specs.declared.pieces.Piece.{Piece}
use Rattle.place.specs.declared.pieces.Piece.TheVariants.{Register, Block}
use Rattle.place.specs.declared.pieces.Place.{Place}
use Rattle.values.specs.declared.sizes.Size.{Size}

pub registers_apart : (x y : ℕ) → (x ≡ y → ⊥) → Apart (Register x) (Register y)
registers_apart x y ne (of_register q k) a b = ne (sym a.0 ∙ b.0)
registers_apart x y ne (of_block n) a b = a

pub blocks_apart : (o : ℕ) (v : Size) (u : ℕ) (w : Size) → o + bytes v ≤ u → Apart (Block o v) (Block u w)
blocks_apart o v u w h (of_register q k) a b = a
blocks_apart o v u w h (of_block n) a b = omega arith

pub register_block_apart : (x u : ℕ) (w : Size) → Apart (Register x) (Block u w)
register_block_apart x u w (of_register q k) a b = b
register_block_apart x u w (of_block n) a b = a

pub block_register_apart : (u : ℕ) (w : Size) (x : ℕ) → Apart (Block u w) (Register x)
block_register_apart u w x (of_register q k) a b = a
block_register_apart u w x (of_block n) a b = b

-- places of which every two pieces are apart
pub apart_by_pieces : (P Q : Piece → Type 0) → ((x y : Piece) → P x → Q y → Apart x y) → (p q : Place) → AllByRecursion P (pieces p) → AllByRecursion Q (pieces q) → PlacesApart p q
apart_by_pieces P Q f p q a b =
    All-weaker P (λ x. AllByRecursion (Apart x) (pieces q)) (λ x h. All-weaker Q (Apart x) (λ y. f x y h) (pieces q) b) (pieces p) a
