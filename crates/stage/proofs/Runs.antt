-- What holds of a book along every list of requests.
use Rattle.std.proofs.Common.{◌≡◌, ℕ, ◌≤◌, true, false, List, [], ◌∷◌, Some, arith}
use Rattle.std.proofs.ByRecursion.{All-weaker}
use Rattle.place.specs.Pieces.{PlacesApart, pieces, Below}
use Rattle.place.specs.Registers.{has}
use Rattle.place.specs.declared.pieces.Piece.{Piece}
use Rattle.place.specs.declared.pieces.Piece.TheVariants.{Register, Block}
use Rattle.place.specs.declared.pieces.Place.{Place}
use Rattle.values.specs.declared.requests.Request.{Request}
use Rattle.stage.specs.Books.{Book, Entry, Questions, book_of, said, used, after, past}
use Rattle.stage.specs.Lawful.{InSet, Granted, LawfulHere}

-- a fact Q of the books of states, where a fact P of the states is kept
pub along : {S : Type 0} (shows : S → Entry) (next : S → Request → S) (P : S → Type 0)
    (keeps : (s : S) (r : Request) → P s → P (next s r))
    (Q : Book → Type 0) (here : (s : S) → P s → Q (book_of shows next s))
    (s : S) → P s → (rs : List Request) → Q (past (book_of shows next s) rs)
along shows next P keeps Q here s p [] = here s p
along shows next P keeps Q here s p (r ∷ rs) = along shows next P keeps Q here (next s r) (keeps s r p) rs

abbrev pub Always : Questions → Book → Type 0
Always q b = (rs : List Request) → LawfulHere q (past b rs)

pub always_after : (q : Questions) (b : Book) (r : Request) → Always q b → Always q (after b r)
always_after q b r h = λ rs. h (r ∷ rs)

-- the next place that a book gives shares no byte with p
abbrev pub SparesNow : Place → Book → Type 0
SparesNow p b = (s : Request) (z : Place) → said b s ≡ Some z → PlacesApart p z

-- no place that a book ever gives shares a byte with p
abbrev pub Spares : Place → Book → Type 0
Spares p b = (later : List Request) → SparesNow p (past b later)

pub spares_after : (p : Place) (b : Book) (r : Request) → Spares p b → Spares p (after b r)
spares_after p b r h = λ later. h (r ∷ later)

pub always_past : (q : Questions) (b : Book) (rs : List Request) → Always q b → Always q (past b rs)
always_past q b [] h = h
always_past q b (r ∷ rs) h = always_past q (after b r) rs (always_after q b r h)

-- a place that a lawful book gives; without a block its reach stays 0
abbrev pub Given : Questions → Request → Place → ℕ → Type 0
Given q r p n = Granted q r p n × (q.block ≡ false → n ≡ 0)

pub given : (q : Questions) (b : Book) → Always q b → (r : Request) (p : Place) → said b r ≡ Some p → Given q r p (used (after b r))
given q b h r p e = ((h []).places_are_granted_lawfully r p e, (h (r ∷ [])).reach_is_0_without_a_block)

in_larger : (m n : ℕ) → ((x : ℕ) → has m x ≡ true → has n x ≡ true) → (x : Piece) → InSet m x → InSet n x
in_larger m n f (Register x) h = f x h
in_larger m n f (Block o w) h = h

below_more : (n k : ℕ) → n ≤ k → (x : Piece) → Below n x → Below k x
below_more n k l (Register x) h = h
below_more n k l (Block o w) h = omega arith

-- a place of a stage is a place of a layer with a larger set and a larger reach
pub lifted : (q wide : Questions) → ((x : ℕ) → has q.registers x ≡ true → has wide.registers x ≡ true) → (r : Request) (p : Place) (n k : ℕ) → n ≤ k → Granted q r p n → Granted wide r p k
lifted q wide f r p n k l g = record {
  is_well_formed = g.is_well_formed;
  is_as_wide_as_requested_or_wider = g.is_as_wide_as_requested_or_wider;
  pieces_share_no_byte = g.pieces_share_no_byte;
  registers_are_in_the_set = All-weaker _ (InSet wide.registers) (in_larger q.registers wide.registers f) (pieces p) g.registers_are_in_the_set;
  low_block_piece_is_aligned = g.low_block_piece_is_aligned;
  reach_lies_above_its_block_bytes = All-weaker _ (Below k) (below_more n k l) (pieces p) g.reach_lies_above_its_block_bytes;
}
