-- What the code calls accept: the kept registers and the results.
use Rattle.std.proofs.Common.{◌≡◌, ℕ, ◌-◌, ◌/◌, ◌^◌, ◌<◌, ◌≤◌, Bool, true, false, cond, not, ◌||◌, ltb, List, [], ◌∷◌, length, Some, None, Option, sym, refl, ◌∙◌, inl, inr, arith, pow_mono}
use Rattle.std.proofs.lemmas.Nat.{div_below, pow_pos}
use Rattle.std.proofs.lemmas.Bool.{cases_lt, eqb-true, ltb-false, not-false, or_parts}
use Rattle.std.specs.List.{AllByRecursion}
use Rattle.place.proofs.Sets.{apart_differ}
use Rattle.place.specs.Holdings.{Holding}
use Rattle.place.specs.Pieces.{in_block, low_piece, pieces, WellFormed}
use Rattle.place.specs.Registers.{bit, has, apart}
use Rattle.place.specs.declared.pieces.Piece.{Piece}
use Rattle.place.specs.declared.pieces.Piece.TheVariants.{Register, Block}
use Rattle.place.specs.declared.pieces.Place.{Place}
use Rattle.place.specs.declared.pieces.Place.TheVariants.{Single, Double}
use Rattle.stage.specs.Faults.{Fault}
use Rattle.stage.specs.Lawful.{InSet}
use Rattle.allocation.specs.States.{State}
use Rattle.delivery.proofs.Places.{all_pieces_weaker}
use Rattle.delivery.proofs.Ready.{Fits, InRegister, Spares, AllPieces}
use Rattle.emit.specs.Coding.{code_fault_of, in_block_any, kept_clashes, results_forbidden, places_fault}
use Rattle.emit.specs.declared.faults.CodeFault.TheVariants.{Kept, Results}

-- a test that would be a fault, and what comes after it
unfaulted : (t : Bool) (x : Fault) (o : Option Fault) → cond t (Some x) o ≡ None → (t ≡ false) × (o ≡ None)
unfaulted true x o e = let z : ◌≡◌ {A = ℕ} 0 1 = cc in absurd (omega arith)
unfaulted false x o e = (refl, e)

-- what is known of allocations without a fault: their sets of registers, what is kept, and the places of the results
pub record Passed (args results kept : ℕ) (held : List Holding) : Type 0 where
  pub low : kept < 2 ^ 28
  pub apart_from_arguments : apart kept args ≡ true
  pub apart_from_results : apart kept results ≡ true
  pub at_most_4 : length held ≤ 4
  pub none_in_block : in_block_any held ≡ false

pub passed : (a r : State) (kept : ℕ) → places_fault a r kept ≡ None → Passed a.profile.questions.registers r.profile.questions.registers kept r.held
passed a r kept e =
    let m : ℕ = a.profile.questions.registers in
    let n : ℕ = r.profile.questions.registers in
    let one = unfaulted (kept_clashes m n kept) (code_fault_of Kept) (cond (results_forbidden r.held) (Some (code_fault_of Results)) None) e in
    let two = unfaulted (results_forbidden r.held) (code_fault_of Results) None one.1 in
    let keeps = or_parts (ltb (2 ^ 28 - 1) kept) (not (apart kept m) || not (apart kept n)) one.0 in
    let sets = or_parts (not (apart kept m)) (not (apart kept n)) keeps.1 in
    let held = or_parts (ltb 4 (length r.held)) (in_block_any r.held) two.0 in
    let most : kept ≤ 2 ^ 28 - 1 = ltb-false (2 ^ 28 - 1) kept keeps.0 in
    record {
      low = omega arith;
      apart_from_arguments = not-false (apart kept m) sets.0;
      apart_from_results = not-false (apart kept n) sets.1;
      at_most_4 = ltb-false 4 (length r.held) held.0;
      none_in_block = held.1;
    }

pub results_few : (a r : State) (kept : ℕ) → places_fault a r kept ≡ None → length r.held ≤ 4
results_few a r kept e = (passed a r kept e).at_most_4

-- a set below 2 ^ k has no register from k on
pub low_registers : (k set r : ℕ) → set < 2 ^ k → has set r ≡ true → r < k
low_registers k set r l h =
    elim (cases_lt r k) [
      | inl below ↦ below
      | inr above ↦
          let grows : 2 ^ k ≤ 2 ^ r = pow_mono above in
          let none : set / 2 ^ r < 1 = div_below set (2 ^ r) 1 (pow_pos r) (omega arith) in
          absurd (omega (arith, eqb-true (bit set r) 1 h))
    ]

-- pieces in a set spare the registers of one that is apart from it
spared : (kept set r : ℕ) → apart kept set ≡ true → has kept r ≡ true → (x : Piece) → InSet set x → Spares r x
spared kept set r d h (Register x) k = apart_differ kept set r x d h k
spared kept set r d h (Block o w) k = tt

pub all_spared : (kept set : ℕ) (hs : List Holding) → apart kept set ≡ true → AllPieces (InSet set) hs → (r : ℕ) → has kept r ≡ true → AllPieces (Spares r) hs
all_spared kept set hs d k r h = all_pieces_weaker (InSet set) (Spares r) (spared kept set r d h) hs k

-- a place whose low piece is not in the block has no piece there
in_register : (x : Piece) → in_block x ≡ false → InRegister x
in_register (Register d) e = tt
in_register (Block o w) e = let z : ◌≡◌ {A = ℕ} 0 1 = cc in absurd (omega arith)

in_registers : (p : Place) → WellFormed p → in_block (low_piece p) ≡ false → AllByRecursion InRegister (pieces p)
in_registers (Single low) w e = (in_register low e, tt)
in_registers (Double low high) w e = (in_register low e, (in_register high (sym w.4 ∙ e), tt))

pub all_in_registers : (hs : List Holding) → AllByRecursion Fits hs → in_block_any hs ≡ false → AllPieces InRegister hs
all_in_registers [] f e = tt
all_in_registers (h ∷ hs) f e =
    let parts = or_parts (in_block (low_piece h.place)) (in_block_any hs) e in
    (in_registers h.place f.0.is_well_formed parts.0, all_in_registers hs f.1 parts.1)
