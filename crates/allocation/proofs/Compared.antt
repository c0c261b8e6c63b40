-- The derived `==` of answers answers whether place, or number and position, are equal.
use Rattle.std.proofs.Common.{◌≡◌, Bool, Decides, ap, sym, subst, ℕ}
use Rattle.std.specs.Prelude.{Ok, Err, Result, ◌==◌}
use Rattle.std.specs.Cmp.{unsigned_Decides}
use Rattle.std.specs.Result.{result_eq}
use Rattle.place.proofs.Compared.{decides_two, place_decides}
use Rattle.place.specs.contracts.pieces.PlacePartialEq.TheImpl as PlaceEq
use Rattle.place.specs.declared.pieces.Place.{Place}
use Rattle.stage.specs.Faults.{Fault}
use Rattle.allocation.specs.Faults.{answer_of, cause_number, placement_fault}
use Rattle.allocation.specs.contracts.faults.PlacementFaultPartialEq.TheImpl as FaultEq
use Rattle.allocation.specs.declared.faults.PlacementFault.{PlacementFault}

fault_decides : (a b : PlacementFault) → Decides (FaultEq.eq-value.it a b) (placement_fault a ≡ placement_fault b)
fault_decides a b =
    decides_two (λ (n p : ℕ). let f : Fault = record { layer = 2; number = n; position = p } in f) (cause_number a.cause) (cause_number b.cause) a.position b.position
    (cause_number a.cause == cause_number b.cause) (a.position == b.position)
    (λ e. (ap (λ (f : Fault). f.number) e, ap (λ (f : Fault). f.position) e))
    (unsigned_Decides (cause_number a.cause) (cause_number b.cause)) (unsigned_Decides a.position b.position)

answer_decides : (a b : Result Place PlacementFault) → Decides (result_eq PlaceEq.eq-value.it FaultEq.eq-value.it a b) (answer_of a ≡ answer_of b)
answer_decides (Ok p) (Ok q) = (λ e. ap Ok ((place_decides p q).0 e), λ e. (place_decides p q).1 (cc))
answer_decides (Ok p) (Err f) = (λ e. cc, λ e. cc)
answer_decides (Err f) (Ok p) = (λ e. cc, λ e. cc)
answer_decides (Err f) (Err h) = (λ e. ap Err ((fault_decides f h).0 e), λ e. (fault_decides f h).1 (cc))

-- what `==` of answers says, from the flag that it answers
pub compared_decides : (a b : Result Place PlacementFault) (r : Bool) → r ≡ result_eq PlaceEq.eq-value.it FaultEq.eq-value.it a b → Decides r (answer_of a ≡ answer_of b)
compared_decides a b r e = subst (λ (s : Bool). Decides s (answer_of a ≡ answer_of b)) (sym e) (answer_decides a b)
