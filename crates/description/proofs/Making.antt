-- What plans make, one behind the other.
use Rattle.std.proofs.Common.{◌≡◌, ℕ, ◌+◌, List, [], ◌∷◌, ◌++◌, length, refl, ap, length-append, arith}
use Rattle.stage.specs.Books.{Profile}
use Rattle.description.specs.Plans.{CanBeBuilt, made_behind, Make}
use Rattle.description.specs.declared.plan.Planned.{Planned}

-- a stage for each plan
pub made_counted : (ps : List Planned) (stages : List Profile) (named : List ℕ) (all : List Profile) (names : List ℕ) → Make ps stages named all names → length all ≡ length stages + length ps
made_counted [] stages named all names h = omega (arith, ap length h.0)
made_counted (p ∷ ps) stages named all names h =
    omega (arith, made_counted ps (stages ++ made_behind stages p ∷ []) (named ++ p.below.items) all names h.1, length-append stages (made_behind stages p ∷ []))

-- a plan more
pub make_more : (ps : List Planned) (stages : List Profile) (named : List ℕ) (all : List Profile) (names : List ℕ) (p : Planned) → Make ps stages named all names → CanBeBuilt (length all) names p
    → Make (ps ++ p ∷ []) stages named (all ++ made_behind all p ∷ []) (names ++ p.below.items)
make_more [] stages named all names p h k = rw (h.0, h.1) (k, (refl, refl))
make_more (q ∷ ps) stages named all names p h k = (h.0, make_more ps (stages ++ made_behind stages q ∷ []) (named ++ q.below.items) all names p h.1 k)
