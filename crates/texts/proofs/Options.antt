-- What an answer that is there came from.
use Rattle.std.proofs.Common.{◌≡◌, Bool, true, false, cond, Option, Some, None, option_map, refl, ap, arith}
use Rattle.std.specs.Option.{option_and_then, unwrap_or}

pub the_same : {T : Type 0} (x y : T) → Some x ≡ Some y → x ≡ y
the_same x y e = ap (λ r. unwrap_or r x) e

pub and_then_came_from : {T U : Type 0} (f : T → Option U) (r : Option T) (u : U) → option_and_then f r ≡ Some u → (t : T) × (r ≡ Some t) × (f t ≡ Some u)
and_then_came_from f None u e = grind (arith, e)
and_then_came_from f (Some t) u e = (t, refl, e)

pub map_came_from : {T U : Type 0} (f : T → U) (r : Option T) (u : U) → option_map f r ≡ Some u → (t : T) × (r ≡ Some t) × (f t ≡ u)
map_came_from f None u e = grind (arith, e)
map_came_from f (Some t) u e = (t, refl, the_same (f t) u e)

pub test_came_from : {T : Type 0} (c : Bool) (r : Option T) (u : T) → cond c r None ≡ Some u → (c ≡ true) × (r ≡ Some u)
test_came_from true r u e = (refl, e)
test_came_from false r u e = grind (arith, e)
