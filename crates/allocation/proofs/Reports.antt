-- Reports of piles that are endless for nothing.
use Rattle.std.proofs.Common.{◌≡◌, false, ◌&&◌, List, [], ◌∷◌, filter, Bool, true, refl}
use Rattle.values.specs.declared.value_type.ValueType.{ValueType}
use Rattle.values.specs.Types.{own_request}
use Rattle.stage.specs.Books.{Questions}
use Rattle.allocation.specs.States.{always_placed, EndlessForNothing}

and_false : (a b : Bool) → b ≡ false → (a && b) ≡ false
and_false true b e = e
and_false false b e = refl

pub none_placed : (q : Questions) → EndlessForNothing q → (ts : List ValueType) → filter (always_placed q) ts ≡ []
none_placed q none [] = refl
none_placed q none (t ∷ ts) = rw (and_false q.sound (q.endless (own_request t)) (none t), none_placed q none ts)
