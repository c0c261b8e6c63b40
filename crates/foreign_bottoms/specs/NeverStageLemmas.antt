use Rattle.std.specs.Prelude.{◌≡◌, ℕ, Some, None, Option}
use Rattle.std.proofs.Common.{arith}
use Rattle.place.specs.declared.pieces.Place.{Place}

pub none_given : (X : Type 0) (p : Place) → ◌≡◌ {A = Option Place} None (Some p) → X
none_given X p e = let w : ◌≡◌ {A = ℕ} 0 1 = cc in absurd (omega arith)
