-- The first of several faults.
use Rattle.std.proofs.Common.{◌≡◌, ℕ, Some, None, Option, refl, arith}
use Rattle.stage.specs.Faults.{Fault}
use Rattle.call.specs.Calls.{first_of}

-- where none is found, none of them is one
pub none_first : (a b : Option Fault) → None ≡ first_of a b → None ≡ a
none_first None b e = refl
none_first (Some f) b e = e

-- a fault is found or not
pub not_both : (o : Option Fault) (f : Fault) → None ≡ o → Some f ≡ o → ⊥
not_both o f e g = let z : ◌≡◌ {A = ℕ} 0 1 = cc in absurd (omega arith)

pub none_next : (a b : Option Fault) → None ≡ first_of a b → None ≡ b
none_next None b e = e
none_next (Some f) b e = absurd (not_both (Some f) f e refl)
