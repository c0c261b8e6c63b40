-- What it says that a call is not refused.
use Rattle.std.proofs.Common.{◌≡◌, ℕ, Some, None, Option, sym, refl}
use Rattle.stage.specs.Faults.{Fault}
use Rattle.emit.specs.Coding.{short_fault, or_body}
use Rattle.call.proofs.Granted.{some_none}

-- code that is long enough, of places that are accepted
pub no_fault_of_places : (o : Option Fault) (made room : ℕ) → None ≡ short_fault o made room → o ≡ None
no_fault_of_places None made room e = refl
no_fault_of_places (Some f) made room e = some_none f (sym e)

pub places_before_body : (o : Option Fault) (b : Option ℕ) → or_body o b ≡ None → o ≡ None
places_before_body None b e = refl
places_before_body (Some f) b e = some_none f e

pub body_too : (o : Option Fault) (b : Option ℕ) → or_body o b ≡ None → b ≡ None
body_too None None e = refl
body_too None (Some i) e = some_none _ e
body_too (Some f) b e = some_none f e
