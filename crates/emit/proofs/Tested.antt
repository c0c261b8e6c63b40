-- A body with no fault is short.
use Rattle.std.proofs.Common.{◌≡◌, ℕ, ◌+◌, ◌<◌, ◌≤◌, Bool, true, cond, ◌&&◌, ltb, List, [], ◌∷◌, length, Some, None, Option, Ok, Err, Result, OnOk, refl, sym, ◌∙◌, inl, inr, arith}
use Rattle.std.proofs.lemmas.Bool.{cases_Bool, cond-true, cond-false, ltb-true, and_parts}
use Rattle.machine.specs.declared.Instruction.{Instruction}
use Rattle.stage.specs.Faults.{Fault}
use Rattle.delivery.specs.Bodies.{accepts, body_fault}
use Rattle.emit.specs.Coding.{fault_in, or_body, short_fault}
use Rattle.emit.specs.declared.faults.CodeFault.{CodeFault}

-- a search that finds no fault goes on behind an instruction without one
goes_on : (t : Bool) (o : Option ℕ) (i : ℕ) → cond t o (Some i) ≡ None → (t ≡ true) × (o ≡ None)
goes_on t o i e =
    elim (cases_Bool t) [
      | inl h ↦ (h, sym (cond-true t o (Some i) h) ∙ e)
      | inr h ↦ let some : Some i ≡ None = sym (cond-false t o (Some i) h) ∙ e in absurd (cc)
    ]

-- a body with no fault from an index on ends by 256
pub short_body : (xs : List Instruction) (homes i : ℕ) → i ≤ 256 → body_fault homes xs i ≡ None → i + length xs ≤ 256
short_body [] homes i l e = omega arith
short_body (x ∷ xs) homes i l e =
    let found = goes_on (ltb i 256 && accepts homes x) (body_fault homes xs (i + 1)) i e in
    let below : i < 256 = ltb-true i 256 (and_parts (ltb i 256) (accepts homes x) found.0).0 in
    omega (arith, short_body xs homes (i + 1) (omega arith) found.1)

no_body_fault : (o : Option ℕ) → or_body None o ≡ None → o ≡ None
no_body_fault None e = refl
no_body_fault (Some i) e = cc

no_fault : (o : Option Fault) (made room : ℕ) → short_fault o made room ≡ None → o ≡ None
no_fault None made room e = refl
no_fault (Some f) made room e = cc

-- where neither places nor body have a fault
pub allowed_short : (f : Option Fault) (homes : ℕ) (body : List Instruction) → or_body f (body_fault homes body 0) ≡ None → length body ≤ 256
allowed_short (Some f) homes body e = cc
allowed_short None homes body e = omega (arith, short_body body homes 0 (omega arith) (no_body_fault (body_fault homes body 0) e))

pub sized_short : {X : Type 0} (r : Result X CodeFault) (f : Option Fault) (homes : ℕ) (body : List Instruction) (made room : ℕ) → fault_in r ≡ short_fault (or_body f (body_fault homes body 0)) made room → OnOk r (length body ≤ 256)
sized_short (Ok x) f homes body made room e = allowed_short f homes body (no_fault (or_body f (body_fault homes body 0)) made room (sym e))
sized_short (Err x) f homes body made room e = tt
