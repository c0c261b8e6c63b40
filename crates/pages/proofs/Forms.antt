-- What has not the form.
use Rattle.std.proofs.Common.{◌≡◌, Option, Some, None, Ok, Err, option_map, refl, arith}
use Rattle.std.specs.Prelude.{IfErr}
use Rattle.std.specs.Result.{result_ok}
use Rattle.pages.specs.Lines.{of_the_form}
use Rattle.pages.specs.declared.faults.Cause.{Cause}
use Rattle.pages.specs.declared.faults.Cause.TheVariants.{Form}

pub that_has_the_form : {X : Type 0} (o : Option X) (x : X) → Ok x ≡ of_the_form o → o ≡ Some x
that_has_the_form None x e = absurd (grind (arith, e))
that_has_the_form (Some y) x e = grind (arith, e)

pub has_not_the_form : {X : Type 0} (o : Option X) (c : Cause) → Err c ≡ of_the_form o → (o ≡ None) × (c ≡ Form)
has_not_the_form None c e = (refl, grind (arith, e))
has_not_the_form (Some x) c e = absurd (grind (arith, e))

pub none_has_the_form : {X Y : Type 0} (f : X → Y) (o : Option X) (c : Cause) → Err c ≡ of_the_form (option_map f o) → (o ≡ None) × (c ≡ Form)
none_has_the_form f None c e = (refl, grind (arith, e))
none_has_the_form f (Some x) c e = absurd (grind (arith, e))

pub what_has_the_form : {X : Type 0} (o : Option X) → result_ok (of_the_form o) ≡ o
what_has_the_form None = refl
what_has_the_form (Some x) = refl

pub only_a_fault_of_form : {X : Type 0} (o : Option X) → IfErr (of_the_form o) (λ c. c ≡ Form)
only_a_fault_of_form None = refl
only_a_fault_of_form (Some x) = tt
