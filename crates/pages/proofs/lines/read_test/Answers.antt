use Rattle.std.proofs.Common.{arith}
use Rattle.std.proofs.lemmas.Grind.{common_steps}
use Rattle.pages.proofs.Forms.{none_has_the_form}
use Rattle.pages.proofs.lines.read_test.Goals as goal

pub returns-in_err-read_kinds-in-None : goal.returns-in_err-read_kinds-in-None
returns-in_err-read_kinds-in-None c =
    let none = none_has_the_form _ _ _ c.in_err-read_kinds-in-None.ensures.the_kinds_or_a_fault_of_form in
    let kinds = none.0 in
    let cause = none.1 in
    grind (arith, common_steps, kinds, cause)
