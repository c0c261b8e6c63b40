use Rattle.std.proofs.Common.{ap, sym, subst, ◌≡◌, ◌∙◌, arith}
use Rattle.std.proofs.lemmas.Grind.{common_steps}
use Rattle.std.specs.Prelude.{IfErr}
use Rattle.std.specs.Result.{result_ok}
use Rattle.pages.specs.declared.faults.Cause.TheVariants.{Form}
use Rattle.pages.proofs.Forms.{what_has_the_form, only_a_fault_of_form}
use Rattle.pages.proofs.lines.read_parameter.Goals as goal

pub returns-in_ok-ok_or-in-Test-clause-the_parameter_and_the_words_behind_it : goal.returns-in_ok-ok_or-in-Test-clause-the_parameter_and_the_words_behind_it
returns-in_ok-ok_or-in-Test-clause-the_parameter_and_the_words_behind_it c =
    let test = ap result_ok c.read_test.ensures.a_number_or_else_kinds ∙ what_has_the_form _ in
    grind (arith, common_steps, test)

pub returns-in_ok-ok_or-in-Test-clause-or_a_fault_of_form : goal.returns-in_ok-ok_or-in-Test-clause-or_a_fault_of_form
returns-in_ok-ok_or-in-Test-clause-or_a_fault_of_form c = subst (λ r. IfErr r (λ x. x ≡ Form)) (sym c.read_test.ensures.a_number_or_else_kinds) (only_a_fault_of_form _)
