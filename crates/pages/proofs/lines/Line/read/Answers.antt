use Rattle.std.proofs.Common.{arith}
use Rattle.std.proofs.lemmas.Grind.{common_steps}
use Rattle.pages.proofs.Forms.{has_not_the_form}
use Rattle.pages.proofs.lines.Line.read.Goals as goal

pub returns-in_err-read_stage-in-Some : goal.returns-in_err-read_stage-in-Some
returns-in_err-read_stage-in-Some c =
    let none = has_not_the_form _ _ c.in_err-read_stage-in-Some.ensures.the_stage_or_a_fault_of_form in
    let stage = none.0 in
    let cause = none.1 in
    grind (arith, common_steps, stage, cause)
