use Rattle.std.proofs.Common.{◌≡◌, ◌≤◌, Some, None, Err, length, ap, ◌∙◌, arith}
use Rattle.std.proofs.lemmas.Grind.{common_steps}
use Rattle.texts.specs.Parts.{parts}
use Rattle.pages.specs.Lines.{line_of}
use Rattle.pages.specs.declared.lines.Line.TheVariants.{Stage, Arguments, Results, Kept}
use Rattle.pages.specs.Rules.{read_line}
use Rattle.pages.proofs.Forms.{that_has_the_form, has_not_the_form}
use Rattle.description.proofs.ReadLine.{has_the_form, read_of_checked, not_read}
use Rattle.description.proofs.reading.Reading.check_line.Goals as goal

pub returns-in_err-stage : goal.returns-in_err-stage
returns-in_err-stage c =
    let none = has_not_the_form _ _ c.in_err-stage.ensures.the_line_of_its_words_or_a_fault_of_form in
    let short : length c.args.bytes.now ≤ 120 = grind (arith, common_steps) in
    let cause = none.1 in
    record {
      checked_by_the_rules = λ before h.
          let fault : read_line before c.args.bytes.now ≡ Err 2 = not_read before c.args.bytes.now short none.0 in
          grind (arith, common_steps, cause, fault);
    }

pub returns-in-Stage : goal.returns-in-Stage
returns-in-Stage c =
    let line : line_of (parts 32 c.args.bytes.now) ≡ Some (Stage c.in-Stage.stage) =
    that_has_the_form _ _ c.in_ok-stage.ensures.the_line_of_its_words_or_a_fault_of_form ∙ ap Some c.in-Stage.is in
    let short : length c.args.bytes.now ≤ 120 = grind (arith, common_steps) in
    record { checked_by_the_rules = λ before h. read_of_checked before c.args.bytes.now _ _ _ short line (c.add_stage.ensures.checked_by_the_rules before h (has_the_form c.args.bytes.now _ line)) }

pub returns-in-Arguments : goal.returns-in-Arguments
returns-in-Arguments c =
    let line : line_of (parts 32 c.args.bytes.now) ≡ Some (Arguments c.in-Arguments.number) =
    that_has_the_form _ _ c.in_ok-stage.ensures.the_line_of_its_words_or_a_fault_of_form ∙ ap Some c.in-Arguments.is in
    let short : length c.args.bytes.now ≤ 120 = grind (arith, common_steps) in
    record { checked_by_the_rules = λ before h. read_of_checked before c.args.bytes.now _ _ _ short line (c.set_arguments.ensures.checked_by_the_rules before h) }

pub returns-in-Results : goal.returns-in-Results
returns-in-Results c =
    let line : line_of (parts 32 c.args.bytes.now) ≡ Some (Results c.in-Results.number) =
    that_has_the_form _ _ c.in_ok-stage.ensures.the_line_of_its_words_or_a_fault_of_form ∙ ap Some c.in-Results.is in
    let short : length c.args.bytes.now ≤ 120 = grind (arith, common_steps) in
    record { checked_by_the_rules = λ before h. read_of_checked before c.args.bytes.now _ _ _ short line (c.set_results.ensures.checked_by_the_rules before h) }

pub returns-in-Kept : goal.returns-in-Kept
returns-in-Kept c =
    let line : line_of (parts 32 c.args.bytes.now) ≡ Some (Kept c.in-Kept.list) =
    that_has_the_form _ _ c.in_ok-stage.ensures.the_line_of_its_words_or_a_fault_of_form ∙ ap Some c.in-Kept.is in
    let short : length c.args.bytes.now ≤ 120 = grind (arith, common_steps) in
    let kept = rw c.as_slice.ensures.value at c.set_kept.ensures.checked_by_the_rules in
    record { checked_by_the_rules = λ before h. read_of_checked before c.args.bytes.now (Kept c.in-Kept.list) _ _ short line (kept before h) }
