use Rattle.std.proofs.Common.{◌≡◌, false, true, Some, [], ◌∷◌, ◌++◌, length, ap, sym, subst, ◌∙◌, nat_le, arith}
use Rattle.std.proofs.lemmas.Grind.{common_steps}
use Rattle.texts.specs.Lists.{listed}
use Rattle.pages.specs.Rules.{number_of_fault}
use Rattle.pages.specs.declared.lines.Line.TheVariants.{Stage}
use Rattle.description.specs.Readings.{HasRead}
use Rattle.description.specs.declared.reading.Reading.{Reading}
use Rattle.description.proofs.MoreRead.{no_arguments, no_such_stage, one_too_many, with_stage, reading}
use Rattle.description.proofs.reading.Reading.add_stage.Goals as goal

pub returns-in_err-name_all : goal.returns-in_err-name_all
returns-in_err-name_all c =
    record {
      checked_by_the_rules = λ before h form.
          let r = c.args.self.now in
          let planned = c.in_ok-plan.ensures.in_range_or_refused form in
          let failed = rw c.as_slice.ensures.value at c.in_err-name_all.ensures.named_if_all_were_free _ h.marks in
          let cause = failed.1 in
          let fault : number_of_fault before (Stage c.args.stage) ≡ Some 4 =
          no_such_stage before r h (Stage c.args.stage) (no_arguments before r h (sym c.is_some.ensures ∙ c.if-is_some.false)) planned.0 failed.0 in
          grind (arith, common_steps, cause, fault);
    }

pub returns-then-is_full : goal.returns-then-is_full
returns-then-is_full c =
    let r = c.args.self.now in
    let same = ap (λ (x : Reading). length x.planned.items) c.in_ok-name_all.ensures.only_marks_are_set in
    let full : nat_le 24 (length r.planned.items) ≡ true = grind (arith, common_steps, same) in
    record {
      checked_by_the_rules = λ before h form.
          let planned = c.in_ok-plan.ensures.in_range_or_refused form in
          let named = rw c.as_slice.ensures.value at c.in_ok-name_all.ensures.named_if_all_were_free _ h.marks in
          one_too_many before r h c.args.stage (sym c.is_some.ensures ∙ c.if-is_some.false) planned.0 named.0 full;
    }

pub returns : goal.returns
returns c =
    let r = c.args.self.now in
    let t = c.name_all.new.self in
    let same = ap (λ (x : Reading). length x.planned.items) c.in_ok-name_all.ensures.only_marks_are_set in
    let room : nat_le 24 (length r.planned.items) ≡ false = grind (arith, common_steps, same) in
    record {
      checked_by_the_rules = λ before h form.
          let planned = c.in_ok-plan.ensures.in_range_or_refused form in
          let named = rw c.as_slice.ensures.value at c.in_ok-name_all.ensures.named_if_all_were_free _ h.marks in
          let line = c.line.ensures.one_behind_the_lines_read before h in
          let done = with_stage before r h t c.in_ok-name_all.ensures.only_marks_are_set c.line.result c.args.stage c.in_ok-plan.plan line (sym c.is_some.ensures ∙ c.if-is_some.false) planned.0 planned.1 form.1 named.0 room named.1 in
          (done.0, subst (λ ps. HasRead (before ++ Stage c.args.stage ∷ []) (reading (listed ps) t.marks t.arguments t.results t.kept)) (sym c.push.ensures.items) done.1);
    }
