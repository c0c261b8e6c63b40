use Rattle.std.proofs.Common.{◌≡◌, false, Some, sym, ◌∙◌, refl, arith}
use Rattle.std.proofs.lemmas.Grind.{common_steps}
use Rattle.pages.specs.Rules.{number_of_fault}
use Rattle.pages.specs.declared.lines.Line.TheVariants.{Arguments}
use Rattle.description.proofs.MoreRead.{alone, no_arguments, no_such_stage, with_arguments}
use Rattle.description.proofs.reading.Reading.set_arguments.Goals as goal

pub returns-in_err-name : goal.returns-in_err-name
returns-in_err-name c =
    record {
      checked_by_the_rules = λ before h.
          let r = c.args.self.now in
          let failed = c.in_err-name.ensures.named_if_it_was_free _ h.marks in
          let cause = failed.1 in
          let fault : number_of_fault before (Arguments c.args.number) ≡ Some 4 =
          no_such_stage before r h (Arguments c.args.number) (no_arguments before r h (sym c.is_some.ensures ∙ c.if-is_some.false)) refl (alone before r h c.args.number false failed.0) in
          grind (arith, common_steps, cause, fault);
    }

pub returns : goal.returns
returns c =
    record {
      checked_by_the_rules = λ before h.
          let named = c.in_ok-name.ensures.named_if_it_was_free _ h.marks in
          with_arguments before c.args.self.now h c.name.new.self c.in_ok-name.ensures.only_its_mark_is_set c.args.number (sym c.is_some.ensures ∙ c.if-is_some.false) named.0 named.1;
    }
