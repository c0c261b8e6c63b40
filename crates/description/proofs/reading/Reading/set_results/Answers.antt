use Rattle.std.proofs.Common.{◌≡◌, true, false, Some, refl, sym, ◌∙◌, arith}
use Rattle.std.proofs.lemmas.Grind.{common_steps}
use Rattle.std.specs.Option.{is_some}
use Rattle.pages.specs.Rules.{number_of_fault}
use Rattle.pages.specs.declared.lines.Line.TheVariants.{Results}
use Rattle.description.proofs.MoreRead.{alone, arguments_alone, no_such_stage, with_results}
use Rattle.description.proofs.reading.Reading.set_results.Goals as goal

pub returns-in_err-name : goal.returns-in_err-name
returns-in_err-name c =
    let there : is_some c.args.self.now.arguments ≡ true = grind (arith, common_steps) in
    record {
      checked_by_the_rules = λ before h.
          let r = c.args.self.now in
          let failed = c.in_err-name.ensures.named_if_it_was_free _ h.marks in
          let cause = failed.1 in
          let fault : number_of_fault before (Results c.args.number) ≡ Some 4 =
          no_such_stage before r h (Results c.args.number) (arguments_alone before r h there (sym c.is_some.ensures ∙ c.if-is_some.false)) refl (alone before r h c.args.number false failed.0) in
          grind (arith, common_steps, cause, fault);
    }

pub returns : goal.returns
returns c =
    let there : is_some c.args.self.now.arguments ≡ true = grind (arith, common_steps) in
    record {
      checked_by_the_rules = λ before h.
          let named = c.in_ok-name.ensures.named_if_it_was_free _ h.marks in
          with_results before c.args.self.now h c.name.new.self c.in_ok-name.ensures.only_its_mark_is_set c.args.number there (sym c.is_some.ensures ∙ c.if-is_some.false) named.0 named.1;
    }
