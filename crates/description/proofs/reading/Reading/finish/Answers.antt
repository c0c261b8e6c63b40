use Rattle.std.proofs.Common.{◌≡◌, ◌-◌, true, false, length, Err, ap, sym, ◌∙◌, arith}
use Rattle.std.proofs.lemmas.Grind.{common_steps}
use Rattle.pages.specs.Rules.{fault}
use Rattle.description.proofs.Ending.{stage_unused, all_there}
use Rattle.description.proofs.reading.Reading.finish.Goals as goal

pub returns-then-not-all_named : goal.returns-then-not-all_named
returns-then-not-all_named c =
    let e : length c.args.rest.now ≡ 0 = grind (arith, common_steps) in
    let not : c.all_named.result ≡ false = grind (arith, common_steps) in
    record {
      ended_by_the_rules = λ before h.
          let line : c.line-line.result - 1 ≡ length before = omega (arith, c.line-line.ensures.one_behind_the_lines_read before h) in
          stage_unused before c.args.self c.args.rest.now h e (sym not ∙ c.all_named.ensures.whether_each_was_named _ h.marks) ∙ ap (λ n. Err (fault 5 n)) (sym line);
    }

pub returns-in-Some-Some-Some : goal.returns-in-Some-Some-Some
returns-in-Some-Some-Some c =
    let e : length c.args.rest.now ≡ 0 = grind (arith, common_steps) in
    let all : c.all_named.result ≡ true = grind (arith, common_steps) in
    record {
      ended_by_the_rules = λ before h.
          all_there before c.args.rest.now c.args.self _ _ _ h e (sym all ∙ c.all_named.ensures.whether_each_was_named _ h.marks) c.in-Some-Some-Some.is-0 c.in-Some-Some-Some.is-1 c.in-Some-Some-Some.is-2;
    }
