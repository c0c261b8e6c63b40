use Rattle.std.proofs.Common.{◌≡◌, false, refl, ap, drop, length, length-drop, arith}
use Rattle.std.proofs.lemmas.Grind.{common_steps}
use Rattle.std.proofs.lemmas.List.{drop_more}
use Rattle.pages.specs.Rules.{are_free}
use Rattle.description.specs.declared.reading.Reading.{Reading}
use Rattle.description.proofs.Naming.{naming_begins, naming_goes_on, naming_stops, naming_ends, same_but_for_marks}
use Rattle.description.proofs.reading.Reading.name_all.Goals as goal

pub loop-number-init : goal.loop-number-init
loop-number-init c = (λ names h. naming_begins _ names c.args.numbers.now _ h, refl)

pub loop-number-preserved : goal.loop-number-preserved
loop-number-preserved c =
    let numbers = c.args.numbers.now in
    let kept = c.loop-number.invariant.1 in
    let left = drop_more numbers c.loop-number.number-index 0 c.loop-number-test.true in (
      λ names h.
          let p = rw left at c.loop-number.invariant.0 names h in
          let done = rw (ap (λ (x : Reading). x.planned) kept) at c.in_ok-name.ensures.named_if_it_was_free p.now p.marked in
          naming_goes_on _ names numbers _ _ _ _ p done.0 done.1,
      same_but_for_marks c.args.self.now c.loop-number.self c.name.new.self kept c.in_ok-name.ensures.only_its_mark_is_set,
    )

pub returns-in_err-name : goal.returns-in_err-name
returns-in_err-name c =
    let numbers = c.args.numbers.now in
    let kept = c.loop-number.invariant.1 in
    let left = drop_more numbers c.loop-number.number-index 0 c.loop-number-test.true in
    record {
      named_if_all_were_free = λ names h.
          let p = rw left at c.loop-number.invariant.0 names h in
          let failed = rw (ap (λ (x : Reading). x.planned) kept) at c.in_err-name.ensures.named_if_it_was_free p.now p.marked in
          let none : are_free (length c.args.self.now.planned.items) names numbers ≡ false = naming_stops _ names numbers _ _ _ p failed.0 in
          let cause = failed.1 in
          grind (arith, common_steps, none, cause);
      only_marks_are_set = same_but_for_marks c.args.self.now c.loop-number.self c.name.new.self kept c.in_err-name.ensures.only_its_mark_is_set;
    }

pub returns : goal.returns
returns c =
    let numbers = c.args.numbers.now in
    let i = c.loop-number.number-index in
    let none : length (drop i numbers) ≡ 0 = omega (arith, length-drop i numbers, c.loop-number-test.false) in
    record {
      named_if_all_were_free = λ names h. naming_ends _ names numbers (drop i numbers) _ none (c.loop-number.invariant.0 names h);
      only_marks_are_set = c.loop-number.invariant.1;
    }
