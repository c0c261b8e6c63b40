use Rattle.std.proofs.Common.{rules, ◌≡◌, ◌≤◌, length, ap, sym, ◌∙◌, arith, option_map}
use Rattle.std.proofs.lemmas.Grind.{common_steps}
use Rattle.texts.specs.Lists.{listed}
use Rattle.texts.proofs.Gathering.{gathering, gathering_more, gathering_stops, none_at_most, gathering_too_many, gathered, left_where_none, left_where_full, left_where_all}
use Rattle.texts.proofs.lists.all.Goals as goal

pub loop-word-init : goal.loop-word-init
loop-word-init g c = rw c.new-list.ensures (gathering _ _, omega arith)

pub returns-in_err-read : goal.returns-in_err-read
returns-in_err-read g c =
    let h = rw c.in-Some.ensures.the_first_part_that_was_left at c.loop-word.invariant.0 in
    let none = sym c.read.ensures.what_the_word_stands_for ∙ c.in_err-read.was in
    record {
      none_is_left = search rules;
      all_of_them_or_none = c.from_residual.ensures ∙ sym (ap (option_map listed) (none_at_most _ _ g.row.N (gathering_stops _ _ _ _ _ none h)));
      words_behind_the_one_that_decides_are_left = left_where_none _ _ _ _ _ g.row.N none c.loop-word.invariant.1 h;
    }

pub loop-word-smaller : goal.loop-word-smaller
loop-word-smaller g c = rw c.in-Some.ensures.the_first_part_that_was_left (omega arith)

pub loop-word-preserved : goal.loop-word-preserved
loop-word-preserved g c =
    let h = rw c.in-Some.ensures.the_first_part_that_was_left at c.loop-word.invariant.0 in
    (rw c.push.ensures.items (gathering_more _ _ _ _ _ _ (sym c.read.ensures.what_the_word_stands_for ∙ c.in_ok-read.was) h), grind (arith, common_steps))

pub returns-then-is_full : goal.returns-then-is_full
returns-then-is_full g c =
    let h = rw c.in-Some.ensures.the_first_part_that_was_left at c.loop-word.invariant.0 in
    let full : length c.loop-word.list.items ≡ g.row.N = grind (arith, common_steps) in
    let room : g.row.N ≤ length c.loop-word.list.items = omega (arith, full) in
    record {
      none_is_left = search rules;
      all_of_them_or_none = sym (ap (option_map listed) (gathering_too_many _ _ _ _ _ g.row.N room h));
      words_behind_the_one_that_decides_are_left = left_where_full _ _ _ _ _ g.row.N full h;
    }

pub returns : goal.returns
returns g c =
    let h = rw c.in_default.ensures.the_first_part_that_was_left.0 at c.loop-word.invariant.0 in
    record {
      none_is_left = search rules;
      all_of_them_or_none = sym (ap (option_map listed) (gathered _ _ _ g.row.N c.loop-word.invariant.1 h));
      words_behind_the_one_that_decides_are_left = c.in_default.ensures.the_first_part_that_was_left.1 ∙ left_where_all _ _ _ g.row.N c.loop-word.invariant.1 h;
    }
