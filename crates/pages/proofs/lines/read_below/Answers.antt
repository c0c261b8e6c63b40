use Rattle.std.proofs.Common.{sym, ap, ◌∙◌, option_map, arith}
use Rattle.texts.specs.Lists.{listed}
use Rattle.texts.specs.Parts.{parts_left}
use Rattle.pages.proofs.Lengths.{as_many, not_as_many}
use Rattle.pages.proofs.lines.read_below.Goals as goal

pub returns-then-len-count : goal.returns-then-len-count
returns-then-len-count c =
    let none = not_as_many c.args.count 2 (parts_left c.args.words.now) c.in_ok-list.list (sym c.in_ok-list.was ∙ c.all.ensures.all_of_them_or_none) (omega (arith, c.if-len-count.true, c.len.ensures.value)) in
    record { as_many_as_wanted_or_none = sym (ap (option_map listed) none) }

pub returns : goal.returns
returns c =
    let some = as_many c.args.count 2 (parts_left c.args.words.now) c.in_ok-list.list (sym c.in_ok-list.was ∙ c.all.ensures.all_of_them_or_none) (omega (arith, c.if-len-count.false, c.len.ensures.value)) in
    record { as_many_as_wanted_or_none = sym (ap (option_map listed) some) }
