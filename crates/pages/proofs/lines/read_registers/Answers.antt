use Rattle.std.proofs.Common.{sym, ◌∙◌, arith}
use Rattle.std.proofs.lemmas.Grind.{common_steps}
use Rattle.texts.specs.Parts.{parts_left}
use Rattle.pages.proofs.Lengths.{no_registers}
use Rattle.pages.proofs.lines.read_registers.Goals as goal

pub returns-then-is_empty-clause-the_registers_or_none : goal.returns-then-is_empty-clause-the_registers_or_none
returns-then-is_empty-clause-the_registers_or_none c = sym (no_registers (parts_left c.args.words.now) c.in_ok-list.list (sym c.in_ok-list.was ∙ c.all.ensures.all_of_them_or_none) (grind (arith, common_steps)))
