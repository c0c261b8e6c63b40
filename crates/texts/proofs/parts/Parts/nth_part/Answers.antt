use Rattle.std.proofs.Common.{drop, drop-drop, ap, sym, ◌∙◌, arith}
use Rattle.texts.specs.Parts.{parts_left}
use Rattle.texts.proofs.Cuts.{none_behind}
use Rattle.texts.proofs.parts.Parts.nth_part.Goals as goal

pub returns-in_err-next_part : goal.returns-in_err-next_part
returns-in_err-next_part c =
    let e = c.in_err-next_part.ensures.the_first_part_that_was_left in
    record { the_part_behind_so_many = rw c.from_residual.ensures (none_behind c.loop.counter _ (parts_left c.args.self.now) (sym c.loop.invariant ∙ e.0) (omega (arith, c.loop-test.true)), e.1) }

pub loop-preserved : goal.loop-preserved
loop-preserved c =
    ap (drop 1) (sym c.in_ok-next_part.ensures.the_first_part_that_was_left ∙ c.loop.invariant) ∙ drop-drop 1 c.loop.counter (parts_left c.args.self.now)
