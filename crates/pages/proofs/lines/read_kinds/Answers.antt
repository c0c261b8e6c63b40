use Rattle.std.proofs.Common.{◌≡◌, None, ap, sym, ◌∙◌, arith}
use Rattle.std.proofs.lemmas.Grind.{common_steps}
use Rattle.std.specs.Result.{result_ok}
use Rattle.pages.specs.Lines.{kind_of, kinds_of}
use Rattle.pages.proofs.FourKinds.{kind_read, unknown_at, full_at}
use Rattle.pages.proofs.lines.read_kinds.Goals as goal

pub returns-in_err-kind : goal.returns-in_err-kind
returns-in_err-kind c =
    let unknown = ap kind_of (sym c.from.ensures) ∙ (kind_read _ _ c.try_from.ensures ∙ ap result_ok c.in_err-kind.was) in
    let none : kinds_of c.args.word.now ≡ None = unknown_at _ _ _ c.loop-letter-test.true c.loop-letter.invariant.0 unknown in
    grind (arith, common_steps, none)

pub returns-then-is_full : goal.returns-then-is_full
returns-then-is_full c =
    let none : kinds_of c.args.word.now ≡ None = full_at _ _ _ c.loop-letter-test.true c.loop-letter.invariant.0 (grind (arith, common_steps)) in
    grind (arith, common_steps, none)
