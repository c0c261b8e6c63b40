use Rattle.std.proofs.Common.{◌≡◌, ◌∷◌, ◌++◌, [], ap, sym, ◌∙◌, arith}
use Rattle.std.proofs.lemmas.Grind.{common_steps}
use Rattle.std.specs.Result.{result_ok}
use Rattle.signatures.proofs.Typing.{typing_more, typing_stops}
use Rattle.signatures.proofs.Words.{that_type, no_type}
use Rattle.signatures.proofs.reading.read_types.Goals as goal

pub returns-in_err-try_from : goal.returns-in_err-try_from
returns-in_err-try_from g c =
    let h = rw c.in-Some.ensures.the_first_part_that_was_left at c.loop-word.invariant.0 in
    absurd (typing_stops _ _ _ _ (sym c.if-eq.ensures) (no_type _ _ c.try_from.ensures (ap result_ok c.in_err-try_from.was)) h)

pub loop-word-preserved : goal.loop-word-preserved
loop-word-preserved g c =
    let h = rw c.in-Some.ensures.the_first_part_that_was_left at c.loop-word.invariant.0 in
    let pushed : c.try_push.new.self.items ≡ c.loop-word.list.items ++ c.in_ok-try_from.field-0 ∷ [] = grind (arith, common_steps) in
    (rw pushed (typing_more _ _ _ _ _ (sym c.if-eq.ensures) (that_type _ _ _ c.try_from.ensures (ap result_ok c.in_ok-try_from.was)) h), grind (arith, common_steps))
