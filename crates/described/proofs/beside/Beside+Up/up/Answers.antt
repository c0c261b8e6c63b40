use Rattle.std.proofs.Common.{refl, sym, ◌∙◌}
use Rattle.blocks.specs.Blocks.{up_profile}
use Rattle.described.specs.Piles.{lined}
use Rattle.described.proofs.Beginnings.{begin_alike, one_size}
use Rattle.described.proofs.beside.Beside+Up.up.Goals as goal

pub invariant_of-result : goal.invariant_of-result
invariant_of-result c =
    let here = c.in_ok-built_in.ensures.means_up in
    let there = c.in_ok-described.ensures.starts_empty_with_the_limit in
    let same = one_size there.0 here.0 (there.1 ∙ sym here.1) in
    record { answer_alike = begin_alike _ _ _ (lined c.args.line (up_profile there.0)) _ _ here.2 there.2 (rw same (record { equal_first_books = refl; equal_answers_to_questions = refl })) }

pub returns-clause-both_mean_up : goal.returns-clause-both_mean_up
returns-clause-both_mean_up c =
    let here = c.in_ok-built_in.ensures.means_up in
    let there = c.in_ok-described.ensures.starts_empty_with_the_limit in
    let same = one_size there.0 here.0 (there.1 ∙ sym here.1) in
    (here.0, here.1, (here.2, rw same at there.2))
