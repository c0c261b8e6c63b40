use Rattle.std.proofs.Common.{refl}
use Rattle.described.proofs.Beginnings.{begin_alike}
use Rattle.described.proofs.beside.Beside+Count.count.Goals as goal

pub invariant_of-result : goal.invariant_of-result
invariant_of-result c =
    let here = c.in_ok-built_in.ensures.means_count in
    let there = c.in_ok-described.ensures.counts_through_the_list in
    record { answer_alike = begin_alike _ _ _ _ _ _ here there (record { equal_first_books = refl; equal_answers_to_questions = refl }) }
