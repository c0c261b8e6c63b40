use Rattle.std.proofs.Common.{refl}
use Rattle.described.proofs.Beginnings.{begin_alike}
use Rattle.described.proofs.beside.Beside+Bits.bits.Goals as goal

pub invariant_of-result : goal.invariant_of-result
invariant_of-result c =
    let here = c.in_ok-built_in.ensures.means_bits in
    let there = c.in_ok-described.ensures.goes_through_the_list_by_bytes in
    record { answer_alike = begin_alike _ _ _ _ _ _ here there (record { equal_first_books = refl; equal_answers_to_questions = refl }) }
