use Rattle.std.proofs.Common.{◌≡◌, ◌<◌, ◌≤◌, true, length, ◌∷◌, map, refl, ap, sym, ◌∙◌, arith}
use Rattle.std.proofs.lemmas.Grind.{common_steps}
use Rattle.texts.specs.Parts.{parts, parts_left}
use Rattle.values.specs.Types.{word_of}
use Rattle.signatures.specs.Signatures.{is_name, IsProper}
use Rattle.signatures.specs.declared.signature.Signature.{Signature}
use Rattle.signatures.specs.Faults.{before_colon, behind_colon, are_divided, are_types, line_fault}
use Rattle.signatures.proofs.Written.{types_behind, too_many_results, fault_of_too_many, line_of_its_words, words_of_what_was_read, no_fault_of_its_line}
use Rattle.signatures.proofs.reading.read_line.Goals as goal

pub read_types-requires-2 : goal.read_types-requires-2
read_types-requires-2 c = grind (arith, common_steps, types_behind)

pub returns-in_err-results-clause-refused_with_the_lowest_number : goal.returns-in_err-results-clause-refused_with_the_lowest_number
returns-in_err-results-clause-refused_with_the_lowest_number c =
    let ws = parts_left c.next_part.new.self in
    let whole : parts 32 c.args.line.now ≡ c.in_ok-name.name.bytes ∷ ws = grind (arith, common_steps) in
    let named : is_name c.in_ok-name.name.bytes ≡ true = grind (arith, common_steps) in
    let divided : are_divided ws ≡ true = grind (arith, common_steps) in
    let types : are_types ws ≡ true = grind (arith, common_steps) in
    let short : length c.args.line.now ≤ 120 = omega arith in
    let long : 4 < length (before_colon (behind_colon ws)) = grind (arith, common_steps) in
    let fault = fault_of_too_many c.args.line.now c.in_ok-name.name.bytes ws short whole named divided types (too_many_results ws divided long) in
    grind (arith, common_steps, fault)

pub returns : goal.returns
returns c =
    let ws = parts_left c.next_part.new.self in
    let s : Signature = record { name = c.in_ok-name.name; arguments = c.in_ok-arguments.arguments; results = c.in_ok-results.results } in
    let whole : parts 32 c.args.line.now ≡ c.in_ok-name.name.bytes ∷ ws = grind (arith, common_steps) in
    let divided : are_divided ws ≡ true = grind (arith, common_steps) in
    let xs : map word_of c.in_ok-arguments.arguments.items ≡ before_colon ws = grind (arith, common_steps) in
    let ys : map word_of c.in_ok-results.results.items ≡ before_colon (behind_colon ws) = grind (arith, common_steps) in
    let proper : IsProper s = record {
      name_is_1_to_8_letters = grind (arith, common_steps);
      arguments_are_at_most_16 = grind (arith, common_steps);
      results_are_at_most_4 = grind (arith, common_steps);
    } in
    let written = line_of_its_words c.args.line.now s (whole ∙ words_of_what_was_read c.in_ok-name.name.bytes ws s divided refl xs ys) in
    record { refused_with_the_lowest_number = sym (ap line_fault written ∙ no_fault_of_its_line s proper); written_by_what_was_read = (proper, written) }
