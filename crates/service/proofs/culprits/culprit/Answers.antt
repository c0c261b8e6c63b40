use Rattle.service.proofs.Parts.{lines_are_parts_of_their_texts}
use Rattle.service.proofs.culprits.culprit.Goals as goal

pub returns-clause-a_line_is_a_part_of_its_text : goal.returns-clause-a_line_is_a_part_of_its_text
returns-clause-a_line_is_a_part_of_its_text c = lines_are_parts_of_their_texts
