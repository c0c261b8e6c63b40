use Rattle.std.proofs.Common.{◌∙◌}
use Rattle.signatures.proofs.Words.{whether_a_type}
use Rattle.signatures.proofs.reading.is_type.Goals as goal

pub returns : goal.returns
returns c = record { whether_a_type_has_the_word = c.is_ok.ensures.value ∙ whether_a_type _ _ c.try_from.ensures }
