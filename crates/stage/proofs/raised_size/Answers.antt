use Rattle.std.proofs.Common.{rules}
use Rattle.values.specs.declared.sizes.Size.TheVariants.{Two, Four, Eight}
use Rattle.stage.proofs.raised_size.Goals as goal

pub returns-in_err-size-clause-refused_unless_2_4_or_8 : goal.returns-in_err-size-clause-refused_unless_2_4_or_8
returns-in_err-size-clause-refused_unless_2_4_or_8 c =
    let two = c.in_err-size.ensures Two in
    let four = c.in_err-size.ensures Four in
    let eight = c.in_err-size.ensures Eight in
    search rules
