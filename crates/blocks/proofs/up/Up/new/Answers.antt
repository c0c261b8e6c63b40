use Rattle.std.proofs.Common.{rules, refl}
use Rattle.values.specs.declared.sizes.Size.TheVariants.{One, Two, Four, Eight}
use Rattle.blocks.proofs.Grants.{gives_upward}
use Rattle.blocks.proofs.up.Up.new.Goals as goal

-- a limit that is no size's number of bytes
pub returns-in_err-limit-clause-refused_unless_1_2_4_or_8 : goal.returns-in_err-limit-clause-refused_unless_1_2_4_or_8
returns-in_err-limit-clause-refused_unless_1_2_4_or_8 c =
    let one = c.in_err-limit.ensures One in
    let two = c.in_err-limit.ensures Two in
    let four = c.in_err-limit.ensures Four in
    let eight = c.in_err-limit.ensures Eight in
    search rules

pub returns-clause-gives_upward : goal.returns-clause-gives_upward
returns-clause-gives_upward c = gives_upward _ _ _ c.in_ok-limit.ensures refl
