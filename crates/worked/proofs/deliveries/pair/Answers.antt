use Rattle.std.proofs.Common.{◌∙◌}
use Rattle.worked.proofs.Made.{widened_to_four}
use Rattle.worked.proofs.deliveries.pair.Goals as goal

pub returns : goal.returns
returns c =
    let bits = c.in_ok-bits.ensures.means_bits.profile_stays in
    let wide = c.in_ok-pile.ensures.means_widen in
    record { is_the_pair = wide.2.profile_stays ∙ widened_to_four wide.0 _ _ wide.1 bits }
