use Rattle.std.proofs.Common.{◌∙◌}
use Rattle.worked.proofs.Made.{told, up_eight, over_made, widened_to_four}
use Rattle.worked.proofs.piles.wide_gives.Goals as goal

pub returns : goal.returns
returns c =
    let bits = c.in_ok-bits.ensures.means_bits.profile_stays in
    let block = c.in_ok-up.ensures.means_up in
    let up = block.2.profile_stays ∙ up_eight block.0 block.1 in
    let below = c.new-3.ensures.means_over.profile_stays ∙ over_made _ _ _ _ bits up in
    let wide = c.in_ok-pile.ensures.means_widen in
    let pile = wide.2.profile_stays ∙ widened_to_four wide.0 _ _ wide.1 below in
    record { whether_it_gives_what_is_expected = told _ _ c.gives.result _ _ c.args.block pile c.gives.ensures.whether_it_gives_what_is_expected }
