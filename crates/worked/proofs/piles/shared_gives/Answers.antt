use Rattle.std.proofs.Common.{◌∙◌}
use Rattle.worked.proofs.Made.{told, over_made}
use Rattle.worked.proofs.piles.shared_gives.Goals as goal

pub returns : goal.returns
returns c =
    let count = c.in_ok-count.ensures.means_count.profile_stays in
    let bits = c.in_ok-bits.ensures.means_bits.profile_stays in
    let pile = c.new-pile.ensures.means_over.profile_stays ∙ over_made _ _ _ _ count bits in
    record { whether_it_gives_what_is_expected = told _ _ c.gives.result _ _ c.args.block pile c.gives.ensures.whether_it_gives_what_is_expected }
