use Rattle.worked.proofs.Made.{told}
use Rattle.worked.proofs.piles.count_pair_gives.Goals as goal

pub returns : goal.returns
returns c =
    let pile = c.in_ok-count.ensures.means_count.profile_stays in
    record { whether_it_gives_what_is_expected = told _ _ c.gives.result _ _ c.args.block pile c.gives.ensures.whether_it_gives_what_is_expected }
