use Rattle.std.proofs.Common.{refl, ap}
use Rattle.described.specs.Piles.{lined}
use Rattle.described.proofs.pile.Pile.count.Goals as goal

pub returns-clause-counts_through_the_list : goal.returns-clause-counts_through_the_list
returns-clause-counts_through_the_list c =
    let bank = c.in_ok-bank.ensures.means_count in
    record {
      first_book_is_back = bank.first_book_is_back;
      first_blame_is_back = refl;
      profile_stays = ap (lined c.args.line) bank.profile_stays;
    }
