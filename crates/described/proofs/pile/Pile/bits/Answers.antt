use Rattle.std.proofs.Common.{refl, ap}
use Rattle.described.specs.Piles.{lined}
use Rattle.described.proofs.pile.Pile.bits.Goals as goal

pub returns-clause-goes_through_the_list_by_bytes : goal.returns-clause-goes_through_the_list_by_bytes
returns-clause-goes_through_the_list_by_bytes c =
    let bank = c.in_ok-bank.ensures.means_bits in
    record {
      first_book_is_back = bank.first_book_is_back;
      first_blame_is_back = refl;
      profile_stays = ap (lined c.args.line) bank.profile_stays;
    }
