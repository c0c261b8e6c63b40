use Rattle.std.proofs.Common.{refl, ap}
use Rattle.described.specs.Piles.{lined}
use Rattle.described.proofs.pile.Pile.up.Goals as goal

pub returns-clause-starts_empty_with_the_limit : goal.returns-clause-starts_empty_with_the_limit
returns-clause-starts_empty_with_the_limit c =
    let block = c.in_ok-block.ensures.means_up in (
      block.0,
      block.1,
      record {
        first_book_is_back = block.2.first_book_is_back;
        first_blame_is_back = refl;
        profile_stays = ap (lined c.args.line) block.2.profile_stays;
      },
    )
