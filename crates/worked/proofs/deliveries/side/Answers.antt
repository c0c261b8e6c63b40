use Rattle.std.proofs.Common.{◌≡◌, [], ap}
use Rattle.stage.specs.Books.{Profile}
use Rattle.call.specs.Astray.{unused}
use Rattle.worked.proofs.deliveries.side.Goals as goal

pub returns : goal.returns
returns c = record {
  has_both_piles_unused = (ap unused c.in_ok-wide.ensures.is_the_wide_pile, ap unused c.in_ok-pair.ensures.is_the_pair);
}
