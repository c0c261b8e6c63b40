use Rattle.std.proofs.Common.{◌∙◌, rules, tests}
use Rattle.std.proofs.lemmas.Iterator.{YieldsList-from_slice}
use Rattle.std.proofs.lemmas.Iterator.Search.{any_from_yields_List}
use Rattle.place.specs.Pieces.{in_block, low_piece}
use Rattle.emit.proofs.Searches.{some_in_block}
use Rattle.emit.proofs.checks.any_in_block.Goals as goal

pub returns : goal.returns
returns c = record { whether_one_lies_in_the_block = any_from_yields_List (λ h. in_block (low_piece h.place)) _ _ c.any.result c.any.ensures.ran (YieldsList-from_slice c.args.held.now cc) (λ x b q k. search (rules, tests)) ∙ some_in_block c.args.held.now }
