use Rattle.std.proofs.Common.{◌∙◌, rules, tests}
use Rattle.std.proofs.lemmas.Iterator.{YieldsList-from_slice}
use Rattle.std.proofs.lemmas.Iterator.Consumers.{YieldsList-at, YieldsList-from_enumerate}
use Rattle.std.proofs.lemmas.Iterator.Search.{position_from_yields_List}
use Rattle.emit.proofs.Searches.{bad, first_bad}
use Rattle.emit.proofs.body.body_fault.Goals as goal

pub returns : goal.returns
returns c =
    let body = c.args.body.now in
    record { first_that_is_bad_or_one_too_many = position_from_yields_List (bad c.args.homes) _ _ c.position.result c.position.ensures.ran (YieldsList-from_enumerate (YieldsList-at c.enumerate.ensures.source (YieldsList-from_slice body cc)) cc) (λ x b q k. search (rules, tests)) ∙ first_bad c.args.homes body }
