use Rattle.emit.proofs.Tested.{sized_short}
use Rattle.emit.proofs.callee.callee_size.Goals as goal

pub returns-clause-body_of_at_most_256_instructions : goal.returns-clause-body_of_at_most_256_instructions
returns-clause-body_of_at_most_256_instructions g c = sized_short _ _ _ c.args.body.now _ _ c.size.ensures.refused_by_the_first_test_that_fails
