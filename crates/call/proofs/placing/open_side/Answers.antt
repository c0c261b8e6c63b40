use Rattle.histories.proofs.Hearing.{then}
use Rattle.call.proofs.placing.open_side.Goals as goal

pub returns-clause-every_answer_is_heard : goal.returns-clause-every_answer_is_heard
returns-clause-every_answer_is_heard g c = then g.L.Listener.hears _ _ _ _ _ c.reopened.ensures.every_answer_is_heard c.reopened-2.ensures.every_answer_is_heard
