use Rattle.allocation.specs.States.{state}
use Rattle.emit.proofs.Bounds.{few_of_size}
use Rattle.emit.proofs.caller.caller_size.Goals as goal

pub returns-clause-few_stack_bytes_for_what_requests_got : goal.returns-clause-few_stack_bytes_for_what_requests_got
returns-clause-few_stack_bytes_for_what_requests_got g c =
    let pile = c.args.arguments.now in
    few_of_size (state g.P.Stage pile) (g.met.P.Stage.lawful pile.pile) _ c.size.result c.size.ensures.length_and_stack_bytes
