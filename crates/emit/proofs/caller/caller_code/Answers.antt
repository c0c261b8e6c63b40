use Rattle.allocation.specs.States.{state}
use Rattle.delivery.specs.Code.{caller_code}
use Rattle.emit.specs.Coding.{block_bytes}
use Rattle.emit.proofs.Bounds.{few_of_code, uncut_caller}
use Rattle.emit.proofs.Asking.{requests_get_what_is_held}
use Rattle.emit.proofs.caller.caller_code.Goals as goal

pub returns-clause-few_stack_bytes_for_what_requests_got : goal.returns-clause-few_stack_bytes_for_what_requests_got
returns-clause-few_stack_bytes_for_what_requests_got g c =
    let pile = c.args.arguments.now in
    let s = state g.P.Stage pile in
    let made = caller_code s.held (state g.Q.Stage c.args.results.now).held (block_bytes s) in
    few_of_code s (g.met.P.Stage.lawful pile.pile) made c.args.code.now c.write.new.list c.write.result c.write.ensures.code_at_the_front_and_the_rest_untouched

pub returns-clause-no_offset_is_cut_for_what_requests_got : goal.returns-clause-no_offset_is_cut_for_what_requests_got
returns-clause-no_offset_is_cut_for_what_requests_got g c =
    let pile = c.args.arguments.now in
    uncut_caller (state g.P.Stage pile) (g.met.P.Stage.lawful pile.pile) (state g.Q.Stage c.args.results.now) c.write.result c.write.ensures.few_places

pub returns-clause-requests_get_what_is_held : goal.returns-clause-requests_get_what_is_held
returns-clause-requests_get_what_is_held g c = requests_get_what_is_held
