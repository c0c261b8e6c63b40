use Rattle.allocation.specs.States.{state}
use Rattle.emit.proofs.Bounds.{uncut_callee}
use Rattle.emit.proofs.callee.callee_code.Goals as goal

pub returns-clause-no_offset_is_cut_for_what_requests_got : goal.returns-clause-no_offset_is_cut_for_what_requests_got
returns-clause-no_offset_is_cut_for_what_requests_got g c =
    let pile = c.args.arguments.now in
    let other = c.args.results.now in
    uncut_callee (state g.P.Stage pile) (g.met.P.Stage.lawful pile.pile) (state g.Q.Stage other) (g.met.Q.Stage.lawful other.pile) c.args.kept.bits c.args.body.now c.args.code.now c.write.new.list c.write.result
    c.write.ensures.code_at_the_front_and_the_rest_untouched c.write.ensures.few_stack_bytes c.write.ensures.few_places
