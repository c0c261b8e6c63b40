use Rattle.std.proofs.Common.{◌≡◌, sym, ap, ◌∙◌, rules}
use Rattle.machine.specs.Machine.{State, Run, runs, state_of, outcome_of}
use Rattle.machine.proofs.Runs.{goes_on_from_last, stays_if_stopped, used_up_if_spent}
use Rattle.machine.proofs.Stuck.{stuck_exactly_where}
use Rattle.machine.proofs.Straight.{composes_if_straight}
use Rattle.machine.proofs.Calls.{ends_if_called}
use Rattle.machine.proofs.Machine.run.Goals as goal

pub returns : goal.returns
returns c =
    let a = c.args.program.caller.now in
    let b = c.args.program.callee.now in
    let t : State = state_of c.advance-steps.new.self c.advance-steps.new.memory in
    let s : State = state_of c.args.self.now c.args.memory.now in
    let whole : runs a b c.args.budget s ≡ record { last = t; steps = c.advance-steps.result } = c.advance-steps.ensures.last_state_and_steps_are_those_of_the_run in
    let comes_out = c.outcome.ensures.outcome_of_this_state in
    record {
      refuses_with_fault_51_at_0_where_memory_is_too_large = search rules;
      a_refusal_changes_nothing = tt;
      state_after_is_the_last_of_the_run = sym (ap (λ (r : Run). r.last) whole);
      outcome_is_that_of_the_last_state = comes_out ∙ sym (ap (λ (r : Run). outcome_of a b r.last) whole);
      steps_are_those_of_the_run = sym (ap (λ (r : Run). r.steps) whole);
      a_larger_budget_goes_on_from_here = goes_on_from_last a b c.args.budget s t _ whole;
      an_ended_or_stuck_machine_stays_in_0_steps = stays_if_stopped a b c.args.budget s t _ whole;
      spent_means_budget_used_up_and_still_running = used_up_if_spent a b c.args.budget s t _ c.outcome.result whole comes_out;
      stuck_exactly_where_the_next_instruction_is_missing_or_cannot_be_done = stuck_exactly_where a b t c.outcome.result comes_out;
      straight_line_code_composes = composes_if_straight a b c.args.budget s t _ whole;
      a_call_of_straight_line_code_ends = ends_if_called a b c.args.budget s t _ whole;
    }
