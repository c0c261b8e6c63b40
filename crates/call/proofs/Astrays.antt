-- Nothing goes astray in a call of lawful piles that came out by the rules.
use Rattle.std.proofs.Common.{◌≡◌, ◌+◌, ◌≤◌, None, Ok, sym, ap, ◌∙◌}
use Rattle.histories.proofs.Twins.{equal_answers}
use Rattle.machine.specs.Machine.{Contents}
use Rattle.call.specs.Placing.{Sides, placement, placement_line, sides_of}
use Rattle.call.specs.Calls.{first_of, fault_in, line_in, coding_fault, CameOut}
use Rattle.call.specs.Standing.{Placed, SidesAlike, Provided, IsWithinBounds, Delivered, DeliversTheseLists, DeliversAsItStands}
use Rattle.call.specs.Astray.{Setting, End, NothingGoesAstray, all_answers_before, reopened_sides, placement_in, standing_in}
use Rattle.call.specs.declared.ran.Ran.{Ran}
use Rattle.call.proofs.Firsts.{none_first}
use Rattle.call.proofs.Steps.{LawfulPiles, each_lived, stands_as_placed, nothing_refused, sides_alike}

module _ (s : Setting) (e : End) (piles : LawfulPiles (reopened_sides s))
    (told : e.heard ≡ all_answers_before s)
    (same : e.sides ≡ sides_of (placement_in s))
    (fault : fault_in e.answer ≡ first_of (placement_in s).core_results.fault (coding_fault (standing_in s e.sides)))
    (line : line_in e.answer ≡ placement_line (reopened_sides s) s.arguments s.results)
    (out : CameOut (standing_in s e.sides) e.world e.answer)
    (delivers : DeliversAsItStands (standing_in s e.sides) e.world e.answer) where
  -- a call that is not refused
  module _ (r : Ran) (answered : e.answer ≡ Ok r) where
    none_placed : (placement_in s).core_results.fault ≡ None
    none_placed = sym (none_first (placement_in s).core_results.fault (coding_fault (standing_in s e.sides)) (sym (ap fault_in answered) ∙ fault))

    lists : DeliversTheseLists (standing_in s e.sides) e.world e.answer s.arguments s.results
    lists = delivers s.arguments s.results (stands_as_placed s e.sides same none_placed)

    placed : Placed s.arguments s.results e.sides
    placed = lists.what_is_not_refused_is_held (nothing_refused s e.sides same none_placed)

    covered : r.caller_length + r.callee_length ≤ 512
    covered = lists.a_budget_of_512_covers_both_codes r answered

    bounded : IsWithinBounds (standing_in s e.sides) r
    bounded = lists.stack_bytes_and_offsets_are_within_bounds r answered

    delivered : SidesAlike (reopened_sides s) → Provided (standing_in s e.sides) r → (p q : Contents) × Delivered (standing_in s e.sides) e.world r p q
    delivered alike = lists.no_argument_or_result_goes_astray r answered (sides_alike s e.sides same none_placed alike)

  pub nothing_goes_astray : NothingGoesAstray s e
  nothing_goes_astray = record {
    every_answer_before_was_by_the_rules_and_heard = told;
    sides_are_placed_by_the_rules = same;
    each_allocation_is_lawful_at_every_moment = each_lived s e.sides piles same;
    equal_requests_for_arguments_get_equal_answers = equal_answers s.bench_arguments.profile s.core_arguments.profile;
    equal_requests_for_results_get_equal_answers = equal_answers s.bench_results.profile s.core_results.profile;
    refused_with_the_first_fault = fault;
    refusal_of_a_pile_has_the_blamed_line = line;
    came_out_by_the_rules_of_code_and_machine = out;
    a_call_that_is_not_refused_is_placed = placed;
    a_budget_of_512_covers_both_codes = covered;
    stack_bytes_and_offsets_are_within_bounds = bounded;
    no_argument_or_result_goes_astray = delivered;
  }

-- the same of a call whose sides were these when it began to place
pub nothing_goes_astray_from : (s : Setting) (e : End) → LawfulPiles (reopened_sides s) → e.heard ≡ all_answers_before s →
    (began : Sides) → began ≡ reopened_sides s →
    e.sides ≡ sides_of (placement began s.arguments s.results) →
    fault_in e.answer ≡ first_of (placement began s.arguments s.results).core_results.fault (coding_fault (standing_in s e.sides)) →
    line_in e.answer ≡ placement_line began s.arguments s.results →
    CameOut (standing_in s e.sides) e.world e.answer →
    DeliversAsItStands (standing_in s e.sides) e.world e.answer → NothingGoesAstray s e
nothing_goes_astray_from s e piles told began fresh same fault line out delivers =
    nothing_goes_astray s e piles told
    (same ∙ ap (λ (z : Sides). sides_of (placement z s.arguments s.results)) fresh)
    (fault ∙ ap (λ (z : Sides). first_of (placement z s.arguments s.results).core_results.fault (coding_fault (standing_in s e.sides))) fresh)
    (line ∙ ap (λ (z : Sides). placement_line z s.arguments s.results) fresh)
    out
    delivers
