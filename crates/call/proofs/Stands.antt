-- A call of allocations as they stand delivers.
use Rattle.std.proofs.Common.{◌≡◌, ℕ, ◌+◌, ◌≤◌, List, length, None, Ok, Err, Result, IsErr, sym, ap, ◌∙◌, subst}
use Rattle.std.proofs.lemmas.Bool.{false≢true}
use Rattle.std.specs.List.{AllByRecursion}
use Rattle.allocation.specs.States.{State}
use Rattle.allocation.specs.declared.asked.Asked.{Asked}
use Rattle.machine.specs.Machine.{Contents}
use Rattle.delivery.proofs.Ready.{Sane}
use Rattle.delivery.specs.Delivering.{Sized}
use Rattle.call.specs.Placing.{Sides}
use Rattle.call.specs.Calls.{World, Standing, fault_in, coding_fault, CameOut, RunBy, core_code}
use Rattle.call.specs.Standing.{HeldFor, StandsAsPlaced, NothingRefused, Placed, SidesAlike, Provided, IsWithinBounds, Delivered, DeliversTheseLists, DeliversAsItStands}
use Rattle.call_faults.specs.declared.CallFault.{CallFault}
use Rattle.call.specs.declared.ran.Ran.{Ran}
use Rattle.call.proofs.Arrives.{placed_sides, codes_are_short, few_places, arrives}
use Rattle.call.proofs.Bounded.{got_as_placed, within_bounds}
use Rattle.call.proofs.Granted.{err_ok, placed_holds}
use Rattle.call.proofs.Steps.{LawfulPiles, same_sides}

-- a list that was placed whole and not refused is held
placed : (s : Sides) (arguments results : List Asked) → StandsAsPlaced s arguments results → NothingRefused s arguments results → Placed arguments results s
placed s arguments results stands none = record {
  bench_holds_each_argument = subst (λ (x : State). HeldFor arguments x.held) (sym stands.bench_arguments) (placed_holds s.bench_arguments.profile arguments none.bench_arguments);
  bench_holds_each_result = subst (λ (x : State). HeldFor results x.held) (sym stands.bench_results) (placed_holds s.bench_results.profile results none.bench_results);
  core_holds_each_argument = subst (λ (x : State). HeldFor arguments x.held) (sym stands.core_arguments) (placed_holds s.core_arguments.profile arguments none.core_arguments);
  core_holds_each_result = subst (λ (x : State). HeldFor results x.held) (sym stands.core_results) (placed_holds s.core_results.profile results none.core_results);
}

refused : (answer : Result Ran CallFault) → IsErr answer → (r : Ran) → answer ≡ Ok r → ⊥
refused (Ok q) e r a = absurd (false≢true e)
refused (Err f) e r a = err_ok r f a

-- a call that is refused
pub refused_delivers : (z : Standing) (new : World) (answer : Result Ran CallFault) → IsErr answer → DeliversAsItStands z new answer
refused_delivers z new answer e arguments results stands = record {
  what_is_not_refused_is_held = placed z.sides arguments results stands;
  a_budget_of_512_covers_both_codes = λ r a. absurd (refused answer e r a);
  stack_bytes_and_offsets_are_within_bounds = λ r a. absurd (refused answer e r a);
  no_argument_or_result_goes_astray = λ r a alike given. absurd (refused answer e r a);
}

abbrev with_sides : Standing → Sides → Standing
with_sides z s = record { sides = s; kept = z.kept; body = z.body; world = z.world; budget = z.budget }

module _ (z : Standing) (new : World) (answer : Result Ran CallFault) (piles : LawfulPiles z.sides) (sane : Sane z.world.contents) (sized : AllByRecursion Sized z.body)
    (fault : fault_in answer ≡ coding_fault z) (out : CameOut z new answer) where
  module _ (arguments results : List Asked) (stands : StandsAsPlaced z.sides arguments results) where
    abbrev whole : Sides
    whole = placed_sides z.sides.bench_arguments.profile z.sides.bench_results.profile z.sides.core_arguments.profile z.sides.core_results.profile arguments results

    same : z.sides ≡ whole
    same = same_sides _ _ _ _ _ _ _ _ stands.bench_arguments stands.bench_results stands.core_arguments stands.core_results

    module _ (r : Ran) (answered : answer ≡ Ok r) where
      none : None ≡ coding_fault (with_sides z whole)
      none = sym (ap fault_in answered) ∙ fault ∙ ap (λ (s : Sides). coding_fault (with_sides z s)) same

      ran : RunBy (with_sides z whole) new r
      ran = subst (λ (s : Sides). RunBy (with_sides z s) new r) same (subst (CameOut z new) answered out)

      covered : r.caller_length + r.callee_length ≤ 512
      covered =
          subst (λ (n : ℕ). n ≤ 512) (ap (λ (n : ℕ). n + length (core_code whole z.kept z.body)) (sym ran.length_of_the_caller_code) ∙ ap (λ (n : ℕ). r.caller_length + n) (sym ran.length_of_the_callee_code))
          (codes_are_short _ _ _ _ arguments results z.kept z.body z.world z.budget none)

      few : (length z.sides.bench_arguments.held + length z.sides.bench_results.held ≤ 20) × (length z.sides.core_arguments.held + length z.sides.core_results.held ≤ 20)
      few =
          subst (λ (s : Sides). (length s.bench_arguments.held + length s.bench_results.held ≤ 20) × (length s.core_arguments.held + length s.core_results.held ≤ 20)) (sym same)
          (few_places _ _ _ _ arguments results z.kept z.body z.world z.budget none)

      bounded : IsWithinBounds z r
      bounded = within_bounds z new r piles (subst (CameOut z new) answered out) few.0 few.1 (got_as_placed arguments z.sides.bench_arguments stands.bench_arguments) (got_as_placed arguments z.sides.core_arguments stands.core_arguments) (got_as_placed results z.sides.core_results stands.core_results)

      delivered : SidesAlike z.sides → Provided z r → (p q : Contents) × Delivered z new r p q
      delivered alike given =
          subst (λ (s : Sides). (p q : Contents) × Delivered (with_sides z s) new r p q) (sym same)
          (arrives _ _ _ _ arguments results z.kept z.body z.world z.budget none piles.bench_arguments piles.bench_results alike.for_arguments alike.for_results sane sized new r ran
          (subst (λ (s : Sides). Provided (with_sides z s) r) same given))

    delivers_these : DeliversTheseLists z new answer arguments results
    delivers_these = record {
      what_is_not_refused_is_held = placed z.sides arguments results stands;
      a_budget_of_512_covers_both_codes = covered;
      stack_bytes_and_offsets_are_within_bounds = bounded;
      no_argument_or_result_goes_astray = delivered;
    }

  pub delivers_as_it_stands : DeliversAsItStands z new answer
  delivers_as_it_stands = delivers_these
