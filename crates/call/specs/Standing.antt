-- What a call of allocations as they stand delivers.
use Rattle.std.specs.Prelude.{◌≡◌, ℕ, ◌+◌, ◌≤◌, List, [], ◌∷◌, length, None, Ok, Result}
use Rattle.values.specs.Sizes.{bytes}
use Rattle.place.specs.Holdings.{Holding}
use Rattle.stage.specs.Books.{Alike}
use Rattle.allocation.specs.States.{opened}
use Rattle.allocation.specs.declared.asked.Asked.{Asked}
use Rattle.histories.specs.Histories.{placed_all}
use Rattle.machine.specs.Machine.{Contents, reg, running}
use Rattle.machine.specs.declared.Outcome.TheVariants as Outcomes
use Rattle.machine.specs.declared.Side.TheVariants.{Caller}
use Rattle.delivery.specs.Code.{home_bytes}
use Rattle.delivery.specs.Delivering.{BodyRuns, Delivers, index_of_body, steps_to_body}
use Rattle.emit.specs.Coding.{CallerOffsetsAreWhole, CalleeOffsetsAreWhole}
use Rattle.call.specs.Placing.{Sides, first_refused}
use Rattle.call.specs.Calls.{World, Standing}
use Rattle.call_faults.specs.declared.CallFault.{CallFault}
use Rattle.call.specs.declared.ran.Ran.{Ran}

-- each allocation is what placing its list makes of its pile, newly opened; the alignments are those of the lists, and so
-- equal on both sides
pub record StandsAsPlaced (s : Sides) (arguments results : List Asked) : Type 0 where
  pub bench_arguments : s.bench_arguments ≡ placed_all (opened s.bench_arguments.profile) arguments
  pub bench_results : s.bench_results ≡ placed_all (opened s.bench_results.profile) results
  pub core_arguments : s.core_arguments ≡ placed_all (opened s.core_arguments.profile) arguments
  pub core_results : s.core_results ≡ placed_all (opened s.core_results.profile) results

-- and nothing of it was refused
pub record NothingRefused (s : Sides) (arguments results : List Asked) : Type 0 where
  pub bench_arguments : first_refused (opened s.bench_arguments.profile) arguments ≡ None
  pub bench_results : first_refused (opened s.bench_results.profile) results ≡ None
  pub core_arguments : first_refused (opened s.core_arguments.profile) arguments ≡ None
  pub core_results : first_refused (opened s.core_results.profile) results ≡ None

-- places held for these types, in order
abbrev pub HeldFor : List Asked → List Holding → Type 0
HeldFor [] [] = Unit {0}
HeldFor [] (h ∷ hs) = ⊥
HeldFor (q ∷ qs) [] = ⊥
HeldFor (q ∷ qs) (h ∷ hs) = (h.kind ≡ q.kind) × (bytes h.width ≡ q.width) × HeldFor qs hs

-- each side holds a place for each type of the signature, in order
pub record Placed (arguments results : List Asked) (s : Sides) : Type 0 where
  pub bench_holds_each_argument : HeldFor arguments s.bench_arguments.held
  pub bench_holds_each_result : HeldFor results s.bench_results.held
  pub core_holds_each_argument : HeldFor arguments s.core_arguments.held
  pub core_holds_each_result : HeldFor results s.core_results.held

-- the piles of both sides agree, purpose by purpose
pub record SidesAlike (s : Sides) : Type 0 where
  pub for_arguments : Alike s.bench_arguments.profile s.core_arguments.profile
  pub for_results : Alike s.bench_results.profile s.core_results.profile

-- the bytes of a home for each place that the bench holds
abbrev pub homes_of : Sides → ℕ
homes_of s = home_bytes (length s.bench_arguments.held + length s.bench_results.held)

-- a stack that is deep enough, and a budget that reaches the sum of both code lengths
pub record Provided (z : Standing) (r : Ran) : Type 0 where
  pub stack_is_deep_enough : r.block + r.frame ≤ reg z.world.contents 31
  pub homes_are_within_memory :
      reg z.world.contents 31 + homes_of z.sides ≤ length z.world.contents.mem
  pub budget_covers_both_codes : r.caller_length + r.callee_length ≤ z.budget

-- the run ends, with a step for each instruction of both codes; the body begins in p and ends in q
pub record Delivered (z : Standing) (new : World) (r : Ran) (p q : Contents) : Type 0 where
  pub run_ends : r.outcome ≡ Outcomes.Ended
  pub steps_are_the_sum_of_both_code_lengths : r.steps ≡ r.caller_length + r.callee_length
  pub run_goes_through_the_body :
      BodyRuns new.caller new.callee (running Caller 0 z.world.contents) z.body
      (index_of_body z.sides.bench_arguments.held z.sides.bench_results.held z.kept z.body)
      (steps_to_body z.sides.bench_arguments.held z.sides.bench_results.held z.kept z.body r.block) p q
  pub arguments_and_results_are_delivered_and_nothing_else_changes :
      Delivers z.sides.bench_arguments.held z.sides.bench_results.held z.kept z.body r.block
      z.world.contents p q new.contents

-- no code takes more stack than a block, or than the largest frame, and each offset that it has is the whole number that
-- the rules say
pub record IsWithinBounds (z : Standing) (r : Ran) : Type 0 where
  pub caller_takes_at_most_a_block : r.block ≤ 4096
  pub callee_takes_at_most_the_largest_frame : r.frame ≤ 272
  pub no_offset_of_the_caller_is_cut : CallerOffsetsAreWhole z.sides.bench_arguments z.sides.bench_results
  pub no_offset_of_the_callee_is_cut :
      CalleeOffsetsAreWhole z.sides.core_arguments z.sides.core_results z.kept z.body

-- where the call is not refused, the piles agree, and stack and budget are provided
abbrev pub WhatIsHeldIsDelivered : Standing → World → Result Ran CallFault → Type 0
WhatIsHeldIsDelivered z new answer = (r : Ran) → answer ≡ Ok r → SidesAlike z.sides →
    Provided z r → (p q : Contents) × Delivered z new r p q

-- of allocations that stand as these lists were placed
pub record DeliversTheseLists (z : Standing) (new : World) (answer : Result Ran CallFault)
    (arguments results : List Asked) : Type 0 where
  pub what_is_not_refused_is_held :
      NothingRefused z.sides arguments results → Placed arguments results z.sides
  pub a_budget_of_512_covers_both_codes :
      (r : Ran) → answer ≡ Ok r → r.caller_length + r.callee_length ≤ 512
  pub stack_bytes_and_offsets_are_within_bounds : (r : Ran) → answer ≡ Ok r → IsWithinBounds z r
  pub no_argument_or_result_goes_astray : WhatIsHeldIsDelivered z new answer

-- whatever lists they are
abbrev pub DeliversAsItStands : Standing → World → Result Ran CallFault → Type 0
DeliversAsItStands z new answer = (arguments results : List Asked) →
    StandsAsPlaced z.sides arguments results → DeliversTheseLists z new answer arguments results
