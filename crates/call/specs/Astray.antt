-- The promise of a call: no argument and no result goes astray, whatever came to either side before.
use Rattle.std.specs.Prelude.{◌≡◌, ℕ, ◌+◌, ◌≤◌, List, [], ◌++◌, Ok, Result}
use Rattle.stage.specs.Books.{Profile}
use Rattle.stage.specs.declared.Stage.{Ghosts}
use Rattle.allocation.specs.States.{opened}
use Rattle.allocation.specs.declared.asked.Asked.{Asked}
use Rattle.allocation.specs.declared.shared.Allocation.{Allocation}
use Rattle.histories.specs.Heard.{Heard}
use Rattle.histories.specs.Events.{Used, used_of, answers_of_past, reopened_for}
use Rattle.histories.specs.Laws.{Lived, EqualRequestsGetEqualAnswers}
use Rattle.histories.specs.declared.events.UsedPile.{UsedPile}
use Rattle.machine.specs.Machine.{Contents}
use Rattle.machine.specs.declared.Instruction.{Instruction}
use Rattle.call.specs.Placing.{Placement, Sides, placement, placement_line, sides_of}
use Rattle.call.specs.Calls.{World, Standing, first_of, fault_in, line_in, coding_fault, CameOut}
use Rattle.call.specs.Standing.{Placed, SidesAlike, Provided, IsWithinBounds, Delivered}
use Rattle.call_faults.specs.declared.CallFault.{CallFault}
use Rattle.call.specs.declared.ran.Ran.{Ran}
use Rattle.call.specs.declared.sides.Routine.{Routine}
use Rattle.call.specs.declared.sides.Side.{Side}

-- a pile, and nothing before
abbrev pub unused : Profile → Used
unused p = record { profile = p; past = [] }

-- the pile of an allocation: a reopening brings its first book back, whatever came to it before
abbrev pub unused_of : {P S : Type 0} → Ghosts P → Allocation P S → Used
unused_of g a = unused (g.profile a.pile)

-- what a call starts from
pub record Setting : Type 0 where
  pub bench_arguments : Used
  pub bench_results : Used
  pub core_arguments : Used
  pub core_results : Used
  pub arguments : List Asked
  pub results : List Asked
  pub kept : ℕ
  pub body : List Instruction
  pub world : World
  pub budget : ℕ

-- a call of piles with a past
abbrev pub setting_of_call : {A B C D : Type 0} → Ghosts A → Ghosts B → Ghosts C → Ghosts D →
    Side (UsedPile A) (UsedPile B) → Side (UsedPile C) (UsedPile D) →
    Routine → World → ℕ → Setting
setting_of_call a b c d bench core routine world budget = record {
  bench_arguments = used_of a bench.arguments;
  bench_results = used_of b bench.results;
  core_arguments = used_of c core.arguments;
  core_results = used_of d core.results;
  arguments = routine.arguments.now;
  results = routine.results.now;
  kept = routine.kept.bits;
  body = routine.body.now;
  world = world;
  budget = budget;
}

-- a call of allocations that it reopens
abbrev pub setting_of_call_again : {A B C D S : Type 0} →
    Ghosts A → Ghosts B → Ghosts C → Ghosts D →
    Side (Allocation A S) (Allocation B S) → Side (Allocation C S) (Allocation D S) →
    Routine → World → ℕ → Setting
setting_of_call_again a b c d bench core routine world budget = record {
  bench_arguments = unused_of a bench.arguments;
  bench_results = unused_of b bench.results;
  core_arguments = unused_of c core.arguments;
  core_results = unused_of d core.results;
  arguments = routine.arguments.now;
  results = routine.results.now;
  kept = routine.kept.bits;
  body = routine.body.now;
  world = world;
  budget = budget;
}

-- every answer of what came before: of the bench's two piles, then of the core's
abbrev pub all_answers_before : Setting → List Heard
all_answers_before s =
    (answers_of_past s.bench_arguments ++ answers_of_past s.bench_results)
    ++ (answers_of_past s.core_arguments ++ answers_of_past s.core_results)

-- what was heard of the calls before, what a call leaves, and what it answers
pub record End : Type 0 where
  pub heard : List Heard
  pub sides : Sides
  pub world : World
  pub answer : Result Ran CallFault

-- where there was nothing to hear
abbrev pub unheard : Sides → World → Result Ran CallFault → End
unheard sides world answer = record { heard = []; sides = sides; world = world; answer = answer }

-- whatever came before, a reopened allocation is a newly opened one
abbrev pub reopened_sides : Setting → Sides
reopened_sides s = record {
  bench_arguments = opened s.bench_arguments.profile;
  bench_results = opened s.bench_results.profile;
  core_arguments = opened s.core_arguments.profile;
  core_results = opened s.core_results.profile;
}

-- each is asked for its part of the signature
abbrev pub placement_in : Setting → Placement
placement_in s = placement (reopened_sides s) s.arguments s.results

-- the call of these allocations as they stand
abbrev pub standing_in : Setting → Sides → Standing
standing_in s sides = record {
  sides = sides;
  kept = s.kept;
  body = s.body;
  world = s.world;
  budget = s.budget;
}

-- each allocation lived through what came before, a reopening, and what it was asked in the call
pub record EachLived (s : Setting) (e : Sides) : Type 0 where
  pub bench_arguments :
      Lived (reopened_for (placement_in s).bench_arguments.asked s.bench_arguments) e.bench_arguments
  pub bench_results :
      Lived (reopened_for (placement_in s).bench_results.asked s.bench_results) e.bench_results
  pub core_arguments :
      Lived (reopened_for (placement_in s).core_arguments.asked s.core_arguments) e.core_arguments
  pub core_results :
      Lived (reopened_for (placement_in s).core_results.asked s.core_results) e.core_results

pub record NothingGoesAstray (s : Setting) (e : End) : Type 0 where
  pub every_answer_before_was_by_the_rules_and_heard : e.heard ≡ all_answers_before s
  -- bench, then core, was asked for the signature up to the first refusal
  pub sides_are_placed_by_the_rules : e.sides ≡ sides_of (placement_in s)
  pub each_allocation_is_lawful_at_every_moment : EachLived s e.sides
  pub equal_requests_for_arguments_get_equal_answers :
      EqualRequestsGetEqualAnswers s.bench_arguments.profile s.core_arguments.profile
  pub equal_requests_for_results_get_equal_answers :
      EqualRequestsGetEqualAnswers s.bench_results.profile s.core_results.profile
  -- the first fault of placing, of the caller's code, of the callee's code, or of the memory
  pub refused_with_the_first_fault :
      fault_in e.answer ≡
      first_of (placement_in s).core_results.fault (coding_fault (standing_in s e.sides))
  -- the line of the stage that refused, where one did
  pub refusal_of_a_pile_has_the_blamed_line :
      line_in e.answer ≡ placement_line (reopened_sides s) s.arguments s.results
  pub came_out_by_the_rules_of_code_and_machine : CameOut (standing_in s e.sides) e.world e.answer
  pub a_call_that_is_not_refused_is_placed :
      (r : Ran) → e.answer ≡ Ok r → Placed s.arguments s.results e.sides
  pub a_budget_of_512_covers_both_codes :
      (r : Ran) → e.answer ≡ Ok r → r.caller_length + r.callee_length ≤ 512
  pub stack_bytes_and_offsets_are_within_bounds :
      (r : Ran) → e.answer ≡ Ok r → IsWithinBounds (standing_in s e.sides) r
  pub no_argument_or_result_goes_astray :
      (r : Ran) → e.answer ≡ Ok r → SidesAlike (reopened_sides s) →
      Provided (standing_in s e.sides) r → (p q : Contents) × Delivered (standing_in s e.sides) e.world r p q

-- what a call leaves and answers follows from what it starts from
abbrev pub OneEndForEachSetting : Type 0
OneEndForEachSetting =
    (s : Setting) (e f : End) → NothingGoesAstray s e → NothingGoesAstray s f → e ≡ f
