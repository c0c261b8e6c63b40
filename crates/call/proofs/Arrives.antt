-- A call of places that both sides were given alike, coded and run, delivers.
use Rattle.std.proofs.Common.{◌≡◌, ℕ, ◌+◌, ◌≤◌, List, length, None, Option, sym, ap, ◌∙◌, subst, arith}
use Rattle.std.specs.List.{AllByRecursion}
use Rattle.stage.specs.Books.{Profile, Alike}
use Rattle.stage.specs.Faults.{Fault}
use Rattle.stage.specs.Lawful.{Lawful}
use Rattle.place.specs.Holdings.{Holding}
use Rattle.allocation.specs.States.{State, opened}
use Rattle.allocation.specs.declared.asked.Asked.{Asked}
use Rattle.histories.specs.Histories.{placed_all}
use Rattle.histories.proofs.Twins.{twins_all, newly_twins}
use Rattle.machine.specs.Laws.{Holds}
use Rattle.machine.specs.Machine.{Contents, Run, reg, running, outcome_of}
use Rattle.machine.specs.declared.Instruction.{Instruction}
use Rattle.machine.specs.declared.Side.TheVariants.{Caller}
use Rattle.delivery.specs.Bodies.{body_fault}
use Rattle.delivery.specs.Code.{home_bytes, saved, frame_bytes, caller_code, callee_code}
use Rattle.delivery.proofs.Ready.{Sane, Ready}
use Rattle.delivery.specs.Delivering.{Sized, Delivers, BodyRuns, index_of_body, steps_to_body}
use Rattle.delivery.proofs.Running.{run_delivers_through_the_body}
use Rattle.emit.specs.Coding.{block_bytes, places_fault, caller_fault, callee_fault}
use Rattle.readiness.proofs.Accepted.{results_few}
use Rattle.readiness.proofs.Codes.{codes_have_at_most_512_records}
use Rattle.readiness.proofs.Placed.{held_few}
use Rattle.readiness.proofs.Readied.{placed_and_coded_is_ready}
use Rattle.call.specs.Placing.{Sides}
use Rattle.call.specs.Calls.{World, Standing, RunBy, bench_code, core_code, first_of, memory_fault, coding_fault}
use Rattle.call.specs.Standing.{Provided, Delivered}
use Rattle.call.specs.declared.ran.Ran.{Ran}
use Rattle.call.proofs.Accepts.{no_fault_of_places, places_before_body, body_too}
use Rattle.call.proofs.Firsts.{none_first, none_next}
use Rattle.call.proofs.Fronts.{holds_front}

-- equal places, equal codes
same_callee : (a c b d : List Holding) (kept : ℕ) (body : List Instruction) → a ≡ c → b ≡ d → callee_code c d kept body ≡ callee_code a b kept body
same_callee a c b d kept body e f = ap (λ (z : List Holding). callee_code z d kept body) (sym e) ∙ ap (λ (z : List Holding). callee_code a z kept body) (sym f)

same_frame : (a c b d : List Holding) (rs : List ℕ) → a ≡ c → b ≡ d → frame_bytes c d rs ≡ frame_bytes a b rs
same_frame a c b d rs e f = ap (λ (z : List Holding). frame_bytes z d rs) (sym e) ∙ ap (λ (z : List Holding). frame_bytes a z rs) (sym f)

-- four piles, each newly opened and asked for its list
module _ (pa pb pc pd : Profile) (arguments results : List Asked) where
  abbrev a : State
  a = placed_all (opened pa) arguments

  abbrev b : State
  b = placed_all (opened pb) results

  abbrev c : State
  c = placed_all (opened pc) arguments

  abbrev d : State
  d = placed_all (opened pd) results

  abbrev pub placed_sides : Sides
  placed_sides = record { bench_arguments = a; bench_results = b; core_arguments = c; core_results = d }

  module _ (kept : ℕ) (body : List Instruction) (world : World) (budget : ℕ) where
    abbrev pub placed_standing : Standing
    placed_standing = record { sides = placed_sides; kept = kept; body = body; world = world; budget = budget }

    module _ (none : None ≡ coding_fault placed_standing) where
      abbrev later : Option Fault
      later = first_of (callee_fault c d kept body (length world.callee)) (memory_fault (length world.contents.mem))

      callee_none : None ≡ callee_fault c d kept body (length world.callee)
      callee_none = none_first (callee_fault c d kept body (length world.callee)) (memory_fault (length world.contents.mem)) (none_next (caller_fault a b kept (length world.caller)) later none)

      bench_passes : places_fault a b kept ≡ None
      bench_passes = no_fault_of_places (places_fault a b kept) _ _ (none_first (caller_fault a b kept (length world.caller)) later none)

      core_passes : places_fault c d kept ≡ None
      core_passes = places_before_body (places_fault c d kept) _ (no_fault_of_places _ _ _ callee_none)

      body_passes : body_fault (home_bytes (length c.held + length d.held)) body 0 ≡ None
      body_passes = body_too (places_fault c d kept) _ (no_fault_of_places _ _ _ callee_none)

      pub codes_are_short : length (bench_code placed_sides) + length (core_code placed_sides kept body) ≤ 512
      codes_are_short =
          codes_have_at_most_512_records a.held b.held c.held d.held (block_bytes a) kept body
          (held_few pa arguments) (results_few a b kept bench_passes)
          (held_few pc arguments) (results_few c d kept core_passes) body_passes

      pub few_places : (length a.held + length b.held ≤ 20) × (length c.held + length d.held ≤ 20)
      few_places =
          let first = held_few pa arguments in
          let second = results_few a b kept bench_passes in
          let third = held_few pc arguments in
          let fourth = results_few c d kept core_passes in (omega (arith, first, second), omega (arith, third, fourth))

      module _ (la : Lawful pa.questions pa.first) (lb : Lawful pb.questions pb.first) (for_arguments : Alike pa pc) (for_results : Alike pb pd)
          (sane : Sane world.contents) (sized : AllByRecursion Sized body) (new : World) (r : Ran) (ran : RunBy placed_standing new r) (given : Provided placed_standing r) where
        abbrev x : Contents
        x = world.contents

        abbrev callee : List Instruction
        callee = callee_code a.held b.held kept body

        same_arguments : a.held ≡ c.held
        same_arguments = (twins_all arguments _ _ (newly_twins pa pc for_arguments)).held

        same_results : b.held ≡ d.held
        same_results = (twins_all results _ _ (newly_twins pb pd for_results)).held

        same_code : core_code placed_sides kept body ≡ callee
        same_code = same_callee a.held c.held b.held d.held kept body same_arguments same_results

        frame : r.frame ≡ frame_bytes a.held b.held (saved kept body)
        frame = ran.stack_bytes_of_the_callee ∙ same_frame a.held c.held b.held d.held (saved kept body) same_arguments same_results

        ready : Ready a.held b.held kept body (block_bytes a) x
        ready =
            let accepted : body_fault (home_bytes (length a.held + length b.held)) body 0 ≡ None = ap (λ (z : List Holding). body_fault (home_bytes (length z + length b.held)) body 0) same_arguments ∙ (ap (λ (z : List Holding). body_fault (home_bytes (length c.held + length z)) body 0) same_results ∙ body_passes) in
            let deep : block_bytes a + frame_bytes a.held b.held (saved kept body) ≤ reg x 31 = subst (λ (n : ℕ). n ≤ reg x 31) (ap (λ (n : ℕ). n + r.frame) ran.stack_bytes_of_the_caller ∙ ap (λ (n : ℕ). block_bytes a + n) frame) given.stack_is_deep_enough in
            placed_and_coded_is_ready pa pb arguments results kept body x la lb bench_passes accepted sized sane deep given.homes_are_within_memory

        total : length (caller_code a.held b.held (block_bytes a)) + length callee ≡ r.caller_length + r.callee_length
        total = ap (λ (n : ℕ). n + length callee) (sym ran.length_of_the_caller_code) ∙ ap (λ (n : ℕ). r.caller_length + n) (sym (ran.length_of_the_callee_code ∙ ap length same_code))

        pub arrives : (p q : Contents) × Delivered placed_standing new r p q
        arrives =
            let holds : Holds new.caller 0 (bench_code placed_sides) = subst (λ (z : List Instruction). Holds z 0 (bench_code placed_sides)) (sym ran.caller_code_is_at_the_front_and_the_rest_untouched) (holds_front (bench_code placed_sides) _) in
            let holds_too : Holds new.callee 0 callee = subst (λ (z : List Instruction). Holds new.callee 0 z) same_code (subst (λ (z : List Instruction). Holds z 0 (core_code placed_sides kept body)) (sym ran.callee_code_is_at_the_front_and_the_rest_untouched) (holds_front (core_code placed_sides kept body) _)) in
            let enough = subst (λ (n : ℕ). n ≤ budget) (sym total) given.budget_covers_both_codes in
            let got = run_delivers_through_the_body a.held b.held kept body (block_bytes a) x ready new.caller new.callee holds holds_too budget enough in
            let run = got.3 in
            let last = ran.contents_are_those_at_the_end ∙ ap (λ (z : Run). z.last.contents) run in (
              got.0,
              got.1,
              record {
                run_ends = ran.outcome_is_that_of_the_last_state ∙ ap (λ (z : Run). outcome_of new.caller new.callee z.last) run;
                steps_are_the_sum_of_both_code_lengths = ran.steps_are_those_of_the_run ∙ ap (λ (z : Run). z.steps) run ∙ total;
                run_goes_through_the_body = subst (λ (n : ℕ). BodyRuns new.caller new.callee (running Caller 0 x) body (index_of_body a.held b.held kept body) (steps_to_body a.held b.held kept body n) got.0 got.1) (sym ran.stack_bytes_of_the_caller) got.4;
                arguments_and_results_are_delivered_and_nothing_else_changes =
                    subst (λ (n : ℕ). Delivers a.held b.held kept body n x got.0 got.1 new.contents) (sym ran.stack_bytes_of_the_caller) (subst (Delivers a.held b.held kept body (block_bytes a) x got.0 got.1) (sym last) got.5);
              },
            )
