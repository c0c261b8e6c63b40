-- The worked call delivers, by what a call promises.
use Rattle.std.proofs.Common.{◌≡◌, ℕ, ◌+◌, ◌≤◌, List, [], ◌∷◌, length, Some, None, Ok, Err, Option, Result, slice_index, slice_set, refl, sym, ap, ◌∙◌, subst, arith}
use Rattle.std.proofs.lemmas.List.{get_or-set_same}
use Rattle.origins.specs.Faults.{Fault}
use Rattle.histories.specs.Events.{Used}
use Rattle.machine.specs.Machine.{Contents, reg}
use Rattle.delivery.specs.Code.{saved}
use Rattle.emit.specs.Coding.{caller_fault, callee_fault}
use Rattle.call.specs.Astray.{Setting, End, NothingGoesAstray, unused, placement_in, standing_in, reopened_sides}
use Rattle.call.specs.Calls.{World, first_of, fault_in, memory_fault, RunBy, CameOut, bench_code, core_code}
use Rattle.call.specs.Placing.{Sides, sides_of}
use Rattle.call.specs.Standing.{Provided, Delivered, SidesAlike, homes_of}
use Rattle.call.specs.declared.ran.Ran.{Ran}
use Rattle.call_faults.specs.declared.CallFault.{CallFault}
use Rattle.worked.specs.Cases.{u1, u2, s8}
use Rattle.worked.specs.Deliveries.{pair, kept, body, worked_standing, WorkedCallDelivers}
use Rattle.worked.specs.Piles.{wide}

abbrev pub worked_setting : World → Setting
worked_setting w = record {
  bench_arguments = unused wide;
  bench_results = unused pair;
  core_arguments = unused wide;
  core_results = unused pair;
  arguments = u1 ∷ s8 ∷ u2 ∷ [];
  results = s8 ∷ [];
  kept = kept;
  body = body;
  world = w;
  budget = 512;
}

-- the setting of a call of unused piles with these profiles
pub same_setting : (a b c d : Used) (w : World) → a ≡ unused wide → b ≡ unused pair → c ≡ unused wide → d ≡ unused pair →
    ◌≡◌ {A = Setting} (record { bench_arguments = a; bench_results = b; core_arguments = c; core_results = d; arguments = u1 ∷ s8 ∷ u2 ∷ []; results = s8 ∷ []; kept = kept; body = body; world = w; budget = 512 }) (worked_setting w)
same_setting a b c d w e f g h = rw (e, f, g, h) refl

-- where the stack pointer is put
pub pointer_stands : (registers : List ℕ) → length registers ≡ 32 → slice_index (slice_set registers 31 512) 31 ≡ 512
pointer_stands registers e = get_or-set_same registers 31 512 0 (omega (arith, e))

-- an answer without a fault is what ran
ran_of : (a : Result Ran CallFault) → fault_in a ≡ None → (r : Ran) × (a ≡ Ok r)
ran_of (Ok r) e = (r, refl)
ran_of (Err f) e = absurd (let w : ◌≡◌ {A = ℕ} 0 1 = cc in omega arith)

module _ (w : World) (e : End) (n : NothingGoesAstray (worked_setting w) e) where
  -- the sides after placing
  abbrev placed : Sides
  placed = sides_of (placement_in (worked_setting w))

  -- why it would be refused, by the room in both lists and the bytes of memory
  abbrev refusal : ℕ → ℕ → ℕ → Option Fault
  refusal a b c =
      first_of (caller_fault placed.bench_arguments placed.bench_results kept a)
      (first_of (callee_fault placed.core_arguments placed.core_results kept body b) (memory_fault c))

  module _ (room : length w.caller ≡ 32) (room_too : length w.callee ≡ 32) (bytes : length w.contents.mem ≡ 1024) (pointer : reg w.contents 31 ≡ 512) where
    not_refused : fault_in e.answer ≡ None
    unfolding saved
    not_refused =
        n.refused_with_the_first_fault
        ∙ ap (λ (z : Sides). first_of (caller_fault z.bench_arguments z.bench_results kept (length w.caller)) (first_of (callee_fault z.core_arguments z.core_results kept body (length w.callee)) (memory_fault (length w.contents.mem)))) n.sides_are_placed_by_the_rules
        ∙ (ap (λ a. refusal a (length w.callee) (length w.contents.mem)) room
        ∙ (ap (λ b. refusal 32 b (length w.contents.mem)) room_too
        ∙ ap (refusal 32 32) bytes))

    abbrev r : Ran
    r = (ran_of e.answer not_refused).0

    answered : e.answer ≡ Ok r
    answered = (ran_of e.answer not_refused).1

    run : RunBy (standing_in (worked_setting w) placed) e.world r
    run =
        subst (λ (z : Sides). RunBy (standing_in (worked_setting w) z) e.world r) n.sides_are_placed_by_the_rules
        (subst (CameOut (standing_in (worked_setting w) e.sides) e.world) answered n.came_out_by_the_rules_of_code_and_machine)

    caller_length : r.caller_length ≡ 11
    caller_length = run.length_of_the_caller_code

    callee_length : r.callee_length ≡ 14
    unfolding saved
    callee_length = run.length_of_the_callee_code

    block : r.block ≡ 8
    block = run.stack_bytes_of_the_caller

    frame : r.frame ≡ 32
    unfolding saved
    frame = run.stack_bytes_of_the_callee

    homes : homes_of e.sides ≡ 32
    homes = ap homes_of n.sides_are_placed_by_the_rules

    provided : Provided (standing_in (worked_setting w) e.sides) r
    provided = record {
      stack_is_deep_enough = omega (arith, block, frame, pointer);
      homes_are_within_memory = omega (arith, pointer, homes, bytes);
      budget_covers_both_codes = omega (arith, caller_length, callee_length);
    }

    alike : SidesAlike (reopened_sides (worked_setting w))
    alike = record {
      for_arguments = record { equal_first_books = refl; equal_answers_to_questions = refl };
      for_results = record { equal_first_books = refl; equal_answers_to_questions = refl };
    }

    pub worked_call_delivers : WorkedCallDelivers w.contents e.world.contents e.answer
    worked_call_delivers =
        let came = n.no_argument_or_result_goes_astray r answered alike provided in
        let arrived : Delivered (worked_standing w) e.world r came.0 came.1 =
        subst (λ (z : Sides). Delivered (standing_in (worked_setting w) z) e.world r came.0 came.1) n.sides_are_placed_by_the_rules came.2 in
        record {
          before = w;
          after = e.world;
          begins_with_these_contents = refl;
          ends_with_these_contents = refl;
          ran = r;
          is_not_refused = answered;
          is_run_by_the_rules = run;
          steps_are_one_for_each_record = arrived.steps_are_the_sum_of_both_code_lengths ∙ omega (arith, caller_length, callee_length);
          stack_bytes_of_the_caller = block;
          stack_bytes_of_the_callee = frame;
          arguments_travel_so = refl;
          result_travels_so = refl;
          body_begins_with = came.0;
          body_ends_with = came.1;
          arguments_and_result_are_delivered = arrived;
        }

-- the same of what a call of these unused piles promises
pub delivers_as_promised : (a b c d : Used) (w : World) (e : End) → a ≡ unused wide → b ≡ unused pair → c ≡ unused wide → d ≡ unused pair →
    length w.caller ≡ 32 → length w.callee ≡ 32 → length w.contents.mem ≡ 1024 → reg w.contents 31 ≡ 512 →
    NothingGoesAstray (record { bench_arguments = a; bench_results = b; core_arguments = c; core_results = d; arguments = u1 ∷ s8 ∷ u2 ∷ []; results = s8 ∷ []; kept = kept; body = body; world = w; budget = 512 }) e →
    WorkedCallDelivers w.contents e.world.contents e.answer
delivers_as_promised a b c d w e e₁ e₂ e₃ e₄ room room_too bytes pointer n =
    worked_call_delivers w e (subst (λ (z : Setting). NothingGoesAstray z e) (same_setting a b c d w e₁ e₂ e₃ e₄) n) room room_too bytes pointer
