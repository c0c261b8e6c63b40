-- How much stack a call takes, and that its offsets are whole.
use Rattle.std.proofs.Common.{◌≡◌, ℕ, ◌+◌, ◌≤◌, List, [], ◌∷◌, ◌++◌, length, drop, Ok, refl, sym, subst, arith}
use Rattle.stage.specs.Lawful.{Lawful}
use Rattle.allocation.specs.Rules.{placed}
use Rattle.allocation.specs.States.{State, opened}
use Rattle.allocation.specs.declared.asked.Asked.{Asked}
use Rattle.histories.specs.Histories.{placed_all}
use Rattle.machine.specs.declared.Instruction.{Instruction}
use Rattle.delivery.proofs.Saving.{saved_few}
use Rattle.delivery.specs.Code.{saved, frame_bytes, callee_code}
use Rattle.emit.proofs.Asking.{requests_get_what_is_held}
use Rattle.emit.proofs.Bounds.{block_of_got, uncut_caller, uncut_callee}
use Rattle.emit.specs.Coding.{block_bytes, HoldsWhatRequestsGot}
use Rattle.call.specs.Calls.{World, Standing, RunBy}
use Rattle.call.specs.Standing.{IsWithinBounds}
use Rattle.call.specs.declared.ran.Ran.{Ran}
use Rattle.call.proofs.Steps.{LawfulPiles}

got_all : (qs : List Asked) (s : State) → HoldsWhatRequestsGot s → HoldsWhatRequestsGot (placed_all s qs)
got_all [] s got = got
got_all (q ∷ qs) s got = got_all qs (placed s q) (requests_get_what_is_held.after_each_request s q got)

-- what placing a list made of a newly opened allocation holds what requests got
pub got_as_placed : (qs : List Asked) (s : State) → s ≡ placed_all (opened s.profile) qs → HoldsWhatRequestsGot s
got_as_placed qs s e = subst HoldsWhatRequestsGot (sym e) (got_all qs (opened s.profile) (requests_get_what_is_held.when_opened s.profile))

module _ (z : Standing) (new : World) (r : Ran) (piles : LawfulPiles z.sides) (ran : RunBy z new r)
    (few : length z.sides.bench_arguments.held + length z.sides.bench_results.held ≤ 20)
    (few_too : length z.sides.core_arguments.held + length z.sides.core_results.held ≤ 20)
    (bench : HoldsWhatRequestsGot z.sides.bench_arguments) (core : HoldsWhatRequestsGot z.sides.core_arguments) (back : HoldsWhatRequestsGot z.sides.core_results) where
  abbrev c : State
  c = z.sides.core_arguments

  abbrev d : State
  d = z.sides.core_results

  abbrev code : List Instruction
  code = callee_code c.held d.held z.kept z.body

  frame : frame_bytes c.held d.held (saved z.kept z.body) ≤ 272
  frame = let s = saved_few z.kept z.body in omega (arith, few_too, s)

  pub within_bounds : IsWithinBounds z r
  within_bounds =
      let block = block_of_got z.sides.bench_arguments piles.bench_arguments bench in
      record {
        caller_takes_at_most_a_block = subst (λ (n : ℕ). n ≤ 4096) (sym ran.stack_bytes_of_the_caller) block;
        callee_takes_at_most_the_largest_frame = subst (λ (n : ℕ). n ≤ 272) (sym ran.stack_bytes_of_the_callee) frame;
        no_offset_of_the_caller_is_cut = uncut_caller z.sides.bench_arguments piles.bench_arguments z.sides.bench_results (Ok (0, 0)) (omega (arith, few)) bench;
        no_offset_of_the_callee_is_cut =
            uncut_callee c piles.core_arguments d piles.core_results z.kept z.body [] (code ++ drop (length code) []) (Ok (length code, frame_bytes c.held d.held (saved z.kept z.body))) (refl, refl, refl) frame (omega (arith, few_too)) core back;
      }
