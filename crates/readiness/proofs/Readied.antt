-- What was placed and coded is ready to run.
use Rattle.std.proofs.Common.{◌≡◌, ℕ, ◌+◌, ◌≤◌, true, List, length, None, sym, ap, ◌∙◌, arith}
use Rattle.std.specs.List.{AllByRecursion}
use Rattle.machine.specs.Machine.{Contents, reg}
use Rattle.machine.specs.declared.Instruction.{Instruction}
use Rattle.place.specs.Pieces.{Below}
use Rattle.place.specs.Registers.{apart}
use Rattle.place.specs.declared.pieces.Piece.{Piece}
use Rattle.place.specs.declared.pieces.Piece.TheVariants.{Register, Block}
use Rattle.stage.specs.Books.{Profile, used}
use Rattle.stage.specs.Lawful.{Lawful}
use Rattle.allocation.specs.States.{State, opened}
use Rattle.histories.proofs.Leaving.{profile_stays}
use Rattle.histories.specs.Histories.{placed_all}
use Rattle.allocation.specs.declared.asked.Asked.{Asked}
use Rattle.delivery.proofs.Places.{all_pieces_weaker}
use Rattle.delivery.proofs.Ready.{Sane, Ready}
use Rattle.delivery.specs.Bodies.{body_fault}
use Rattle.delivery.specs.Code.{stack_bytes, home_bytes, saved, frame_bytes}
use Rattle.delivery.specs.Delivering.{Sized}
use Rattle.emit.specs.Coding.{block_bytes, places_fault}
use Rattle.readiness.proofs.Accepted.{passed, low_registers, all_spared, all_in_registers}
use Rattle.readiness.proofs.Placed.{held_few, held_fits, held_in_set, held_below, held_apart, used_at_most_4096}

-- rounding up keeps what ends within
ends_by : (n : ℕ) (x : Piece) → Below n x → Below (stack_bytes n) x
ends_by n (Register d) h = tt
ends_by n (Block o w) h = omega arith

rounds_within : (n : ℕ) → n ≤ 4096 → stack_bytes n ≤ 4096
rounds_within n l = omega arith

-- the registers of a pile after requests are those that it was opened with
own_registers : (kept : ℕ) (p : Profile) (qs : List Asked) → apart kept (placed_all (opened p) qs).profile.questions.registers ≡ true → apart kept p.questions.registers ≡ true
own_registers kept p qs e = ap (λ (x : Profile). apart kept x.questions.registers) (sym (profile_stays qs (opened p))) ∙ e

-- what was placed by lawful piles since they were opened, and is accepted by both code calls, is ready to run
pub placed_and_coded_is_ready :
    (p q : Profile) (us vs : List Asked) (kept : ℕ) (body : List Instruction) (x : Contents) →
    Lawful p.questions p.first → Lawful q.questions q.first →
    places_fault (placed_all (opened p) us) (placed_all (opened q) vs) kept ≡ None →
    body_fault (home_bytes (length (placed_all (opened p) us).held + length (placed_all (opened q) vs).held)) body 0 ≡ None →
    AllByRecursion Sized body → Sane x →
    block_bytes (placed_all (opened p) us) + frame_bytes (placed_all (opened p) us).held (placed_all (opened q) vs).held (saved kept body) ≤ reg x 31 →
    reg x 31 + home_bytes (length (placed_all (opened p) us).held + length (placed_all (opened q) vs).held) ≤ length x.mem →
    Ready (placed_all (opened p) us).held (placed_all (opened q) vs).held kept body (block_bytes (placed_all (opened p) us)) x
placed_and_coded_is_ready p q us vs kept body x l m e f sized sane deep within =
    let a : State = placed_all (opened p) us in
    let r : State = placed_all (opened q) vs in
    let got = passed a r kept e in
    record {
      contents_are_sane = sane;
      arguments_fit = held_fits p us l;
      results_fit = held_fits q vs m;
      arguments_are_apart = held_apart p us l;
      results_are_apart = held_apart q vs m;
      arguments_are_at_most_16 = held_few p us;
      results_are_at_most_4 = got.at_most_4;
      block_ends_by_b = all_pieces_weaker (Below (used a.book)) (Below (stack_bytes (used a.book))) (ends_by (used a.book)) a.held (held_below p us l);
      block_is_at_most_4096_bytes = rounds_within (used a.book) (used_at_most_4096 p us l);
      results_travel_in_registers = all_in_registers r.held (held_fits q vs m) got.none_in_block;
      kept_registers_are_r0_to_r27 = λ d h. let below = low_registers 28 kept d got.low h in omega arith;
      no_argument_has_a_kept_register = all_spared kept p.questions.registers a.held (own_registers kept p us got.apart_from_arguments) (held_in_set p us l);
      no_result_has_a_kept_register = all_spared kept q.questions.registers r.held (own_registers kept q vs got.apart_from_results) (held_in_set q vs m);
      body_has_no_fault = f;
      body_is_sized = sized;
      stack_is_deep_enough = deep;
      homes_are_within_memory = within;
    }
