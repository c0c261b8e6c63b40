-- A call from bench to core: why it is refused, and what it makes of lists, registers and memory.
use Rattle.std.specs.Prelude.{◌≡◌, ℕ, List, ◌++◌, length, drop, Some, None, Ok, Err, Option, Result}
use Rattle.stage.specs.Faults.{Fault}
use Rattle.stage.specs.declared.Stage.{Ghosts}
use Rattle.allocation.specs.Faults.{cause_line}
use Rattle.allocation.specs.declared.shared.Allocation.{Allocation}
pub use Rattle.machine.specs.Faults.{memory_fault}
use Rattle.machine.specs.Machine.{Contents, Run, running, runs, outcome_of}
use Rattle.machine.specs.declared.Instruction.{Instruction}
use Rattle.machine.specs.declared.Side.TheVariants.{Caller}
use Rattle.delivery.specs.Code.{caller_code, callee_code, saved, frame_bytes}
use Rattle.emit.specs.Coding.{block_bytes, caller_fault, callee_fault}
use Rattle.call.specs.Placing.{Sides, both_sides}
pub use Rattle.call_faults.specs.Faults.{call_fault_of, fault_in}
use Rattle.call_faults.specs.declared.CallFault.{CallFault}
use Rattle.call_faults.specs.declared.CallFault.TheVariants as Faults
use Rattle.call.specs.declared.ran.Ran.{Ran}
use Rattle.call.specs.declared.sides.Side.{Side}

-- the line of the stage that refused, where a pile did
abbrev pub call_line_of : CallFault → Option ℕ
call_line_of (Faults.Placement f) = cause_line f.cause
call_line_of (Faults.Code f) = None
call_line_of (Faults.Run f) = None

abbrev pub line_in : {X : Type 0} → Result X CallFault → Option ℕ
line_in (Ok x) = None
line_in (Err f) = call_line_of f

-- a fault, or else the next one
abbrev pub first_of : Option Fault → Option Fault → Option Fault
first_of (Some f) next = Some f
first_of None next = next

abbrev pub bench_code : Sides → List Instruction
bench_code s = caller_code s.bench_arguments.held s.bench_results.held (block_bytes s.bench_arguments)

abbrev pub core_code : Sides → ℕ → List Instruction → List Instruction
core_code s kept body = callee_code s.core_arguments.held s.core_results.held kept body

-- the lists, and the registers and memory
pub record World : Type 0 where
  pub caller : List Instruction
  pub callee : List Instruction
  pub contents : Contents

abbrev pub world_of : List Instruction → List Instruction → List ℕ → List ℕ → World
world_of caller callee registers memory = record {
  caller = caller;
  callee = callee;
  contents = record { regs = registers; mem = memory };
}

-- what a call of allocations as they stand starts from
pub record Standing : Type 0 where
  pub sides : Sides
  pub kept : ℕ
  pub body : List Instruction
  pub world : World
  pub budget : ℕ

-- by the ghost members of their piles
abbrev pub standing_of : {A B C D S : Type 0} → Ghosts A → Ghosts B → Ghosts C → Ghosts D →
    Side (Allocation A S) (Allocation B S) → Side (Allocation C S) (Allocation D S) →
    ℕ → List Instruction → World → ℕ → Standing
standing_of a b c d bench core kept body world budget = record {
  sides = both_sides a b c d bench core;
  kept = kept;
  body = body;
  world = world;
  budget = budget;
}

-- why allocations are not called, by the room in both lists and the bytes of the memory: a fault of the caller's code, of
-- the callee's, or of the memory
abbrev pub coding_fault_of : Sides → ℕ → List Instruction → ℕ → ℕ → ℕ → Option Fault
coding_fault_of s kept body room room' bytes =
    first_of (caller_fault s.bench_arguments s.bench_results kept room)
    (first_of (callee_fault s.core_arguments s.core_results kept body room') (memory_fault bytes))

abbrev pub coding_fault : Standing → Option Fault
coding_fault z =
    coding_fault_of z.sides z.kept z.body
    (length z.world.caller) (length z.world.callee) (length z.world.contents.mem)

-- code at the front of a list, with the rest as before
abbrev pub at_front : List Instruction → List Instruction → List Instruction
at_front made old = made ++ drop (length made) old

-- the machine's run of both lists, from the contents lent and within the budget
abbrev pub run_of : Standing → World → Run
run_of z new = runs new.caller new.callee z.budget (running Caller 0 z.world.contents)

-- a call that was run: both codes stand in their lists, and registers and memory are those at the run's end
pub record RunBy (z : Standing) (new : World) (r : Ran) : Type 0 where
  pub caller_code_is_at_the_front_and_the_rest_untouched :
      new.caller ≡ at_front (bench_code z.sides) z.world.caller
  pub callee_code_is_at_the_front_and_the_rest_untouched :
      new.callee ≡ at_front (core_code z.sides z.kept z.body) z.world.callee
  pub length_of_the_caller_code : r.caller_length ≡ length (bench_code z.sides)
  pub length_of_the_callee_code : r.callee_length ≡ length (core_code z.sides z.kept z.body)
  pub stack_bytes_of_the_caller : r.block ≡ block_bytes z.sides.bench_arguments
  pub stack_bytes_of_the_callee :
      r.frame ≡
      frame_bytes z.sides.core_arguments.held z.sides.core_results.held (saved z.kept z.body)
  pub contents_are_those_at_the_end : new.contents ≡ (run_of z new).last.contents
  pub outcome_is_that_of_the_last_state :
      r.outcome ≡ outcome_of new.caller new.callee (run_of z new).last
  pub steps_are_those_of_the_run : r.steps ≡ (run_of z new).steps

-- a call that is refused leaves lists, registers and memory as they were
abbrev pub CameOut : Standing → World → Result Ran CallFault → Type 0
CameOut z new (Ok r) = RunBy z new r
CameOut z new (Err f) = new ≡ z.world
