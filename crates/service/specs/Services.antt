-- A service: what it is, and what comes of a call.
use Rattle.std.specs.Prelude.{◌≡◌, ℕ, List, map, Some, None, Err, Result}
use Rattle.values.specs.declared.value_type.ValueType.{ValueType}
use Rattle.stage.specs.Faults.{Fault}
use Rattle.stage.specs.declared.Stage.{Ghosts}
use Rattle.allocation.specs.States.{opened, always_placed}
use Rattle.allocation.specs.declared.asked.Asked.{Asked}
use Rattle.histories.specs.Laws.{asked_for}
use Rattle.machine.specs.declared.Instruction.{Instruction}
use Rattle.signatures.specs.Signatures.{signature_bytes, IsProper}
use Rattle.signatures.specs.Faults.{line_at, fault_at}
use Rattle.signatures.specs.declared.fault.SignatureFault.{SignatureFault}
use Rattle.signatures.specs.declared.signature.Signature.{Signature}
use Rattle.call.specs.Placing.{Sides, both_sides}
use Rattle.call.specs.Calls.{World}
use Rattle.call.specs.Astray.{Setting, unused, unheard, NothingGoesAstray}
use Rattle.call.specs.declared.ran.Ran.{Ran}
use Rattle.call_faults.specs.declared.CallFault.{CallFault}
use Rattle.service.specs.Faults.{fault_of, answer_of}
use Rattle.service.specs.declared.faults.Fault.{Fault as AnyFault}
use Rattle.service.specs.declared.faults.Fault.TheVariants as Faults
use Rattle.service.specs.declared.services.Convention.{Convention}
use Rattle.service.specs.declared.services.Service.{Service}
use Rattle.service.specs.declared.services.AlwaysPlaced.{AlwaysPlaced}
use Rattle.service.specs.declared.services.Answered.{Answered}

-- what a service is: its four allocations, and the registers that a routine keeps
pub record ServiceState : Type 0 where
  pub sides : Sides
  pub kept : ℕ

abbrev pub service_state : {P : Type 0} → Ghosts P → Service P → ServiceState
service_state g s = record { sides = both_sides g g g g s.bench s.core; kept = s.kept.bits }

-- a service that was just opened: a routine keeps what the bench's description says
abbrev pub opened_service : {P : Type 0} → Ghosts P → Convention P → Convention P → ServiceState
opened_service g bench core = record {
  sides = record {
    bench_arguments = opened (g.profile bench.arguments);
    bench_results = opened (g.profile bench.results);
    core_arguments = opened (g.profile core.arguments);
    core_results = opened (g.profile core.results);
  };
  kept = bench.kept.bits;
}

-- each pile is sound, and endless for the type
pub record AlwaysPlacedOn (s : ServiceState) (t : ValueType) (a : AlwaysPlaced) : Type 0 where
  pub as_argument_of_the_bench : a.bench_arguments ≡ always_placed s.sides.bench_arguments.profile.questions t
  pub as_result_of_the_bench : a.bench_results ≡ always_placed s.sides.bench_results.profile.questions t
  pub as_argument_of_the_core : a.core_arguments ≡ always_placed s.sides.core_arguments.profile.questions t
  pub as_result_of_the_core : a.core_results ≡ always_placed s.sides.core_results.profile.questions t

-- what a call starts from
pub record Start : Type 0 where
  pub service : ServiceState
  pub list : List ℕ
  pub line : ℕ
  pub body : List Instruction
  pub budget : ℕ
  pub world : World

-- what it leaves, and what it answers
pub record Finish : Type 0 where
  pub service : ServiceState
  pub world : World
  pub answer : Result Ran AnyFault

-- a call of a service by a line of a list
abbrev pub start_of : {P : Type 0} → Ghosts P → Service P → List ℕ → ℕ → List Instruction → ℕ → World → Start
start_of g s list line body budget world = record {
  service = service_state g s;
  list = list;
  line = line;
  body = body;
  budget = budget;
  world = world;
}

abbrev pub finish_of : {P : Type 0} → Ghosts P → Answered P → World → Finish
finish_of g a world = record {
  service = service_state g a.service;
  world = world;
  answer = a.answer;
}

-- the requests for the types of a signature, each at its own alignment
abbrev pub requests_of : List ValueType → List Asked
requests_of = map asked_for

-- a call with these requests: by the profiles alone, since of what came to the service before nothing is left
abbrev pub setting_of : ServiceState → List Instruction → ℕ → World → List Asked → List Asked → Setting
setting_of s body budget world arguments results = record {
  bench_arguments = unused s.sides.bench_arguments.profile;
  bench_results = unused s.sides.bench_results.profile;
  core_arguments = unused s.sides.core_arguments.profile;
  core_results = unused s.sides.core_results.profile;
  arguments = arguments;
  results = results;
  kept = s.kept;
  body = body;
  world = world;
  budget = budget;
}

-- nothing went astray in the call, and its fault, if it has one, is answered by its layer
pub record SignatureCalled (s : ServiceState) (body : List Instruction) (budget : ℕ) (world : World) (arguments results : List Asked) (f : Finish) : Type 0 where
  pub kept_set_stays : f.service.kept ≡ s.kept
  pub answer : Result Ran CallFault
  pub nothing_goes_astray :
      NothingGoesAstray (setting_of s body budget world arguments results) (unheard f.service.sides f.world answer)
  pub fault_is_that_of_the_call : f.answer ≡ answer_of answer

-- two services that are the same but for what came to them: equal profiles, and an equal kept set
pub record SameService (s t : ServiceState) : Type 0 where
  pub bench_arguments : s.sides.bench_arguments.profile ≡ t.sides.bench_arguments.profile
  pub bench_results : s.sides.bench_results.profile ≡ t.sides.bench_results.profile
  pub core_arguments : s.sides.core_arguments.profile ≡ t.sides.core_arguments.profile
  pub core_results : s.sides.core_results.profile ≡ t.sides.core_results.profile
  pub kept : s.kept ≡ t.kept

-- a line at fault is refused with that fault, and service, lists, registers and memory stay as they were
pub record Refused (s : Start) (f : Finish) (fault : Fault) : Type 0 where
  pub refusal : SignatureFault
  pub answers_the_refusal : f.answer ≡ Err (Faults.Signature refusal)
  pub refusal_is_the_fault : fault_of (Faults.Signature refusal) ≡ Some fault
  pub service_stays : f.service ≡ s.service
  pub lists_registers_and_memory_stay : f.world ≡ s.world

-- what comes of a call by the line of the list: it is at fault, or a proper signature writes it
pub record CameOutByTheLine (s : Start) (f : Finish) : Type 0 where
  pub profiles_and_kept_set_stay : SameService s.service f.service
  pub a_line_at_fault_changes_nothing : (fault : Fault) → fault_at s.list s.line ≡ Some fault → Refused s f fault
  pub the_signature_of_the_line_is_called : (g : Signature) → IsProper g → line_at s.list s.line ≡ Some (signature_bytes g) →
      SignatureCalled s.service s.body s.budget s.world (requests_of g.arguments.items) (requests_of g.results.items) f

-- the same call of another service
abbrev pub with_service : Start → ServiceState → Start
with_service s t = record { service = t; list = s.list; line = s.line; body = s.body; budget = s.budget; world = s.world }

-- what two calls answer and leave; their places too, where the line has a signature
pub record Alike (s : Start) (e f : Finish) : Type 0 where
  pub equal_answers : e.answer ≡ f.answer
  pub equal_lists_registers_and_memory : e.world ≡ f.world
  pub equal_places : fault_at s.list s.line ≡ None → e.service.sides ≡ f.service.sides

-- however unlike what came to them before, services with equal profiles and kept sets answer equal calls alike
abbrev pub EqualServicesAnswerAlike : Type 0
EqualServicesAnswerAlike = (s : Start) (t : ServiceState) (e f : Finish) → SameService s.service t → CameOutByTheLine s e → CameOutByTheLine (with_service s t) f → Alike s e f
