-- No call changes a profile.
use Rattle.std.proofs.Common.{◌≡◌, ℕ, List, Some, None, Option, refl, ap, sym, ◌∙◌}
use Rattle.stage.specs.Faults.{Fault}
use Rattle.allocation.specs.States.{State, opened}
use Rattle.allocation.specs.declared.asked.Asked.{Asked}
use Rattle.histories.proofs.Leaving.{profile_stays}
use Rattle.machine.specs.declared.Instruction.{Instruction}
use Rattle.call.specs.Placing.{Sides, Placement, asked, placing}
use Rattle.call.specs.Calls.{World}
use Rattle.call.specs.Astray.{Setting, placement_in}
use Rattle.service.specs.Services.{ServiceState, Finish, SignatureCalled, SameService, setting_of}

step_profile : (f : Option Fault) (s : State) (qs : List Asked) → (placing f s qs).state.profile ≡ s.profile
step_profile None s qs = profile_stays (asked s qs) s
step_profile (Some f) s qs = refl

pub the_same_service : (s : ServiceState) → SameService s s
the_same_service s = record { bench_arguments = refl; bench_results = refl; core_arguments = refl; core_results = refl; kept = refl }

pub called_stays : (s : ServiceState) (body : List Instruction) (budget : ℕ) (world : World) (arguments results : List Asked) (f : Finish) →
    SignatureCalled s body budget world arguments results f → SameService s f.service
called_stays s body budget world arguments results f called =
    let z : Setting = setting_of s body budget world arguments results in
    let p : Placement = placement_in z in
    let same = called.nothing_goes_astray.sides_are_placed_by_the_rules in
    record {
      bench_arguments = sym (ap (λ (x : Sides). x.bench_arguments.profile) same ∙ step_profile None (opened s.sides.bench_arguments.profile) arguments);
      bench_results = sym (ap (λ (x : Sides). x.bench_results.profile) same ∙ step_profile p.bench_arguments.fault (opened s.sides.bench_results.profile) results);
      core_arguments = sym (ap (λ (x : Sides). x.core_arguments.profile) same ∙ step_profile p.bench_results.fault (opened s.sides.core_arguments.profile) arguments);
      core_results = sym (ap (λ (x : Sides). x.core_results.profile) same ∙ step_profile p.core_arguments.fault (opened s.sides.core_results.profile) results);
      kept = sym called.kept_set_stays;
    }
