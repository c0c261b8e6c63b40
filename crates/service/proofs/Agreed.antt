-- A call of a service whose sides agree delivers.
use Rattle.std.proofs.Common.{◌≡◌, ℕ, Option, Some, None, Ok, Err, Result, option_map, refl, sym, ap, ◌∙◌, arith}
use Rattle.std.specs.Result.{result_unwrap_or}
use Rattle.stage.specs.Books.{Profile, Alike}
use Rattle.machine.specs.Machine.{Contents}
use Rattle.signatures.specs.Signatures.{signature_bytes, IsProper}
use Rattle.signatures.specs.Faults.{line_at, at_line, fault_at, signature_fault}
use Rattle.signatures.specs.declared.signature.Signature.{Signature}
use Rattle.signatures.proofs.Written.{faultless_lines_are_signatures}
use Rattle.call.specs.Standing.{Provided, Delivered}
use Rattle.call.specs.declared.ran.Ran.{Ran}
use Rattle.call_faults.specs.declared.CallFault.{CallFault}
use Rattle.service.specs.Agreeing.{SidesAgree, standing_at, EveryCallDelivers}
use Rattle.service.specs.Faults.{answer_of}
use Rattle.service.specs.Services.{ServiceState, Start, Finish, SameService, CameOutByTheLine}
use Rattle.service.specs.declared.faults.Fault.{Fault}

refusal_did_not_run : {X : Type 0} (f : Fault) (r : Ran) → ◌≡◌ {A = Result Ran Fault} (Err f) (Ok r) → X
refusal_did_not_run f r e = absurd (let w : ◌≡◌ {A = ℕ} 0 1 = cc in omega arith)

-- what the service answers that ran, its call answered
that_ran : (a : Result Ran CallFault) (r : Ran) → answer_of a ≡ Ok r → a ≡ Ok r
that_ran (Ok x) r e = ap Ok (ap (λ (z : Result Ran Fault). result_unwrap_or z x) e)
that_ran (Err f) r e = refusal_did_not_run _ r e

module _ (s : Start) (f : Finish) (came : CameOutByTheLine s f) (agree : SidesAgree s.service) (r : Ran) (ran : f.answer ≡ Ok r) (given : Provided (standing_at s f) r) where
  abbrev Arrived : Type 0
  Arrived = (p q : Contents) × Delivered (standing_at s f) f.world r p q

  called : (g : Signature) → IsProper g → line_at s.list s.line ≡ Some (signature_bytes g) → Arrived
  called g p written =
      let a = came.the_signature_of_the_line_is_called g p written in
      a.nothing_goes_astray.no_argument_or_result_goes_astray r (that_ran a.answer r (sym a.fault_is_that_of_the_call ∙ ran))
      (record { for_arguments = agree.for_arguments; for_results = agree.for_results }) given

  by_its_fault : (o : Option ℕ) → signature_fault (line_at s.list s.line) ≡ o → Arrived
  by_its_fault None h = let g = (faultless_lines_are_signatures s.list s.line).a_line_without_fault_is_written_by_a_proper_signature h in called g.0 g.1 g.2
  by_its_fault (Some n) h =
      let refused = came.a_line_at_fault_changes_nothing (at_line n s.line) (ap (option_map (λ number. at_line number s.line)) h) in
      refusal_did_not_run _ r (sym refused.answers_the_refusal ∙ ran)

  pub agreeing_sides_deliver : Arrived
  agreeing_sides_deliver = by_its_fault (signature_fault (line_at s.list s.line)) refl

-- profiles that stay go on to be alike
pub still_alike : (p q p' q' : Profile) → p ≡ p' → q ≡ q' → Alike p q → Alike p' q'
still_alike p q p' q' e f h = rw (← e, ← f) h

pub still_agree : (s t : ServiceState) → SameService s t → SidesAgree s → SidesAgree t
still_agree s t same h = record {
  for_arguments = still_alike _ _ _ _ same.bench_arguments same.core_arguments h.for_arguments;
  for_results = still_alike _ _ _ _ same.bench_results same.core_results h.for_results;
}

pub every_call_delivers : (t : ServiceState) → SidesAgree t → EveryCallDelivers t
every_call_delivers t agree s f same came r ran given = agreeing_sides_deliver s f came (still_agree t s.service same agree) r ran given
