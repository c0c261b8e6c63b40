-- Services with equal profiles answer equal calls alike.
use Rattle.std.proofs.Common.{◌≡◌, ℕ, cond, List, Option, Some, None, Err, option_map, refl, ap, sym, ◌∙◌, subst, arith}
use Rattle.std.specs.Bool.{◌==◌}
use Rattle.std.specs.Option.{unwrap_or}
use Rattle.stage.specs.Faults.{Fault}
use Rattle.stage.specs.Books.{Profile}
use Rattle.allocation.specs.declared.asked.Asked.{Asked}
use Rattle.machine.specs.declared.Instruction.{Instruction}
use Rattle.signatures.specs.Signatures.{signature_bytes, IsProper}
use Rattle.signatures.specs.Faults.{line_at, at_line, fault_at, signature_fault, signature_fault_of, cause_number}
use Rattle.signatures.specs.declared.fault.Cause.{Cause}
use Rattle.signatures.specs.declared.fault.Cause.TheVariants.{Line, NotAType, Count}
use Rattle.signatures.specs.declared.fault.SignatureFault.{SignatureFault}
use Rattle.signatures.specs.declared.signature.Signature.{Signature}
use Rattle.signatures.proofs.Written.{faultless_lines_are_signatures}
use Rattle.call.specs.Calls.{World}
use Rattle.call.specs.Astray.{Setting, End, NothingGoesAstray, unused, unheard}
use Rattle.call.proofs.Ends.{one_end_for_each_setting}
use Rattle.service.specs.Faults.{fault_of, answer_of}
use Rattle.service.specs.declared.faults.Fault.TheVariants as Faults
use Rattle.service.specs.Services.{ServiceState, Start, Finish, SameService, CameOutByTheLine, Alike, EqualServicesAnswerAlike, setting_of, requests_of, with_service}

-- a fault of a list is read back from its number and its line

abbrev cause_from : ℕ → Cause
cause_from number = cond (number == 11) Line (cond (number == 12) NotAType Count)

abbrev refusal_from : Fault → SignatureFault
refusal_from f = record { cause = cause_from f.number; line = f.position }

cause_read_back : (c : Cause) → cause_from (cause_number c) ≡ c
cause_read_back Line = refl
cause_read_back NotAType = refl
cause_read_back Count = refl

refusal_read_back : (f : SignatureFault) → refusal_from (signature_fault_of f) ≡ f
refusal_read_back f = rw (cause_read_back f.cause) refl

that_refusal : (f : SignatureFault) (fault : Fault) → fault_of (Faults.Signature f) ≡ Some fault → f ≡ refusal_from fault
that_refusal f fault e = sym (refusal_read_back f) ∙ ap (λ o. refusal_from (unwrap_or o fault)) e

-- equal profiles make equal settings
same_setting : (s t : ServiceState) (body : List Instruction) (budget : ℕ) (world : World) (arguments results : List Asked) → SameService s t →
    setting_of s body budget world arguments results ≡ setting_of t body budget world arguments results
same_setting s t body budget world arguments results same = setting _ _ _ _ _ _ _ _ _ _ same.bench_arguments same.bench_results same.core_arguments same.core_results same.kept
  where
    setting : (a a' b b' c c' d d' : Profile) (k k' : ℕ) → a ≡ a' → b ≡ b' → c ≡ c' → d ≡ d' → k ≡ k' →
        ◌≡◌ {A = Setting}
        (record { bench_arguments = unused a; bench_results = unused b; core_arguments = unused c; core_results = unused d; arguments = arguments; results = results; kept = k; body = body; world = world; budget = budget })
        (record { bench_arguments = unused a'; bench_results = unused b'; core_arguments = unused c'; core_results = unused d'; arguments = arguments; results = results; kept = k'; body = body; world = world; budget = budget })
    setting a a' b b' c c' d d' k k' e₁ e₂ e₃ e₄ e₅ = rw (e₁, e₂, e₃, e₄, e₅) refl

none_is_some : {T : Type 0} (x : T) → None ≡ Some x → ⊥
none_is_some x e = grind (arith, e)

module _ (s : Start) (t : ServiceState) (e f : Finish) (same : SameService s.service t) (first : CameOutByTheLine s e) (second : CameOutByTheLine (with_service s t) f) where
  called_alike : (g : Signature) → IsProper g → line_at s.list s.line ≡ Some (signature_bytes g) → Alike s e f
  called_alike g p written =
      let arguments = requests_of g.arguments.items in
      let results = requests_of g.results.items in
      let a = first.the_signature_of_the_line_is_called g p written in
      let b = second.the_signature_of_the_line_is_called g p written in
      let x : End = unheard e.service.sides e.world a.answer in
      let y : End = unheard f.service.sides f.world b.answer in
      let moved : NothingGoesAstray (setting_of t s.body s.budget s.world arguments results) x =
      subst (λ (z : Setting). NothingGoesAstray z x) (same_setting s.service t s.body s.budget s.world arguments results same) a.nothing_goes_astray in
      let ends : x ≡ y = one_end_for_each_setting (setting_of t s.body s.budget s.world arguments results) x y moved b.nothing_goes_astray in
      record {
        equal_answers = a.fault_is_that_of_the_call ∙ ap (λ (z : End). answer_of z.answer) ends ∙ sym b.fault_is_that_of_the_call;
        equal_lists_registers_and_memory = ap (λ (z : End). z.world) ends;
        equal_places = λ none. ap (λ (z : End). z.sides) ends;
      }

  refused_alike : (fault : Fault) → fault_at s.list s.line ≡ Some fault → Alike s e f
  refused_alike fault told =
      let a = first.a_line_at_fault_changes_nothing fault told in
      let b = second.a_line_at_fault_changes_nothing fault told in
      record {
        equal_answers = a.answers_the_refusal ∙ ap (λ r. Err (Faults.Signature r)) (that_refusal a.refusal fault a.refusal_is_the_fault ∙ sym (that_refusal b.refusal fault b.refusal_is_the_fault)) ∙ sym b.answers_the_refusal;
        equal_lists_registers_and_memory = a.lists_registers_and_memory_stay ∙ sym b.lists_registers_and_memory_stay;
        equal_places = λ none. absurd (none_is_some fault (sym none ∙ told));
      }

  by_its_fault : (o : Option ℕ) → signature_fault (line_at s.list s.line) ≡ o → Alike s e f
  by_its_fault None h = let g = (faultless_lines_are_signatures s.list s.line).a_line_without_fault_is_written_by_a_proper_signature h in called_alike g.0 g.1 g.2
  by_its_fault (Some n) h = refused_alike (at_line n s.line) (ap (option_map (λ number. at_line number s.line)) h)

  pub answered_alike : Alike s e f
  answered_alike = by_its_fault (signature_fault (line_at s.list s.line)) refl

pub equal_services_answer_alike : EqualServicesAnswerAlike
equal_services_answer_alike s t e f same first second = answered_alike s t e f same first second
