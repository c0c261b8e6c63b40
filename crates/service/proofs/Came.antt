-- What comes of a call by the line of the list.
use Rattle.std.proofs.Common.{◌≡◌, Option, Some, None, Err, option_map, ap, sym, ◌∙◌, subst, arith}
use Rattle.texts.proofs.Options.{the_same}
use Rattle.signatures.specs.Signatures.{signature_bytes, IsProper}
use Rattle.signatures.specs.Faults.{line_at, at_line, fault_at, FaultlessLinesAreSignatures, LinesTellSignaturesApart}
use Rattle.signatures.specs.declared.fault.SignatureFault.{SignatureFault}
use Rattle.signatures.specs.declared.signature.Signature.{Signature}
use Rattle.service.specs.Faults.{fault_of}
use Rattle.service.specs.Services.{Start, Finish, SignatureCalled, SameService, CameOutByTheLine, requests_of}
use Rattle.service.specs.declared.faults.Fault.TheVariants as Faults
use Rattle.service.proofs.Profiles.{the_same_service, called_stays}

none_is_some : {T : Type 0} (o : Option T) (x : T) → None ≡ o → o ≡ Some x → ⊥
none_is_some o x e h = grind (arith, e, h)

pub came_of_a_fault : (s : Start) (f : Finish) (fault : SignatureFault) → f.answer ≡ Err (Faults.Signature fault) → f.service ≡ s.service → f.world ≡ s.world →
    fault_of (Faults.Signature fault) ≡ fault_at s.list s.line → FaultlessLinesAreSignatures → CameOutByTheLine s f
came_of_a_fault s f fault answered service world told law = record {
  profiles_and_kept_set_stay = subst (SameService s.service) (sym service) (the_same_service s.service);
  a_line_at_fault_changes_nothing = λ x e. record { refusal = fault; answers_the_refusal = answered; refusal_is_the_fault = told ∙ e; service_stays = service; lists_registers_and_memory_stay = world };
  the_signature_of_the_line_is_called = λ g p e.
      absurd (none_is_some (fault_at s.list s.line) _ (sym (ap (option_map (λ number. at_line number s.line)) ((law s.list s.line).a_line_that_a_proper_signature_writes_has_no_fault g p e))) (sym told));
}

pub came_of_a_signature : (s : Start) (f : Finish) (g : Signature) → IsProper g → line_at s.list s.line ≡ Some (signature_bytes g) → None ≡ fault_at s.list s.line → LinesTellSignaturesApart →
    SignatureCalled s.service s.body s.budget s.world (requests_of g.arguments.items) (requests_of g.results.items) f → CameOutByTheLine s f
came_of_a_signature s f g p e told law called = record {
  profiles_and_kept_set_stay = called_stays s.service s.body s.budget s.world (requests_of g.arguments.items) (requests_of g.results.items) f called;
  a_line_at_fault_changes_nothing = λ x h. absurd (none_is_some (fault_at s.list s.line) x told h);
  the_signature_of_the_line_is_called = λ h q e'.
      let same = law g h p q (the_same _ _ (sym e ∙ e')) in
      subst (λ v. SignatureCalled s.service s.body s.budget s.world (requests_of h.arguments.items) (requests_of v.items) f) same.2
      (subst (λ v. SignatureCalled s.service s.body s.budget s.world (requests_of v.items) (requests_of g.results.items) f) same.1 called);
}
