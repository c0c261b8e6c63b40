-- Two sides that were read from one text are alike.
use Rattle.std.proofs.Common.{◌≡◌, ℕ, List, refl, ap, sym, subst, ◌∙◌}
use Rattle.described.specs.declared.pile.Pile.{Pile}
use Rattle.described.specs.contracts.pile.PileStage.TheImpl.{ghosts}
use Rattle.pages.specs.Pages.{Page, page_lines, text_of, IsProper}
use Rattle.pages.specs.Rules.{read_text}
use Rattle.pages.proofs.Proper.{no_fault_exactly_in_proper_pages}
use Rattle.pages.proofs.Steps.{the_line}
use Rattle.description.specs.Describing.{OfThePage}
use Rattle.description.specs.Profiles.{Meaning, meaning_of}
use Rattle.service.proofs.Agreed.{still_agree}
use Rattle.service.specs.Agreeing.{SidesAgree, CallsKeepSidesAgreeing}
use Rattle.service.specs.Services.{service_state, opened_service}
use Rattle.service.specs.declared.services.Convention.{Convention}
use Rattle.service.specs.declared.services.Service.{Service}
use Rattle.conventions.specs.Conventions.{IsAsSaid, service_of}

same_lines : (text : List ℕ) (p q : Page) → IsProper p → IsProper q → text_of (page_lines p) ≡ text → text_of (page_lines q) ≡ text → page_lines q ≡ page_lines p
same_lines text p q h k e f =
    let read = no_fault_exactly_in_proper_pages.a_proper_page_is_without_fault in
    the_line (page_lines q) (page_lines p) (sym (read q k) ∙ (ap read_text (f ∙ sym e) ∙ read p h))

opened_as_said : (m : Meaning) (b c : Convention Pile) → IsAsSaid m b → IsAsSaid m c → opened_service ghosts b c ≡ service_of m
opened_as_said m b c h k = rw (h.arguments.profile_stays, h.results.profile_stays, k.arguments.profile_stays, k.results.profile_stays, h.kept) refl

pub both_as_said : (text : List ℕ) (b c : Convention Pile) (s : Service Pile) → OfThePage text (λ m. IsAsSaid m b) → OfThePage text (λ m. IsAsSaid m c) → service_state ghosts s ≡ opened_service ghosts b c → OfThePage text (λ m. service_state ghosts s ≡ service_of m)
both_as_said text b c s h k e =
    let same = subst (λ ls. IsAsSaid (meaning_of ls) c) (same_lines text h.0 k.0 h.1 k.1 h.2 k.2) k.3 in
    (h.0, h.1, h.2, e ∙ opened_as_said (meaning_of (page_lines h.0)) b c h.3 same)

said_alike : (m : Meaning) → SidesAgree (service_of m)
said_alike m = record {
  for_arguments = record { equal_first_books = refl; equal_answers_to_questions = refl };
  for_results = record { equal_first_books = refl; equal_answers_to_questions = refl };
}

pub agree : (text : List ℕ) (s : Service Pile) → OfThePage text (λ m. service_state ghosts s ≡ service_of m) → SidesAgree (service_state ghosts s)
agree text s h = subst SidesAgree (sym h.3) (said_alike (meaning_of (page_lines h.0)))

pub calls_keep_sides_agreeing : CallsKeepSidesAgreeing
calls_keep_sides_agreeing s f came h = still_agree s.service f.service came.profiles_and_kept_set_stay h
