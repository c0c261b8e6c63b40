-- A service, as its convention describes it.
use Rattle.std.specs.Prelude.{◌≡◌, ℕ, List, Result, MatchResult}
use Rattle.banks.specs.Lists.{set_of}
use Rattle.stage.specs.declared.Stage.{Ghosts}
use Rattle.allocation.specs.States.{opened}
use Rattle.described.specs.Piles.{AtStart}
use Rattle.described.specs.declared.pile.Pile.{Pile}
use Rattle.pages.specs.declared.faults.DescriptionFault.{DescriptionFault}
use Rattle.description.specs.Profiles.{Meaning}
use Rattle.description.specs.Describing.{OfThePage, IsTheFirstFault}
use Rattle.service.specs.Services.{ServiceState, service_state}
use Rattle.service.specs.declared.faults.Fault.{Fault}
use Rattle.service.specs.declared.faults.Fault.TheVariants.{Description}
use Rattle.service.specs.declared.services.Convention.{Convention}
use Rattle.service.specs.declared.services.Service.{Service}

-- a side that is as lines say: its piles are those stages, at their beginning, and its kept set has those registers
pub record IsAsSaid (m : Meaning) (c : Convention Pile) : Type 0 where
  pub arguments : AtStart m.arguments c.arguments
  pub results : AtStart m.results c.results
  pub kept : c.kept.bits ≡ set_of m.kept

-- a service of both sides that are as lines say, newly opened
abbrev pub service_of : Meaning → ServiceState
service_of m = record {
  sides = record { bench_arguments = opened m.arguments; bench_results = opened m.results; core_arguments = opened m.arguments; core_results = opened m.results };
  kept = set_of m.kept;
}

-- a side as a text describes it; or the first fault of the text, or want of memory for the piles of a proper page
abbrev pub IsReadForOneSide : List ℕ → Result (Convention Pile) DescriptionFault → Type 0
IsReadForOneSide text result = MatchResult result (λ c. OfThePage text (λ m. IsAsSaid m c)) (IsTheFirstFault text)

-- a service, by the ghost members of its piles, as a text describes it; or that fault
abbrev pub IsReadForBothSides : Ghosts Pile → List ℕ → Result (Service Pile) Fault → Type 0
IsReadForBothSides g text result =
    MatchResult result (λ s. OfThePage text (λ m. service_state g s ≡ service_of m)) (λ f. (d : DescriptionFault) × (f ≡ Description d) × IsTheFirstFault text d)
