-- A plan fits the line that it was made of.
use Rattle.std.proofs.Common.{◌≡◌, ℕ, true, None, refl, ap}
use Rattle.std.proofs.Math.Path.{fun_ext}
use Rattle.arrayvec.specs.ArrayVec.{ArrayVec}
use Rattle.values.specs.Sizes.{bytes}
use Rattle.values.specs.declared.sizes.Size.{Size}
use Rattle.values.specs.declared.sizes.Size.TheVariants.{One, Two, Four, Eight}
use Rattle.values.specs.declared.kinds.Kind.{Kind}
use Rattle.stage.specs.Faults.{width_fault}
use Rattle.conditions.specs.Tests.{MeetsExactly, is_of_kinds, is_at_least}
use Rattle.conditions.specs.declared.Test.{Test}
use Rattle.sides.specs.Sides.{choose_profile}
use Rattle.pages.specs.Pages.{parameter_is_in_range}
use Rattle.pages.specs.declared.table.StageWord.TheVariants.{Choose}
use Rattle.pages.specs.declared.lines.Parameter.TheVariants.{Number, Kinds}
use Rattle.pages.specs.declared.lines.StageLine.{StageLine}
use Rattle.description.specs.Profiles.{size_of, test_in}
use Rattle.description.specs.Plans.{PlanFits}
use Rattle.description.specs.declared.plan.Plan.{Plan}
use Rattle.description.specs.declared.plan.Plan.TheVariants as plans

pub size_of_its_bytes : (s : Size) (n : ℕ) → bytes s ≡ n → size_of n ≡ s
size_of_its_bytes One n e = rw (← e) refl
size_of_its_bytes Two n e = rw (← e) refl
size_of_its_bytes Four n e = rw (← e) refl
size_of_its_bytes Eight n e = rw (← e) refl

-- a plan for a line, which is in range
abbrev pub Planned : ℕ → StageLine → Plan → Type 0
Planned line s p = (parameter_is_in_range s.stage s.parameter ≡ true) × PlanFits line s p

module _ (line : ℕ) (s : StageLine) where
  choice_fits : (test : Test) → s.stage ≡ Choose → MeetsExactly (test_in s.parameter) test → PlanFits line s (plans.Choose test)
  choice_fits test w t = record { makes_what_the_line_says = λ a b. rw w (ap (λ chosen. choose_profile chosen a b) (fun_ext t)); needs_the_stages_below = rw w refl; begins = tt }

  pub width_planned : (m : ℕ) (test : Test) → s.stage ≡ Choose → s.parameter ≡ Number m → None ≡ width_fault m → MeetsExactly (is_at_least m) test → Planned line s (plans.Choose test)
  width_planned m test w p none t = (rw (w, p, ← none) refl, choice_fits test w (rw p t))

  pub kinds_planned : (ks : ArrayVec Kind) (test : Test) → s.stage ≡ Choose → s.parameter ≡ Kinds ks → MeetsExactly (is_of_kinds ks.items) test → Planned line s (plans.Choose test)
  kinds_planned ks test w p t = (rw (w, p) refl, choice_fits test w (rw p t))
