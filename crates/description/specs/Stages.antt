-- Stages that were read, and which of them were named.
use Rattle.std.specs.Prelude.{◌≡◌, ℕ, ◌+◌, ◌<◌, ◌≤◌, true, false, List, [], ◌∷◌, Option, None, length, MatchOption}
use Rattle.std.specs.List.{slice_index_or}
use Rattle.stage.specs.Books.{Profile}
use Rattle.described.specs.Piles.{AtStart}
use Rattle.described.specs.declared.pile.Pile.{Pile}
use Rattle.pages.specs.Rules.{is_in}
use Rattle.description.specs.Profiles.{no_profile, stage_at}
use Rattle.description.specs.Plans.{IsBelow}
use Rattle.description.specs.declared.stages.Stages.{Stages}

-- a stage that no line has named is there, at its beginning
abbrev pub IsSlot : List Profile → List ℕ → ℕ → Option Pile → Type 0
IsSlot stages named k slot =
    MatchOption slot (is_in (k + 1) named ≡ true) (λ pile. (is_in (k + 1) named ≡ false) × AtStart (slice_index_or stages k no_profile) pile)

pub record HasStages (stages : List Profile) (named : List ℕ) (s : Stages) : Type 0 where
  pub as_many : length s.free.items ≡ length stages
  pub each_is_there_until_it_is_named : (k : ℕ) → k < length stages → IsSlot stages named k (slice_index_or s.free.items k None)
  pub no_later_stage_is_named : (k : ℕ) → is_in k named ≡ true → k ≤ length stages

-- the piles of named stages
abbrev pub AreTaken : List Profile → List ℕ → Option Pile → Option Pile → Type 0
AreTaken stages [] x y = Unit {0}
AreTaken stages (k ∷ []) x y = IsBelow x (stage_at stages k)
AreTaken stages (k ∷ j ∷ more) x y = IsBelow x (stage_at stages k) × IsBelow y (stage_at stages j)
