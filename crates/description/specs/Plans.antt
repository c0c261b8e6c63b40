-- What a plan makes of the stages below, and what plans make one behind the other.
use Rattle.std.specs.Prelude.{◌≡◌, ℕ, ◌+◌, true, List, [], ◌∷◌, ◌++◌, length, Option, Some, None}
use Rattle.std.specs.List.{slice_index}
use Rattle.stage.specs.Books.{Profile}
use Rattle.adjust.specs.Adjusting.{changed, map_profile}
use Rattle.conditions.specs.Tests.{meets}
use Rattle.sides.specs.Sides.{choose_profile, over_profile}
use Rattle.shut.specs.Shutting.{shut_profile}
use Rattle.described.specs.Piles.{pile_profile, AtStart}
use Rattle.described.specs.declared.pile.Pile.{Pile}
use Rattle.pages.specs.Rules.{are_free}
use Rattle.pages.specs.Table.{below_of}
use Rattle.pages.specs.declared.lines.StageLine.{StageLine}
use Rattle.description.specs.Profiles.{profile_by, stage_at}
use Rattle.description.specs.declared.plan.Plan.{Plan}
use Rattle.description.specs.declared.plan.Plan.TheVariants.{Bottom, Adjust, Choose, Over, Shut}
use Rattle.description.specs.declared.plan.Planned.{Planned}

abbrev pub made_by : ℕ → Plan → Profile → Profile → Profile
made_by line (Bottom pile) a b = pile_profile pile
made_by line (Adjust change) a b = map_profile (changed change) a
made_by line (Choose test) a b = choose_profile (meets test) a b
made_by line Over a b = over_profile a b
made_by line Shut a b = shut_profile line a

-- how many stages below it needs
abbrev pub needs : Plan → ℕ
needs (Bottom pile) = 0
needs (Adjust change) = 1
needs (Choose test) = 2
needs Over = 2
needs Shut = 1

-- a bottom is at its beginning
abbrev pub Begins : Plan → Type 0
Begins (Bottom pile) = AtStart (pile_profile pile) pile
Begins (Adjust change) = Unit {0}
Begins (Choose test) = Unit {0}
Begins Over = Unit {0}
Begins Shut = Unit {0}

-- a plan that makes what a line says
pub record PlanFits (line : ℕ) (s : StageLine) (p : Plan) : Type 0 where
  pub makes_what_the_line_says : (a b : Profile) → made_by line p a b ≡ profile_by line s.stage s.parameter a b
  pub needs_the_stages_below : needs p ≡ below_of s.stage
  pub begins : Begins p

-- a stage below, at its beginning
abbrev pub IsBelow : Option Pile → Profile → Type 0
IsBelow None a = ⊥
IsBelow (Some pile) a = AtStart a pile

-- the stages below that a plan needs
abbrev pub AreBelow : Plan → Option Pile → Option Pile → Profile → Profile → Type 0
AreBelow (Bottom pile) x y a b = AtStart (pile_profile pile) pile
AreBelow (Adjust change) x y a b = IsBelow x a
AreBelow (Choose test) x y a b = IsBelow x a × IsBelow y b
AreBelow Over x y a b = IsBelow x a × IsBelow y b
AreBelow Shut x y a b = IsBelow x a

-- a plan that can be carried out behind n stages of which lines have named some
pub record CanBeBuilt (n : ℕ) (named : List ℕ) (p : Planned) : Type 0 where
  pub begins : Begins p.plan
  pub needs_the_stages_that_it_names : needs p.plan ≡ length p.below.items
  pub names_free_stages : are_free n named p.below.items ≡ true

-- the stage that a plan makes behind others
abbrev pub made_behind : List Profile → Planned → Profile
made_behind stages p =
    made_by (length stages + 1) p.plan (stage_at stages (slice_index p.below.items 0)) (stage_at stages (slice_index p.below.items 1))

-- plans that can be carried out one by one, behind stages of which lines have named some; then these are all stages, and
-- those all that are named
abbrev pub Make : List Planned → List Profile → List ℕ → List Profile → List ℕ → Type 0
Make [] stages named all names = (stages ≡ all) × (named ≡ names)
Make (p ∷ ps) stages named all names =
    CanBeBuilt (length stages) named p × Make ps (stages ++ made_behind stages p ∷ []) (named ++ p.below.items) all names
