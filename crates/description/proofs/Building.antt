-- The piles of a draft, built one behind the other.
use Rattle.std.proofs.Common.{◌≡◌, ℕ, ◌<◌, ◌≤◌, Bool, true, false, List, [], ◌∷◌, ◌++◌, Option, Some, None, length, refl, subst, arith}
use Rattle.std.specs.List.{slice_index}
use Rattle.std.specs.Option.{IsSome}
use Rattle.std.specs.Prelude.{MatchOption}
use Rattle.stage.specs.Books.{Profile}
use Rattle.described.specs.Piles.{AtStart, pile_profile}
use Rattle.described.specs.declared.pile.Pile.{Pile}
use Rattle.adjust.specs.Adjusting.{changed, map_profile}
use Rattle.adjust.specs.declared.Change.{Change}
use Rattle.conditions.specs.Tests.{meets}
use Rattle.conditions.specs.declared.Test.{Test}
use Rattle.sides.specs.Sides.{choose_profile}
use Rattle.shut.specs.Shutting.{shut_profile}
use Rattle.pages.specs.Rules.{are_free}
use Rattle.description.specs.Plans.{made_by, needs, IsBelow, AreBelow, Begins, made_behind, Make}
use Rattle.description.specs.Profiles.{stage_at}
use Rattle.description.specs.Stages.{HasStages, AreTaken}
use Rattle.description.specs.declared.plan.Plan.{Plan}
use Rattle.description.specs.declared.plan.Plan.TheVariants.{Bottom, Adjust, Choose, Over, Shut}
use Rattle.description.specs.declared.plan.Planned.{Planned}
use Rattle.description.specs.declared.stages.Stages.{Stages}
use Rattle.description.proofs.Making.{made_counted}

-- what a layer makes, by the profiles of the piles that it stands on

pub adjusted : (line : ℕ) (change : Change) (p : Plan) (x y : Option Pile) (below built : Pile) → p ≡ Adjust change → x ≡ Some below → AtStart (map_profile (changed change) (pile_profile below)) built
    → (a b : Profile) → AreBelow p x y a b → AtStart (made_by line p a b) built
adjusted line change p x y below built e f h a b k =
    let there : AtStart a below = rw (e, f) at k in
    rw e (subst (λ q. AtStart (map_profile (changed change) q) built) there.profile_stays h)

pub chosen : (line : ℕ) (test : Test) (p : Plan) (x y : Option Pile) (first second built : Pile) → p ≡ Choose test → x ≡ Some first → y ≡ Some second → AtStart (choose_profile (meets test) (pile_profile first) (pile_profile second)) built
    → (a b : Profile) → AreBelow p x y a b → AtStart (made_by line p a b) built
chosen line test p x y first second built e f g h a b k =
    let there : AtStart a first × AtStart b second = rw (e, f, g) at k in
    rw (e, ← there.0.profile_stays, ← there.1.profile_stays) h

pub closed : (line : ℕ) (p : Plan) (x y : Option Pile) (below built : Pile) → p ≡ Shut → x ≡ Some below → AtStart (shut_profile line (pile_profile below)) built
    → (a b : Profile) → AreBelow p x y a b → AtStart (made_by line p a b) built
closed line p x y below built e f h a b k =
    let there : AtStart a below = rw (e, f) at k in
    rw e (subst (λ q. AtStart (shut_profile line q) built) there.profile_stays h)

-- the stages that were taken are those that a plan needs
two_below : (stages : List Profile) (below : List ℕ) (x y : Option Pile) → 2 ≡ length below → AreTaken stages below x y → IsBelow x (stage_at stages (slice_index below 0)) × IsBelow y (stage_at stages (slice_index below 1))
two_below stages [] x y e t = absurd (omega (arith, e))
two_below stages (k ∷ []) x y e t = absurd (omega (arith, e))
two_below stages (k ∷ j ∷ ks) x y e t = t

one_below : (stages : List Profile) (below : List ℕ) (x y : Option Pile) → 1 ≡ length below → AreTaken stages below x y → IsBelow x (stage_at stages (slice_index below 0))
one_below stages [] x y e t = absurd (omega (arith, e))
one_below stages (k ∷ []) x y e t = t
one_below stages (k ∷ j ∷ ks) x y e t = absurd (omega (arith, e))

below_there : (p : Plan) (below : List ℕ) (stages : List Profile) (x y : Option Pile) → needs p ≡ length below → Begins p → AreTaken stages below x y → AreBelow p x y (stage_at stages (slice_index below 0)) (stage_at stages (slice_index below 1))
below_there (Bottom pile) below stages x y n f t = f
below_there (Adjust change) below stages x y n f t = one_below stages below x y n t
below_there (Choose test) below stages x y n f t = two_below stages below x y n t
below_there Over below stages x y n f t = two_below stages below x y n t
below_there Shut below stages x y n f t = one_below stages below x y n t

-- what is there where all stages are free
pub is_there : {X : Type 0} (b : Bool) (P : X → Type 0) (r : Option X) → b ≡ true → MatchOption r (b ≡ false) P → IsSome r
is_there b P None e h = grind (arith, e, h)
is_there b P (Some x) e h = refl

-- some stages were built, and plans for the others are left
pub record Building (left : List Planned) (all : List Profile) (names : List ℕ) (s : Stages) : Type 0 where
  pub before : List Profile
  pub named : List ℕ
  pub stages_are_built : HasStages before named s
  pub others_are_planned : Make left before named all names
  pub all_are_few : length all ≤ 24

pub building_begins : (left : List Planned) (all : List Profile) (names : List ℕ) (s : Stages) → length left ≤ 24 → HasStages [] [] s → Make left [] [] all names → Building left all names s
building_begins left all names s few h m = record { before = []; named = []; stages_are_built = h; others_are_planned = m; all_are_few = omega (arith, made_counted left [] [] all names m, few) }

module _ (p : Planned) (left : List Planned) (all : List Profile) (names : List ℕ) (s : Stages) (h : Building (p ∷ left) all names s) where
  -- its stages below are there to be taken
  pub below_free : are_free (length h.before) h.named p.below.items ≡ true
  below_free = h.others_are_planned.0.names_free_stages

  pub room_for_it : length h.before < 24
  room_for_it = omega (arith, made_counted (p ∷ left) h.before h.named all names h.others_are_planned, h.all_are_few)

  pub below_taken : (x y : Option Pile) → AreTaken h.before p.below.items x y → AreBelow p.plan x y (stage_at h.before (slice_index p.below.items 0)) (stage_at h.before (slice_index p.below.items 1))
  below_taken x y t = below_there p.plan p.below.items h.before x y h.others_are_planned.0.needs_the_stages_that_it_names h.others_are_planned.0.begins t

  pub building_goes_on : (t : Stages) → HasStages (h.before ++ made_behind h.before p ∷ []) (h.named ++ p.below.items) t → Building left all names t
  building_goes_on t k = record {
    before = h.before ++ made_behind h.before p ∷ [];
    named = h.named ++ p.below.items;
    stages_are_built = k;
    others_are_planned = h.others_are_planned.1;
    all_are_few = h.all_are_few;
  }

-- where no plan is left, all stages are built
pub all_built : (all : List Profile) (names : List ℕ) (s : Stages) → Building [] all names s → HasStages all names s
all_built all names s h = subst (λ ps. HasStages ps names s) h.others_are_planned.0 (subst (λ ns. HasStages h.before ns s) h.others_are_planned.1 h.stages_are_built)
