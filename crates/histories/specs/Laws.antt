-- What holds after every list of events, for any lawful pile.
use Rattle.std.specs.Prelude.{◌≡◌, ◌<◌, ◌≤◌, true, false, ◌⊎◌, List, ◌++◌, map, length, is_ok}
use Rattle.std.specs.List.{AllByRecursion}
use Rattle.values.specs.Sizes.{bytes}
use Rattle.values.specs.declared.value_type.ValueType.{ValueType}
use Rattle.place.specs.Pieces.{low_piece, place_width, EachApart}
use Rattle.stage.specs.Books.{Profile, Alike, used}
use Rattle.stage.specs.Lawful.{Aligned}
use Rattle.allocation.specs.States.{State, opened, always_placed}
use Rattle.allocation.specs.Rules.{place_answer}
use Rattle.histories.specs.declared.events.Event.{Event}
use Rattle.histories.specs.Events.{Used, became, requests_since, after_past}
use Rattle.histories.specs.Histories.{Grant, answers, grants_since, as_held}
use Rattle.allocation.specs.declared.asked.Asked.{Asked}

-- a place as wide as was requested or wider
abbrev pub WideEnough : Grant → Type 0
WideEnough g = bytes g.request.width ≤ place_width g.place

-- in the block, at a multiple of the alignment that was requested
abbrev pub AlignedAsRequested : Grant → Type 0
AlignedAsRequested g = Aligned (bytes g.request.alignment) (low_piece g.place)

-- a type as it is asked for at its own alignment
abbrev pub asked_for : ValueType → Asked
asked_for t = record { kind = t.kind; width = bytes t.width; alignment = bytes t.width }

-- a type at its own alignment is refused only past 4,088 block bytes or at sixteen places
abbrev pub RefusedOnlyWhenFull : State → ValueType → Type 0
RefusedOnlyWhenFull s t =
    is_ok (place_answer s (asked_for t)) ≡ false → (4088 < used s.book) ⊎ (length s.held ≡ 16)

-- the allocation s of a pile after its past
pub record LawfulAllocation (u : Used) (s : State) : Type 0 where
  pub held_places_are_those_granted_since : s.held ≡ map as_held (grants_since u)
  pub held_places_share_no_byte : EachApart (map (λ x. x.place) s.held)
  pub held_places_are_as_wide_as_requested_or_wider : AllByRecursion WideEnough (grants_since u)
  pub held_places_are_aligned_in_the_block : AllByRecursion AlignedAsRequested (grants_since u)
  pub a_type_always_placed_is_refused_only_past_4088_or_at_sixteen :
      (t : ValueType) → always_placed u.profile.questions t ≡ true → RefusedOnlyWhenFull s t

-- it is lawful after its past, and was at every moment of it
abbrev pub LawfulAtEveryMoment : Used → Type 0
LawfulAtEveryMoment u = (before later : List Event) → before ++ later ≡ u.past →
    LawfulAllocation (record u { past = before }) (after_past (record u { past = before }))

-- the same of all that can come to an allocation of the pile
abbrev pub LawfulAfterEveryPast : Profile → Type 0
LawfulAfterEveryPast p = (past : List Event) →
    LawfulAllocation (record { profile = p; past = past }) (became (opened p) past)

-- equal requests since opened or last reopened get equal answers, whatever came before
abbrev pub EqualRequestsGetEqualAnswers : Profile → Profile → Type 0
EqualRequestsGetEqualAnswers p q = Alike p q → (first second : List Event) →
    requests_since first ≡ requests_since second → (next : List Asked) →
    answers (became (opened p) first) next ≡ answers (became (opened q) second) next

-- an allocation that its past made of a newly opened one, and that was lawful at every moment of it
pub record Lived (u : Used) (s : State) : Type 0 where
  pub is_what_its_past_made_of_it : s ≡ after_past u
  pub lawful_at_every_moment : LawfulAtEveryMoment u
