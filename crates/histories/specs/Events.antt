-- What the types let come to an allocation, as a list of events.
use Rattle.std.specs.Prelude.{List, [], ◌∷◌, ◌++◌, map}
use Rattle.stage.specs.Books.{Profile}
use Rattle.stage.specs.declared.Stage.{Ghosts}
use Rattle.allocation.specs.States.{State, opened}
use Rattle.allocation.specs.Rules.{placed}
use Rattle.allocation.specs.declared.asked.Asked.{Asked}
use Rattle.histories.specs.Heard.{Heard, heard_at}
use Rattle.histories.specs.declared.events.Event.{Event}
use Rattle.histories.specs.declared.events.Event.TheVariants.{Place, Reopen}
use Rattle.histories.specs.declared.events.UsedPile.{UsedPile}

-- what an event makes of an allocation: a request is placed, or the allocation is frozen and reopened
abbrev pub becomes : State → Event → State
becomes s (Place q) = placed s q
becomes s Reopen = opened s.profile

-- what it is answered: only a request is
abbrev pub answers_at : State → Event → List Heard
answers_at s (Place q) = heard_at s q ∷ []
answers_at s Reopen = []

-- what events make of an allocation, one after the other
abbrev pub became : State → List Event → State
became s [] = s
became s (e ∷ es) = became (becomes s e) es

-- what they are answered, in order
abbrev pub told : State → List Event → List Heard
told s [] = []
told s (e ∷ es) = answers_at s e ++ told (becomes s e) es

-- the requests since the last reopening, behind these
abbrev pub requests_behind : List Asked → List Event → List Asked
requests_behind qs [] = qs
requests_behind qs (Place q ∷ es) = requests_behind (qs ++ (q ∷ [])) es
requests_behind qs (Reopen ∷ es) = requests_behind [] es

-- the requests since it was opened or last reopened
abbrev pub requests_since : List Event → List Asked
requests_since = requests_behind []

-- these requests, one after the other
abbrev pub places : List Asked → List Event
places = map (λ q. Place q)

-- a reopening, and these requests
abbrev pub reopening : List Asked → List Event
reopening qs = Reopen ∷ places qs

-- a pile, and what came to its allocation since it was opened
pub record Used : Type 0 where
  pub profile : Profile
  pub past : List Event

abbrev pub used_of : {P : Type 0} → Ghosts P → UsedPile P → Used
used_of g u = record { profile = g.profile u.pile; past = u.past.now }

-- the allocation after its past
abbrev pub after_past : Used → State
after_past u = became (opened u.profile) u.past

-- every answer of its past
abbrev pub answers_of_past : Used → List Heard
answers_of_past u = told (opened u.profile) u.past

-- the same pile, after its past reopened and asked for these
abbrev pub reopened_for : List Asked → Used → Used
reopened_for qs u = record { profile = u.profile; past = u.past ++ reopening qs }
