-- What requests make of an allocation, what they are answered, and what they are granted.
use Rattle.std.specs.Prelude.{ℕ, List, [], ◌∷◌, ◌++◌, Ok, Err, Result}
use Rattle.std.specs.Option.{option_map, option_to_list}
use Rattle.values.specs.declared.requests.Request.{Request}
use Rattle.place.specs.declared.pieces.Place.{Place}
use Rattle.stage.specs.Books.{said}
use Rattle.allocation.specs.Faults.{Answer}
use Rattle.place.specs.Holdings.{Holding}
use Rattle.allocation.specs.States.{State, opened}
use Rattle.allocation.specs.Rules.{reaching, placed, place_answer, holding_for}
use Rattle.allocation.specs.declared.asked.Asked.{Asked}
use Rattle.histories.specs.Events.{Used, requests_since}

-- what requests make of an allocation, one after the other
abbrev pub placed_all : State → List Asked → State
placed_all s [] = s
placed_all s (q ∷ qs) = placed_all (placed s q) qs

-- what they are answered
abbrev pub answers : State → List Asked → List Answer
answers s [] = []
answers s (q ∷ qs) = place_answer s q ∷ answers (placed s q) qs

-- a request that reached the pile, and the place that it was granted
pub record Grant : Type 0 where
  pub request : Request
  pub place : Place

-- that request with that place
abbrev pub grant : Request → Place → Grant
grant r p = record { request = r; place = p }

-- a grant as an allocation holds it
abbrev pub as_held : Grant → Holding
as_held g = holding_for g.request g.place

-- what the pile grants of what reaches it
abbrev pub grant_by : State → Result Request ℕ → List Grant
grant_by s (Err n) = []
grant_by s (Ok r) = option_to_list (option_map (grant r) (said s.book r))

-- what requests are granted, in order
abbrev pub grants : State → List Asked → List Grant
grants s [] = []
grants s (q ∷ qs) = grant_by s (reaching s q) ++ grants (placed s q) qs

-- what a newly opened allocation of the pile grants for the requests since it was opened or last reopened
abbrev pub grants_since : Used → List Grant
grants_since u = grants (opened u.profile) (requests_since u.past)
