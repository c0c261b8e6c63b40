-- Lists of requests, with what each should be answered.
use Rattle.std.specs.Prelude.{◌≡◌, ℕ, Bool, List, map, Ok, Err, Decides, Result}
use Rattle.place.specs.declared.pieces.Place.{Place}
use Rattle.stage.specs.Books.{Profile, used}
use Rattle.stage.specs.declared.ParameterFault.{ParameterFault}
use Rattle.allocation.specs.Faults.{Answer, answer_of}
use Rattle.allocation.specs.States.{opened}
use Rattle.allocation.specs.declared.faults.PlacementFault.{PlacementFault}
use Rattle.delivery.specs.Code.{stack_bytes}
use Rattle.histories.specs.Histories.{answers, placed_all}
use Rattle.allocation.specs.declared.asked.Asked.{Asked}

-- a pile, newly opened, answers the requests so, and has then used so many block bytes, rounded up to 8
abbrev pub Gives : Profile → List Asked → List Answer → ℕ → Type 0
Gives p qs given block = (answers (opened p) qs ≡ given) × (stack_bytes (used (placed_all (opened p) qs).book) ≡ block)

-- a request, and what it should be answered
abbrev pub Line : Type 0
Line = Asked × Result Place PlacementFault

-- what the lines ask
abbrev pub asks : List Line → List Asked
asks = map (λ l. l.0)

-- what they should be answered
abbrev pub expects : List Line → List Answer
expects = map (λ l. answer_of l.1)

-- an answer that decides X, with no fault
abbrev pub Tells : Result Bool ParameterFault → Type 0 → Type 0
Tells (Ok b) X = Decides b X
Tells (Err f) X = ⊥
