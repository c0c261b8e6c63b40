-- What an allocation is.
use Rattle.std.specs.Prelude.{◌≡◌, Bool, false, ◌&&◌, List, [], map}
use Rattle.values.specs.Types.{own_request}
use Rattle.values.specs.declared.value_type.ValueType.{ValueType}
use Rattle.place.specs.Holdings.{Holding}
use Rattle.stage.specs.Books.{Book, Blame, Profile, Questions}
use Rattle.stage.specs.declared.Stage.{Ghosts}
use Rattle.allocation.specs.declared.held.Held.{Held}
use Rattle.allocation.specs.declared.shared.Allocation.{Allocation}

-- what an allocation is: what no call changes, the book and the blame of its pile, and what it holds, in order
pub record State : Type 0 where
  pub profile : Profile
  pub book : Book
  pub blame : Blame
  pub held : List Holding

-- a held place as the definitions have it
abbrev pub holding : Held → Holding
holding h = record { kind = h.value.kind; width = h.value.width; place = h.place }

-- the state of an allocation, by the ghost members of its pile
abbrev pub state : {P S : Type 0} → Ghosts P → Allocation P S → State
state g a = record {
  profile = g.profile a.pile;
  book = g.book a.pile;
  blame = g.blame a.pile;
  held = map holding a.held.items;
}

-- newly opened or reopened: the pile is cleared, and nothing is held
abbrev pub opened : Profile → State
opened p = record { profile = p; book = p.first; blame = p.first_blame; held = [] }

-- a type that is always placed: endless at its own alignment, in a sound pile
abbrev pub always_placed : Questions → ValueType → Bool
always_placed q t = q.sound && q.endless (own_request t)

-- a pile that calls no type endless at its own alignment
abbrev pub EndlessForNothing : Questions → Type 0
EndlessForNothing q = (t : ValueType) → q.endless (own_request t) ≡ false
