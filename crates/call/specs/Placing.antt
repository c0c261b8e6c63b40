-- Placing the types of a signature on both sides, up to the first that is refused.
use Rattle.std.specs.Prelude.{◌≡◌, ℕ, cond, List, [], ◌∷◌, is_ok, Some, None, Ok, Err, Option, Result}
use Rattle.stage.specs.Faults.{Fault}
use Rattle.stage.specs.declared.Stage.{Ghosts}
use Rattle.allocation.specs.Faults.{Answer, placement_fault, cause_line}
use Rattle.allocation.specs.States.{State, state}
use Rattle.allocation.specs.declared.faults.PlacementFault.{PlacementFault}
use Rattle.allocation.specs.declared.shared.Allocation.{Allocation}
use Rattle.allocation.specs.Rules.{place_answer, placed, blamed_line}
use Rattle.histories.specs.Histories.{placed_all}
use Rattle.allocation.specs.declared.asked.Asked.{Asked}
use Rattle.call.specs.declared.sides.Side.{Side}

-- the requests that are made of a list: up to the first that is refused, with it
abbrev pub asked : State → List Asked → List Asked
asked s [] = []
asked s (q ∷ qs) = q ∷ cond (is_ok (place_answer s q)) (asked (placed s q) qs) []

-- what they make of an allocation
abbrev pub placed_until : State → List Asked → State
placed_until s qs = placed_all s (asked s qs)

-- a fault, or else what comes next
abbrev pub fault_else : Answer → Option Fault → Option Fault
fault_else (Ok p) next = next
fault_else (Err f) next = Some f

-- the fault of the first that is refused
abbrev pub first_refused : State → List Asked → Option Fault
first_refused s [] = None
first_refused s (q ∷ qs) = fault_else (place_answer s q) (first_refused (placed s q) qs)

-- the fault of an answer, if it is one
abbrev pub placing_fault : {X : Type 0} → Result X PlacementFault → Option Fault
placing_fault (Ok x) = None
placing_fault (Err f) = Some (placement_fault f)

-- the line of an answer of place, or else what comes next
abbrev pub line_else : Answer → Option ℕ → Option ℕ → Option ℕ
line_else (Ok p) own next = next
line_else (Err f) own next = own

-- the line of the stage that refused the first that is refused, where its pile did
abbrev pub first_blamed : State → List Asked → Option ℕ
first_blamed s [] = None
first_blamed s (q ∷ qs) = line_else (place_answer s q) (blamed_line s q) (first_blamed (placed s q) qs)

-- the line of an answer that is a refusal of the pile
abbrev pub placing_line : {X : Type 0} → Result X PlacementFault → Option ℕ
placing_line (Ok x) = None
placing_line (Err f) = cause_line f.cause

-- what an allocation was asked, what it became, and the first fault so far
pub record Step : Type 0 where
  pub asked : List Asked
  pub state : State
  pub fault : Option Fault

-- an allocation is asked for a list, unless there was a fault before
abbrev pub placing : Option Fault → State → List Asked → Step
placing None s qs = record { asked = asked s qs; state = placed_until s qs; fault = first_refused s qs }
placing (Some f) s qs = record { asked = []; state = s; fault = Some f }

-- the four allocations of a call
pub record Sides : Type 0 where
  pub bench_arguments : State
  pub bench_results : State
  pub core_arguments : State
  pub core_results : State

-- what becomes of each
pub record Placement : Type 0 where
  pub bench_arguments : Step
  pub bench_results : Step
  pub core_arguments : Step
  pub core_results : Step

-- bench, then core, is asked for the arguments, then the results
abbrev pub placement : Sides → List Asked → List Asked → Placement
placement s arguments results =
    let first = placing None s.bench_arguments arguments in
    let second = placing first.fault s.bench_results results in
    let third = placing second.fault s.core_arguments arguments in
    let fourth = placing third.fault s.core_results results in
    record { bench_arguments = first; bench_results = second; core_arguments = third; core_results = fourth }

-- a line where there was a fault, or else the next one
abbrev pub line_of_first : Option Fault → Option ℕ → Option ℕ → Option ℕ
line_of_first (Some f) line next = line
line_of_first None line next = next

-- the line of the stage that refused the first type that is refused, where a pile did
abbrev pub placement_line : Sides → List Asked → List Asked → Option ℕ
placement_line s arguments results =
    line_of_first (first_refused s.bench_arguments arguments) (first_blamed s.bench_arguments arguments)
    (line_of_first (first_refused s.bench_results results) (first_blamed s.bench_results results)
    (line_of_first (first_refused s.core_arguments arguments) (first_blamed s.core_arguments arguments)
    (first_blamed s.core_results results)))

-- the allocations after a placement
abbrev pub sides_of : Placement → Sides
sides_of p = record {
  bench_arguments = p.bench_arguments.state;
  bench_results = p.bench_results.state;
  core_arguments = p.core_arguments.state;
  core_results = p.core_results.state;
}

-- those of bench and core, open or frozen, by the ghost members of their piles
abbrev pub both_sides : {A B C D S : Type 0} → Ghosts A → Ghosts B → Ghosts C → Ghosts D → Side (Allocation A S) (Allocation B S) → Side (Allocation C S) (Allocation D S) → Sides
both_sides a b c d bench core = record {
  bench_arguments = state a bench.arguments;
  bench_results = state b bench.results;
  core_arguments = state c core.arguments;
  core_results = state d core.results;
}

-- four allocations and a fault that came of a placement
pub record ComesOf (p : Placement) (s : Sides) (f : Option Fault) : Type 0 where
  pub allocations : s ≡ sides_of p
  pub fault : f ≡ p.core_results.fault
