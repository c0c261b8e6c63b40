-- What the code calls answer, and what they leave in the list.
use Rattle.std.specs.Prelude.{◌≡◌, ℕ, ◌+◌, ◌-◌, ◌^◌, Bool, false, cond, not, ◌||◌, List, [], ◌∷◌, ◌++◌, length, map, drop, Some, None, Ok, Err, Option, Result, nat_lt}
use Rattle.machine.specs.declared.Instruction.{Instruction}
use Rattle.place.specs.Holdings.{Holding}
use Rattle.place.specs.Pieces.{in_block, low_piece}
use Rattle.place.specs.Registers.{apart}
use Rattle.stage.specs.Books.{Profile, granted, past, used}
use Rattle.allocation.specs.Rules.{placed}
use Rattle.allocation.specs.States.{State, opened}
use Rattle.allocation.specs.declared.asked.Asked.{Asked}
use Rattle.values.specs.declared.requests.Request.{Request}
use Rattle.delivery.specs.Bodies.{body_fault}
use Rattle.delivery.specs.Code.{stack_bytes, home_bytes, caller_code, callee_code, whole_caller_code, whole_callee_code}
pub use Rattle.emit.specs.Faults.{Fault, code_fault_of, fault_in}
use Rattle.emit.specs.declared.faults.CodeFault.{CodeFault}
use Rattle.emit.specs.declared.faults.CodeFault.TheVariants.{Kept, Results, Body, TooShort}

-- a place lies in the block if its low piece does
abbrev pub in_block_any : List Holding → Bool
in_block_any [] = false
in_block_any (h ∷ hs) = in_block (low_piece h.place) || in_block_any hs

-- the block bytes of an argument allocation, rounded up
abbrev pub block_bytes : State → ℕ
block_bytes s = stack_bytes (used s.book)

-- an allocation holds what requests on its pile's first book were granted, and has the book that they left, as each one
-- does which was opened and asked for places
pub record HoldsWhatRequestsGot (s : State) : Type 0 where
  pub requests : List Request
  pub book_is_what_they_left : s.book ≡ past s.profile.first requests
  pub held_places_are_what_they_got : map (λ h. h.place) s.held ≡ granted s.profile.first requests

-- that holds when an allocation is opened, and each request for a place keeps it
pub record RequestsGetWhatIsHeld : Type 0 where
  pub when_opened : (p : Profile) → HoldsWhatRequestsGot (opened p)
  pub after_each_request : (s : State) (q : Asked) → HoldsWhatRequestsGot s → HoldsWhatRequestsGot (placed s q)

-- a kept register above r27, or in the set of arguments or of results
abbrev pub kept_clashes : ℕ → ℕ → ℕ → Bool
kept_clashes args results kept = nat_lt (2 ^ 28 - 1) kept || (not (apart kept args) || not (apart kept results))

-- more than four results, or one in the block
abbrev pub results_forbidden : List Holding → Bool
results_forbidden held = nat_lt 4 (length held) || in_block_any held

-- why no code is made for these allocations: the kept registers are tested, then the results
abbrev pub places_fault : State → State → ℕ → Option Fault
places_fault args results kept =
    cond (kept_clashes args.profile.questions.registers results.profile.questions.registers kept) (Some (code_fault_of Kept)) (cond (results_forbidden results.held) (Some (code_fault_of Results)) None)

-- the fault of a code call whose code has so many records, with room for so many
abbrev pub short_fault : Option Fault → ℕ → ℕ → Option Fault
short_fault (Some f) made room = Some f
short_fault None made room = cond (nat_lt room made) (Some (code_fault_of TooShort)) None

abbrev pub caller_fault : State → State → ℕ → ℕ → Option Fault
caller_fault args results kept room = short_fault (places_fault args results kept) (length (caller_code args.held results.held (block_bytes args))) room

-- the fault of the places, or else that of the body's instruction at this index
abbrev pub or_body : Option Fault → Option ℕ → Option Fault
or_body (Some f) o = Some f
or_body None (Some i) = Some (code_fault_of (Body i))
or_body None None = None

abbrev pub callee_fault : State → State → ℕ → List Instruction → ℕ → Option Fault
callee_fault args results kept body room =
    short_fault (or_body (places_fault args results kept) (body_fault (home_bytes (length args.held + length results.held)) body 0)) (length (callee_code args.held results.held kept body)) room

-- code that stands at the front of the list, with the rest as before, and the answer of its length and its stack; a refusal leaves the list as it was
abbrev pub Coded : List Instruction → ℕ → List Instruction → List Instruction → Result (ℕ × ℕ) CodeFault → Type 0
Coded made bytes old new (Ok r) = (new ≡ made ++ drop (length made) old) × (r.0 ≡ length made) × (r.1 ≡ bytes)
Coded made bytes old new (Err f) = new ≡ old

-- the caller's code, and the callee's, as written has each offset as the whole number that the rules say
abbrev pub CallerOffsetsAreWhole : State → State → Type 0
CallerOffsetsAreWhole args results =
    caller_code args.held results.held (block_bytes args) ≡ whole_caller_code args.held results.held (block_bytes args)

abbrev pub CalleeOffsetsAreWhole : State → State → ℕ → List Instruction → Type 0
CalleeOffsetsAreWhole args results kept body =
    callee_code args.held results.held kept body ≡ whole_callee_code args.held results.held kept body
