-- How many stack bytes code takes, and how far its offsets go.
use Rattle.std.proofs.Common.{◌≡◌, ℕ, ◌+◌, ◌≤◌, List, [], ◌∷◌, ◌++◌, map, length, Some, None, Option, Ok, Err, Result, IfOk, OnOk, refl, sym, ap, subst, arith}
use Rattle.std.proofs.ByRecursion.{All-weaker}
use Rattle.std.specs.List.{AllByRecursion}
use Rattle.std.specs.Option.{option_to_list}
use Rattle.place.specs.Holdings.{Holding}
use Rattle.place.specs.Pieces.{pieces, Below}
use Rattle.place.specs.declared.pieces.Piece.{Piece}
use Rattle.place.specs.declared.pieces.Piece.TheVariants.{Register, Block}
use Rattle.place.specs.declared.pieces.Place.{Place}
use Rattle.values.specs.declared.requests.Request.{Request}
use Rattle.delivery.proofs.Saving.{saved_few}
use Rattle.delivery.proofs.WholeOffsets.{caller_whole, callee_whole}
use Rattle.delivery.specs.Code.{saved, frame_bytes, callee_code}
use Rattle.delivery.proofs.Ready.{AllPieces}
use Rattle.stage.proofs.Runs.{Always, always_after}
use Rattle.machine.specs.declared.Instruction.{Instruction}
use Rattle.stage.specs.Books.{Book, Questions, granted, said, after, past, used}
use Rattle.stage.specs.Lawful.{Lawful}
use Rattle.allocation.specs.States.{State}
use Rattle.emit.specs.Coding.{block_bytes, Coded, HoldsWhatRequestsGot, CallerOffsetsAreWhole, CalleeOffsetsAreWhole}
use Rattle.emit.specs.declared.faults.CodeFault.{CodeFault}

-- a lawful pile's reach, rounded up
pub block_of_got : (s : State) → Lawful s.profile.questions s.profile.first → HoldsWhatRequestsGot s → block_bytes s ≤ 4096
block_of_got s lawful got =
    let reach : used (past s.profile.first got.requests) ≤ 4096 = (lawful.after_every_list got.requests).reach_is_at_most_4096 in
    let same : used s.book ≡ used (past s.profile.first got.requests) = ap used got.book_is_what_they_left in
    omega (arith, same, reach)

module _ (s : State) (lawful : Lawful s.profile.questions s.profile.first) where
  pub few_of_size : (n : ℕ) (r : Result (ℕ × ℕ) CodeFault) → IfOk r (λ x. (x.0 ≡ n) × (x.1 ≡ block_bytes s)) → IfOk r (λ x. HoldsWhatRequestsGot s → x.1 ≤ 4096)
  few_of_size n (Ok x) h = λ got. let few = block_of_got s lawful got in omega (arith, h.1, few)
  few_of_size n (Err f) h = tt

  pub few_of_code : (made old new : List Instruction) (r : Result (ℕ × ℕ) CodeFault) → Coded made (block_bytes s) old new r → IfOk r (λ x. HoldsWhatRequestsGot s → x.1 ≤ 4096)
  few_of_code made old new (Ok x) h = λ got. let few = block_of_got s lawful got in omega (arith, h.2, few)
  few_of_code made old new (Err f) h = tt

-- a place whose pieces end within the block
abbrev PlaceWithin : Place → Type 0
PlaceWithin p = AllByRecursion (Below 4096) (pieces p)

below_more : (n : ℕ) → n ≤ 4096 → (x : Piece) → Below n x → Below 4096 x
below_more n l (Register d) h = tt
below_more n l (Block o w) h = omega (arith, l, h)

-- a place that is given, and those after it
given_first : (o : Option Place) (ps : List Place) → ((p : Place) → o ≡ Some p → PlaceWithin p) → AllByRecursion PlaceWithin ps → AllByRecursion PlaceWithin (option_to_list o ++ ps)
given_first None ps h a = a
given_first (Some p) ps h a = (h p refl, a)

-- what a lawful book grants ends within the block
granted_within : (q : Questions) (b : Book) → Always q b → (rs : List Request) → AllByRecursion PlaceWithin (granted b rs)
granted_within q b always [] = tt
granted_within q b always (r ∷ rs) =
    let reach = (always (r ∷ [])).reach_is_at_most_4096 in
    given_first (said b r) (granted (after b r) rs)
    (λ p e. All-weaker (Below (used (after b r))) (Below 4096) (below_more (used (after b r)) reach) (pieces p) ((always []).places_are_granted_lawfully r p e).reach_lies_above_its_block_bytes)
    (granted_within q (after b r) (always_after q b r always) rs)

held_as_places : (hs : List Holding) → AllByRecursion PlaceWithin (map (λ h. h.place) hs) → AllPieces (Below 4096) hs
held_as_places [] a = tt
held_as_places (h ∷ hs) a = (a.0, held_as_places hs a.1)

held_within : (s : State) → Lawful s.profile.questions s.profile.first → HoldsWhatRequestsGot s → AllPieces (Below 4096) s.held
held_within s lawful got =
    held_as_places s.held (subst (AllByRecursion PlaceWithin) (sym got.held_places_are_what_they_got) (granted_within s.profile.questions s.profile.first lawful.after_every_list got.requests))

module _ (s : State) (lawful : Lawful s.profile.questions s.profile.first) (t : State) where
  pub uncut_caller : (r : Result (ℕ × ℕ) CodeFault) → OnOk r (length s.held + length t.held ≤ 32) → OnOk r (HoldsWhatRequestsGot s → CallerOffsetsAreWhole s t)
  uncut_caller (Ok x) few = λ got. caller_whole s.held t.held (block_bytes s) (block_of_got s lawful got) few (held_within s lawful got)
  uncut_caller (Err f) few = tt

  pub uncut_callee : Lawful t.profile.questions t.profile.first → (kept : ℕ) (body old new : List Instruction) (r : Result (ℕ × ℕ) CodeFault) → Coded (callee_code s.held t.held kept body) (frame_bytes s.held t.held (saved kept body)) old new r → IfOk r (λ x. x.1 ≤ 272) → OnOk r (length s.held + length t.held ≤ 32) → OnOk r (HoldsWhatRequestsGot s → HoldsWhatRequestsGot t → CalleeOffsetsAreWhole s t kept body)
  uncut_callee other kept body old new (Ok x) coded bytes few =
      λ got. λ had. callee_whole s.held t.held kept body (omega (arith, coded.2, bytes)) few (saved_few kept body) (held_within s lawful got) (held_within t other had)
  uncut_callee other kept body old new (Err f) coded bytes few = tt
