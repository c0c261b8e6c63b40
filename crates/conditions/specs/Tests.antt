-- The tests by which a layer chooses.
use Rattle.std.specs.Prelude.{◌≡◌, ℕ, Bool, true, false, cond, not, ◌&&◌, ◌||◌, List, [], ◌∷◌, length, Some, None, Option, nat_le, nat_eq}
use Rattle.values.specs.Kinds.{letter_of}
use Rattle.values.specs.Sizes.{bytes}
use Rattle.values.specs.declared.kinds.Kind.{Kind}
use Rattle.values.specs.declared.kinds.Kind.TheVariants.{Unsigned, Signed, Float, Address}
use Rattle.values.specs.declared.requests.Request.{Request}
use Rattle.stage.specs.Faults.{Fault, unplaced}
use Rattle.conditions.specs.declared.KindSet.{KindSet}
use Rattle.conditions.specs.declared.Rule.{Rule}
use Rattle.conditions.specs.declared.Rule.TheVariants.{Kinds, AtLeast}
use Rattle.conditions.specs.declared.Test.{Test}

abbrev pub has_kind : KindSet → Kind → Bool
has_kind s Unsigned = s.unsigned
has_kind s Signed = s.signed
has_kind s Float = s.float
has_kind s Address = s.address

abbrev pub with_kind : KindSet → Kind → KindSet
with_kind s Unsigned = record { unsigned = true; signed = s.signed; float = s.float; address = s.address }
with_kind s Signed = record { unsigned = s.unsigned; signed = true; float = s.float; address = s.address }
with_kind s Float = record { unsigned = s.unsigned; signed = s.signed; float = true; address = s.address }
with_kind s Address = record { unsigned = s.unsigned; signed = s.signed; float = s.float; address = true }

abbrev pub no_kinds : KindSet
no_kinds = record { unsigned = false; signed = false; float = false; address = false }

-- no kind of the list is in the set or stands before in the list
abbrev pub fresh_kinds : KindSet → List Kind → Bool
fresh_kinds s [] = true
fresh_kinds s (k ∷ ks) = not (has_kind s k) && fresh_kinds (with_kind s k) ks

-- the set with the kinds of a list
abbrev pub with_kinds : KindSet → List Kind → KindSet
with_kinds s [] = s
with_kinds s (k ∷ ks) = with_kinds (with_kind s k) ks

-- a request meets a test if its kind is one of those, or if it is at least so wide
abbrev pub meets_rule : Rule → Request → Bool
meets_rule (Kinds s) r = has_kind s r.kind
meets_rule (AtLeast m) r = nat_le (bytes m) (bytes r.width)

abbrev pub meets : Test → Request → Bool
meets t = meets_rule t.rule

-- a test that these requests meet, and no other
abbrev pub MeetsExactly : (Request → Bool) → Test → Type 0
MeetsExactly these t = (r : Request) → meets t r ≡ these r

-- whether a kind stands in a list; kinds are told apart by their letters
abbrev pub is_one_of : List Kind → Kind → Bool
is_one_of [] k = false
is_one_of (j ∷ js) k = nat_eq (letter_of j) (letter_of k) || is_one_of js k

-- the requests whose kind is one of a list
abbrev pub is_of_kinds : List Kind → Request → Bool
is_of_kinds ks r = is_one_of ks r.kind

-- the requests for n bytes at least
abbrev pub is_at_least : ℕ → Request → Bool
is_at_least n r = nat_le n (bytes r.width)

-- a test is of one or more different kinds
abbrev pub kinds_fault : List Kind → Option Fault
kinds_fault ks = cond (nat_le 1 (length ks) && fresh_kinds no_kinds ks) None (Some (unplaced 2))
