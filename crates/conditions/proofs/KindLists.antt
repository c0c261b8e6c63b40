-- The set of the kinds of a list has a kind exactly if the kind stands in the list.
use Rattle.std.proofs.Common.{◌≡◌, Bool, true, false, ◌||◌, List, [], ◌∷◌, nat_eq, refl}
use Rattle.values.specs.Kinds.{letter_of}
use Rattle.values.specs.declared.kinds.Kind.{Kind}
use Rattle.values.specs.declared.kinds.Kind.TheVariants.{Unsigned, Signed, Float, Address}
use Rattle.conditions.specs.Tests.{has_kind, with_kind, with_kinds, no_kinds, is_one_of}
use Rattle.conditions.specs.declared.KindSet.{KindSet}

-- a set with a kind more, by the kind that is looked for
one_more : (s : KindSet) (j k : Kind) → has_kind (with_kind s j) k ≡ (nat_eq (letter_of j) (letter_of k) || has_kind s k)
one_more s Unsigned Unsigned = refl
one_more s Unsigned Signed = refl
one_more s Unsigned Float = refl
one_more s Unsigned Address = refl
one_more s Signed Unsigned = refl
one_more s Signed Signed = refl
one_more s Signed Float = refl
one_more s Signed Address = refl
one_more s Float Unsigned = refl
one_more s Float Signed = refl
one_more s Float Float = refl
one_more s Float Address = refl
one_more s Address Unsigned = refl
one_more s Address Signed = refl
one_more s Address Float = refl
one_more s Address Address = refl

past_one : (b c d : Bool) → (c || (b || d)) ≡ ((b || c) || d)
past_one true true d = refl
past_one true false d = refl
past_one false true d = refl
past_one false false d = refl

in_list : (ks : List Kind) (s : KindSet) (k : Kind) → has_kind (with_kinds s ks) k ≡ (is_one_of ks k || has_kind s k)
in_list [] s k = refl
in_list (j ∷ js) s k = rw (in_list js (with_kind s j) k, one_more s j k) (past_one (nat_eq (letter_of j) (letter_of k)) (is_one_of js k) (has_kind s k))

none_in : (k : Kind) → has_kind no_kinds k ≡ false
none_in Unsigned = refl
none_in Signed = refl
none_in Float = refl
none_in Address = refl

or_none : (b : Bool) → (b || false) ≡ b
or_none true = refl
or_none false = refl

pub has_its_kinds : (ks : List Kind) (k : Kind) → has_kind (with_kinds no_kinds ks) k ≡ is_one_of ks k
has_its_kinds ks k = rw (in_list ks no_kinds k, none_in k) (or_none (is_one_of ks k))
