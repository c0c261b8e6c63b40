-- There are four kinds.
use Rattle.std.proofs.Common.{inl, inr, Some, None, Option, Result, Ok, Err, cond, ◌≡◌, ℕ, suc, ◌<◌, drop, get_or, drop-cons, length-drop, ◌+◌, ◌≤◌, Bool, true, false, List, [], ◌∷◌, length, refl, arith}
use Rattle.std.proofs.lemmas.Bool.{and_parts, not-true, cases_Bool}
use Rattle.values.specs.declared.kinds.Kind.{Kind}
use Rattle.values.specs.declared.kinds.Kind.TheVariants.{Unsigned, Signed, Float, Address}
use Rattle.conditions.specs.declared.KindSet.{KindSet}
use Rattle.conditions.specs.Tests.{has_kind, with_kind, fresh_kinds, no_kinds, kinds_fault}
use Rattle.std.specs.Result.{result_ok}
use Rattle.values.specs.Kinds.{KindOfTheLetterOrNone}
use Rattle.values.specs.declared.unknown.Unknown.{Unknown}
use Rattle.std.specs.Option.{is_none, option_and_then}
use Rattle.texts.specs.Lists.{all_of}
use Rattle.texts.proofs.Gathering.{Gathering, gathering_stops, all_counted}
use Rattle.pages.specs.Lines.{kind_of, kinds_of}

abbrev one : Bool → ℕ
one true = 1
one false = 0

abbrev counted : KindSet → ℕ
counted s = one s.unsigned + one s.signed + one s.float + one s.address

at_most_one : (b : Bool) → one b ≤ 1
at_most_one true = omega arith
at_most_one false = omega arith

none_of : (b : Bool) → b ≡ false → one b ≡ 0
none_of true e = grind arith
none_of false e = refl

one_more : (s : KindSet) (k : Kind) → has_kind s k ≡ false → counted (with_kind s k) ≡ counted s + 1
one_more s Unsigned e = omega (arith, none_of _ e)
one_more s Signed e = omega (arith, none_of _ e)
one_more s Float e = omega (arith, none_of _ e)
one_more s Address e = omega (arith, none_of _ e)

few : (s : KindSet) → counted s ≤ 4
few s = omega (arith, at_most_one s.unsigned, at_most_one s.signed, at_most_one s.float, at_most_one s.address)

fresh_few : (ks : List Kind) (s : KindSet) → fresh_kinds s ks ≡ true → length ks + counted s ≤ 4
fresh_few [] s h = omega (arith, few s)
fresh_few (k ∷ ks) s h =
    let p = and_parts _ (fresh_kinds (with_kind s k) ks) h in
    omega (arith, one_more s k (not-true (has_kind s k) p.0), fresh_few ks (with_kind s k) p.1)

pub at_most_four : (ks : List Kind) → fresh_kinds no_kinds ks ≡ true → length ks ≤ 4
at_most_four ks h = omega (arith, fresh_few ks no_kinds h)

pub five_are_at_fault : (ks : List Kind) → 5 ≤ length ks → is_none (kinds_fault ks) ≡ false
five_are_at_fault ks l = elim (cases_Bool (fresh_kinds no_kinds ks)) [ inl t ↦ absurd (omega (arith, at_most_four ks t)) | inr f ↦ grind (arith, f) ]

pub kind_read : (c : ℕ) (r : Result Kind Unknown) → KindOfTheLetterOrNone c r → kind_of c ≡ result_ok r
kind_read c (Ok Unsigned) h = grind (arith, h)
kind_read c (Ok Signed) h = grind (arith, h)
kind_read c (Ok Float) h = grind (arith, h)
kind_read c (Ok Address) h = grind (arith, h)
kind_read c (Err e) h = grind (arith, h Unsigned, h Signed, h Float, h Address)

too_many : (word : List ℕ) → 5 ≤ length word → kinds_of word ≡ None
too_many word l = many (all_of kind_of word) (all_counted kind_of word)
  where
    many : (r : Option (List Kind)) → ((ks : List Kind) → r ≡ Some ks → length ks ≡ length word) → option_and_then (λ ks. cond (is_none (kinds_fault ks)) (Some ks) None) r ≡ None
    many None h = refl
    many (Some ks) h = rw (five_are_at_fault ks (omega (arith, h ks refl))) refl

pub unknown_at : (word : List ℕ) (ks : List Kind) (i : ℕ) → i < length word → Gathering kind_of word ks (drop i word) → kind_of (get_or word i 0) ≡ None → kinds_of word ≡ None
unknown_at word ks i l h e = rw (gathering_stops kind_of word ks (get_or word i 0) (drop (suc i) word) e (rw (drop-cons word i 0 l) at h)) refl

pub full_at : (word : List ℕ) (ks : List Kind) (i : ℕ) → i < length word → Gathering kind_of word ks (drop i word) → 4 ≤ length ks → kinds_of word ≡ None
full_at word ks i l h m = too_many word (omega (arith, h.counted, length-drop i word))
