-- The words of types, and the requests that ask for them.
use Rattle.std.specs.Prelude.{◌≡◌, ◌≢◌, ℕ, ◌+◌, true, List, [], ◌∷◌, Result, MatchResult, refl}
use Rattle.values.specs.Kinds.{letter_of, is_type}
use Rattle.values.specs.Sizes.{bytes}
use Rattle.values.specs.declared.kinds.Kind.{Kind}
use Rattle.values.specs.declared.kinds.Kind.TheVariants.{Unsigned, Signed, Float, Address}
use Rattle.values.specs.declared.sizes.Size.{Size}
use Rattle.values.specs.declared.sizes.Size.TheVariants.{One, Two, Four, Eight}
use Rattle.values.specs.declared.value_type.ValueType.{ValueType}
use Rattle.values.specs.declared.requests.Request.{Request}
use Rattle.values.specs.declared.unknown.Unknown.{Unknown}

-- the type of a kind and a width, where there is one
abbrev pub type_of : (k : Kind) (w : Size) → is_type k w ≡ true → ValueType
type_of k w e = record { kind = k; width = w; one_of_the_eleven = e }

-- the eleven types: u1 u2 u4 u8 s1 s2 s4 s8 f4 f8 a4
abbrev pub all_types : List ValueType
all_types =
    type_of Unsigned One refl ∷ type_of Unsigned Two refl ∷ type_of Unsigned Four refl ∷ type_of Unsigned Eight refl ∷
    type_of Signed One refl ∷ type_of Signed Two refl ∷ type_of Signed Four refl ∷ type_of Signed Eight refl ∷
    type_of Float Four refl ∷ type_of Float Eight refl ∷ type_of Address Four refl ∷ []

-- its letter and the digit of its width
abbrev pub word_of : ValueType → List ℕ
word_of t = letter_of t.kind ∷ (48 + bytes t.width) ∷ []

-- the type with a word, or that none has it
abbrev pub TypeWithTheWordOrNone : List ℕ → Result ValueType Unknown → Type 0
TypeWithTheWordOrNone word r = MatchResult r (λ t. word_of t ≡ word) (λ _. (t : ValueType) → word_of t ≢ word)

-- aligned to its width
abbrev pub own_request : ValueType → Request
own_request t = record { kind = t.kind; width = t.width; alignment = t.width }
