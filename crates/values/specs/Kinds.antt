-- Kinds of values: their letters, as character codes, and the widths that each comes in.
use Rattle.std.specs.Prelude.{◌≡◌, ◌≢◌, ℕ, Bool, true, false, Result, MatchResult}
use Rattle.values.specs.declared.kinds.Kind.{Kind}
use Rattle.values.specs.declared.kinds.Kind.TheVariants.{Unsigned, Signed, Float, Address}
use Rattle.values.specs.declared.sizes.Size.{Size}
use Rattle.values.specs.declared.unknown.Unknown.{Unknown}
use Rattle.values.specs.declared.sizes.Size.TheVariants.{One, Two, Four, Eight}

-- u, s, f, a
abbrev pub letter_of : Kind → ℕ
letter_of Unsigned = 117
letter_of Signed = 115
letter_of Float = 102
letter_of Address = 97

-- the kind of a letter, or that none has it
abbrev pub KindOfTheLetterOrNone : ℕ → Result Kind Unknown → Type 0
KindOfTheLetterOrNone letter r = MatchResult r (λ k. letter_of k ≡ letter) (λ _. (k : Kind) → letter_of k ≢ letter)

-- the eleven types: u1 u2 u4 u8 s1 s2 s4 s8 f4 f8 a4
abbrev pub is_type : Kind → Size → Bool
is_type Unsigned w = true
is_type Signed w = true
is_type Float One = false
is_type Float Two = false
is_type Float Four = true
is_type Float Eight = true
is_type Address One = false
is_type Address Two = false
is_type Address Four = true
is_type Address Eight = false
