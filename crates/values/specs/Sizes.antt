-- Sizes in bytes.
use Rattle.std.specs.Prelude.{◌≡◌, ◌≢◌, ℕ, ◌+◌, ◌-◌, ◌*◌, ◌/◌, cond, nat_lt, Result, MatchResult}
use Rattle.values.specs.declared.sizes.Size.{Size}
use Rattle.values.specs.declared.sizes.Size.TheVariants.{One, Two, Four, Eight}
use Rattle.values.specs.declared.unknown.Unknown.{Unknown}

abbrev pub bytes : Size → ℕ
bytes One = 1
bytes Two = 2
bytes Four = 4
bytes Eight = 8

-- a size has n bytes
abbrev pub HasBytes : ℕ → Size → Type 0
HasBytes n s = bytes s ≡ n

-- there is a size of n bytes, and this holds of it
abbrev pub OfBytes : ℕ → (Size → Type 0) → Type 0
OfBytes n Holds = (s : Size) × HasBytes n s × Holds s

-- the size of n bytes, or that there is none
abbrev pub SizeOfTheBytesOrNone : ℕ → Result Size Unknown → Type 0
SizeOfTheBytesOrNone n r = MatchResult r (HasBytes n) (λ _. (s : Size) → bytes s ≢ n)

-- s, or m where that is larger
abbrev pub larger_of : Size → Size → Size
larger_of m s = cond (nat_lt (bytes s) (bytes m)) m s

-- the least multiple of k that is at least n
abbrev pub round_up : ℕ → ℕ → ℕ
round_up k n = (n + (k - 1)) / k * k
