-- Numbers and registers as words.
use Rattle.std.specs.Prelude.{◌≡◌, ◌≢◌, ℕ, ◌+◌, ◌-◌, ◌*◌, ◌/◌, ◌%◌, ◌<◌, Bool, cond, ◌&&◌, List, [], ◌∷◌, Option, Some, None, MatchOption, nat_eq, nat_le, nat_lt}

-- 0 to 9, and 1 to 9
abbrev pub is_digit : ℕ → Bool
is_digit c = nat_le 48 c && nat_le c 57

abbrev pub is_leading_digit : ℕ → Bool
is_leading_digit c = nat_lt 48 c && nat_le c 57

-- a number below 100 in one or two digits, with no zero in front of another digit
abbrev pub number_word : ℕ → List ℕ
number_word n = cond (nat_lt n 10) ((48 + n) ∷ []) ((48 + n / 10) ∷ (48 + n % 10) ∷ [])

-- r and a number
abbrev pub register_word : ℕ → List ℕ
register_word r = 114 ∷ number_word r

-- the number that a word stands for
abbrev pub number_of : List ℕ → Option ℕ
number_of [] = None
number_of (d ∷ []) = cond (is_digit d) (Some (d - 48)) None
number_of (t ∷ d ∷ []) = cond (is_leading_digit t && is_digit d) (Some ((t - 48) * 10 + (d - 48))) None
number_of (t ∷ d ∷ e ∷ more) = None

abbrev pub register_of : List ℕ → Option ℕ
register_of [] = None
register_of (c ∷ word) = cond (nat_eq c 114) (number_of word) None

-- the number below 100 that a word writes, or that it writes none
abbrev pub WritesTheNumberOrNone : (ℕ → List ℕ) → List ℕ → Option ℕ → Type 0
WritesTheNumberOrNone written word r = MatchOption r ((n : ℕ) → n < 100 → written n ≢ word) (λ n. (n < 100) × (written n ≡ word))
