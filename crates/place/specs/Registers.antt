-- Sets of registers, as numbers of which bit r stands for register r.
use Rattle.std.specs.Prelude.{ℕ, ◌/◌, ◌%◌, ◌^◌, Bool, cond, ◌==◌, bit_and, bit_or, nat_lt}

abbrev pub bit : ℕ → ℕ → ℕ
bit set r = set / 2 ^ r % 2

abbrev pub has : ℕ → ℕ → Bool
has set r = (bit set r) == 1

-- the set with one register more; there are registers 0 to 31
abbrev pub with : ℕ → ℕ → ℕ
with set r = cond (nat_lt r 32) (bit_or set (2 ^ r)) set

-- no register is in both
abbrev pub apart : ℕ → ℕ → Bool
apart a b = bit_and a b == 0
