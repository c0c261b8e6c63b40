-- Sizes and rounding.
use Rattle.std.proofs.Common.{◌≡◌, ℕ, ◌+◌, ◌%◌, ◌<◌, ◌≤◌, arith}
use Rattle.std.proofs.lemmas.Bool.Decides.{nat_tests}
use Rattle.values.specs.Sizes.{bytes, larger_of, round_up}
use Rattle.values.specs.declared.sizes.Size.{Size}
use Rattle.values.specs.declared.sizes.Size.TheVariants.{Four}

-- what is known of a number that is rounded up to a size
pub record Rounded (s : Size) (n : ℕ) : Type 0 where
  pub not_below : n ≤ round_up (bytes s) n
  pub close : round_up (bytes s) n < n + bytes s
  pub multiple : round_up (bytes s) n % bytes s ≡ 0
  pub end_fits : n ≤ 4088 → round_up (bytes s) n ≤ 4088

pub rounded : (s : Size) (n : ℕ) → Rounded s n
rounded s n = record {
  not_below = grind (arith, nat_tests);
  close = grind (arith, nat_tests);
  multiple = grind (arith, nat_tests);
  end_fits = grind (arith, nat_tests);
}

pub at_least_one : (s : Size) → 1 ≤ bytes s
at_least_one s = grind (arith, nat_tests)

pub at_most_eight : (s : Size) → bytes s ≤ 8
at_most_eight s = grind (arith, nat_tests)

pub grown : (m s : Size) → bytes s ≤ bytes (larger_of m s)
grown m s = grind (arith, nat_tests)

pub four_grown : (s : Size) → 4 ≤ bytes (larger_of Four s)
four_grown s = grind (arith, nat_tests)

-- a multiple of the larger of two sizes is one of either
pub divides : (m s : Size) (o : ℕ) → bytes s ≤ bytes m → o % bytes m ≡ 0 → o % bytes s ≡ 0
divides m s o l e = grind (arith, nat_tests)

-- what is rounded up to four or more is a multiple of 4
pub by_four : (s : Size) (n : ℕ) → round_up (bytes (larger_of Four s)) n % 4 ≡ 0
by_four s n = divides (larger_of Four s) Four _ (four_grown s) (rounded (larger_of Four s) n).multiple
