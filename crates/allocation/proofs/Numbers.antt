-- Sizes that are given by numbers.
use Rattle.std.proofs.Common.{◌≡◌, ℕ, Some, None, Option, refl, rules, arith}
use Rattle.std.proofs.lemmas.Bool.Decides.{nat_tests}
use Rattle.values.specs.Sizes.{bytes}
use Rattle.values.specs.declared.kinds.Kind.{Kind}
use Rattle.values.specs.declared.sizes.Size.{Size}
use Rattle.values.specs.declared.sizes.Size.TheVariants.{One, Two, Four, Eight}
use Rattle.allocation.specs.Rules.{size_of, request_in}

pub that_size : (s : Size) → size_of (bytes s) ≡ Some s
that_size s = grind (arith, nat_tests)

pub no_size : (n : ℕ) → ((s : Size) → bytes s ≡ n → ⊥) → size_of n ≡ None
no_size n none =
    let a = none One in
    let b = none Two in
    let c = none Four in
    let d = none Eight in
    search rules

pub unaligned : (k : Kind) (w : Option Size) → request_in k w None ≡ None
unaligned k None = refl
unaligned k (Some w) = refl
