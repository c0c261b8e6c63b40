-- The registers of a set.
use Rattle.std.proofs.Common.{◌≡◌, ℕ, ◌+◌, ◌-◌, ◌*◌, ◌/◌, ◌%◌, ◌^◌, ◌<◌, min, max, true, false, cond, ltb, ◌⊎◌, sym, ap, ◌∙◌, inl, inr, one-mul, arith}
use native.Mathlib.Nat.{zero-div}
use lib.Bits.{bit_and, bit_or, and_shr, or_shr, and_step, or_step}
use lib.Pow.{pow-lt}
use Rattle.std.proofs.lemmas.Nat.{shl-shr, div_below, pow_pos, pow-add}
use Rattle.std.proofs.lemmas.Bool.{eqb-true, eq-eqb, cases_eq, cases_order, lt-ltb}
use Rattle.place.specs.Registers.{bit, has, with, apart}

bit-bit_or : (m n x : ℕ) → bit (bit_or m n) x ≡ max (bit m x) (bit n x)
bit-bit_or m n x = rw (or_shr m n x) (omega (arith, or_step (m / 2 ^ x) (n / 2 ^ x)))

bit-bit_and : (m n x : ℕ) → bit (bit_and m n) x ≡ min (bit m x) (bit n x)
bit-bit_and m n x = rw (and_shr m n x) (omega (arith, and_step (m / 2 ^ x) (n / 2 ^ x)))

one_of : (m x : ℕ) → has m x ≡ true → bit m x ≡ 1
one_of m x h = eqb-true (bit m x) 1 h

pub none_in_empty : (x : ℕ) → has 0 x ≡ true → ⊥
none_in_empty x h = let e : bit 0 x ≡ 0 = ap (λ k. k % 2) (zero-div (2 ^ x)) in omega (arith, one_of 0 x h)

pub union_left : (m n x : ℕ) → has m x ≡ true → has (bit_or m n) x ≡ true
union_left m n x h = eq-eqb _ 1 (bit-bit_or m n x ∙ omega (arith, one_of m x h))

pub union_right : (m n x : ℕ) → has n x ≡ true → has (bit_or m n) x ≡ true
union_right m n x h = eq-eqb _ 1 (bit-bit_or m n x ∙ omega (arith, one_of n x h))

pub union_cases : (m n x : ℕ) → has (bit_or m n) x ≡ true → (has m x ≡ true) ⊎ (has n x ≡ true)
union_cases m n x h =
    let e : max (bit m x) (bit n x) ≡ 1 = sym (bit-bit_or m n x) ∙ one_of (bit_or m n) x h in
    elim (cases_eq (bit m x) 1) [ inl a ↦ inl (eq-eqb _ 1 a) | inr b ↦ inr (eq-eqb _ 1 (grind arith)) ]

-- no register is in two sets that are apart
pub apart_differ : (m n x y : ℕ) → apart m n ≡ true → has m x ≡ true → has n y ≡ true → x ≡ y → ⊥
apart_differ m n x y d h k q =
    let one : bit n x ≡ 1 = ap (bit n) q ∙ one_of n y k in
    let both : bit (bit_and m n) x ≡ 1 = bit-bit_and m n x ∙ omega (arith, one_of m x h) in
    none_in_empty x (eq-eqb _ 1 (ap (λ w. bit w x) (sym (eqb-true (bit_and m n) 0 d)) ∙ both))

power_itself : (x : ℕ) → bit (2 ^ x) x ≡ 1
power_itself x = let e : 2 ^ x / 2 ^ x ≡ 1 = rw one-mul at (shl-shr 1 x) in rw e

-- a power of two has one bit
power_other : (x y : ℕ) → bit (2 ^ x) y ≡ 1 → x ≡ y
power_other x y h =
    elim (cases_order x y) [
      | inl e ↦ e
      | inr d ↦ elim d [
        | inl l ↦
            let below : 2 ^ x / 2 ^ y < 1 = div_below (2 ^ x) (2 ^ y) 1 (pow_pos y) (let p : 2 ^ x < 2 ^ y = pow-lt l in omega arith) in
            absurd (omega arith)
        | inr g ↦
            let k = x - y - 1 in
            let split : x ≡ (k + 1) + y = omega arith in
            let e : 2 ^ x / 2 ^ y ≡ 2 ^ (k + 1) = ap (λ n. 2 ^ n / 2 ^ y) split ∙ (ap (λ n. n / 2 ^ y) (pow-add 2 (k + 1) y) ∙ shl-shr (2 ^ (k + 1)) y) in
            let f : 2 ^ (k + 1) ≡ 2 ^ k * 2 = pow-add 2 k 1 in
            absurd (omega (arith, e, f))
      ]
    ]

pub with_itself : (set x : ℕ) → x < 32 → has (with set x) x ≡ true
with_itself set x h = rw (lt-ltb x 32 h) (union_right set (2 ^ x) x (eq-eqb _ 1 (power_itself x)))

pub with_others : (set x y : ℕ) → has set y ≡ true → has (with set x) y ≡ true
with_others set x y h = elim (ltb x 32) as (λ b. has (cond b (bit_or set (2 ^ x)) set) y ≡ true) [ true ↦ union_left set (2 ^ x) y h | false ↦ h ]

pub with_cases : (set x y : ℕ) → has (with set x) y ≡ true → (has set y ≡ true) ⊎ (x ≡ y)
with_cases set x y =
    elim (ltb x 32) as (λ b. has (cond b (bit_or set (2 ^ x)) set) y ≡ true → (has set y ≡ true) ⊎ (x ≡ y)) [
      | true ↦ λ h. elim (union_cases set (2 ^ x) y h) [ inl a ↦ inl a | inr b ↦ inr (power_other x y (one_of (2 ^ x) y b)) ]
      | false ↦ λ h. inl h
    ]
