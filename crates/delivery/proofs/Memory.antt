-- Bytes of stored numbers and of words.
use Rattle.std.proofs.Common.{◌≡◌, ℕ, zero, suc, ◌+◌, ◌*◌, ◌/◌, ◌%◌, ◌^◌, ◌<◌, ◌≤◌, List, length, get_or, set, sym, refl, ap, ◌∙◌, inl, inr, add-zero, div-one, arith}
use native.Mathlib.Nat.{pow-zero, pow-succ', div-div-eq-div-mul, zero-div}
use Rattle.std.proofs.lemmas.List.{get_or-set_same, get_or-set_other, length-set}
use Rattle.std.proofs.lemmas.Bool.{cases_eq}
use Rattle.machine.proofs.Frames.{stored_other}
use Rattle.machine.specs.Machine.{word, stored}
use Rattle.delivery.specs.Widening.{byte_of}

byte_zero : (v : ℕ) → byte_of v 0 ≡ v % 256
byte_zero v = ap (λ k. k % 256) (div-one v)

byte_suc : (v i : ℕ) → byte_of v (suc i) ≡ byte_of (v / 256) i
byte_suc v i = ap (λ k. k % 256) (ap (λ k. v / k) (pow-succ' 256 i) ∙ sym (div-div-eq-div-mul v 256 (256 ^ i)))

-- a byte of what was stored
pub stored_byte : (k i : ℕ) (m : List ℕ) (a v : ℕ) → i < k → a + k ≤ length m → get_or (stored m a k v) (a + i) 0 ≡ byte_of v i
stored_byte zero i m a v h l = absurd (omega arith)
stored_byte (suc k) zero m a v h l =
    let n : List ℕ = set m a (v % 256) in
    let within : a < length m = omega arith in
    rw (add-zero a) (stored_other k n (a + 1) (v / 256) a (inl (omega arith)) ∙ get_or-set_same m a (v % 256) 0 within ∙ sym (byte_zero v))
stored_byte (suc k) (suc i) m a v h l =
    let n : List ℕ = set m a (v % 256) in
    let room : a + 1 + k ≤ length n = simp length-set (omega arith) in
    let sum : a + suc i ≡ a + 1 + i = omega arith in
    ap (λ j. get_or (stored n (a + 1) k (v / 256)) j 0) sum ∙ stored_byte k i n (a + 1) (v / 256) (omega arith) room ∙ sym (byte_suc v i)

-- memory of which every byte is below 256
abbrev pub Bytes : List ℕ → Type 0
Bytes m = (a : ℕ) → get_or m a 0 < 256

set_bytes : (m : List ℕ) (a v : ℕ) → Bytes m → a < length m → Bytes (set m a (v % 256))
set_bytes m a v s within j = elim (cases_eq j a) [
  | inl e ↦ let got : get_or (set m a (v % 256)) j 0 ≡ v % 256 = ap (λ n. get_or (set m a (v % 256)) n 0) e ∙ get_or-set_same m a (v % 256) 0 within in omega arith
  | inr d ↦ let same : get_or (set m a (v % 256)) j 0 ≡ get_or m j 0 = get_or-set_other m a j (v % 256) 0 d in omega (arith, s j)
]

pub stored_bytes : (k : ℕ) (m : List ℕ) (a v : ℕ) → Bytes m → a + k ≤ length m → Bytes (stored m a k v)
stored_bytes zero m a v s l = s
stored_bytes (suc k) m a v s l =
    let n : List ℕ = set m a (v % 256) in
    let room : a + 1 + k ≤ length n = simp length-set (omega arith) in
    stored_bytes k n (a + 1) (v / 256) (set_bytes m a v s (omega arith)) room

-- a byte of a word
pub word_byte : (k i : ℕ) (m : List ℕ) (a : ℕ) → Bytes m → i < k → byte_of (word m a k) i ≡ get_or m (a + i) 0
word_byte zero i m a s h = absurd (omega arith)
word_byte (suc k) zero m a s h = rw (add-zero a) (byte_zero (word m a (suc k)) ∙ omega (arith, s a))
word_byte (suc k) (suc i) m a s h =
    let rest : word m a (suc k) / 256 ≡ word m (a + 1) k = omega (arith, s a) in
    let sum : a + 1 + i ≡ a + suc i = omega arith in
    byte_suc (word m a (suc k)) i ∙ ap (λ v. byte_of v i) rest ∙ word_byte k i m (a + 1) s (omega arith) ∙ ap (λ j. get_or m j 0) sum

-- behind a word's last byte come zeros
pub word_past : (k i : ℕ) (m : List ℕ) (a : ℕ) → Bytes m → k ≤ i → byte_of (word m a k) i ≡ 0
word_past zero i m a s h = ap (λ n. n % 256) (zero-div (256 ^ i))
word_past (suc k) zero m a s h = absurd (omega arith)
word_past (suc k) (suc i) m a s h =
    let rest : word m a (suc k) / 256 ≡ word m (a + 1) k = omega (arith, s a) in
    byte_suc (word m a (suc k)) i ∙ ap (λ v. byte_of v i) rest ∙ word_past k i m (a + 1) s (omega arith)

-- numbers below 256 ^ k with the same bytes
pub same_bytes : (k v w : ℕ) → v < 256 ^ k → w < 256 ^ k → ((i : ℕ) → i < k → byte_of v i ≡ byte_of w i) → v ≡ w
same_bytes zero v w p q h = let e : 256 ^ 0 ≡ 1 = pow-zero 256 in omega arith
same_bytes (suc k) v w p q h =
    let e : 256 ^ suc k ≡ 256 * 256 ^ k = pow-succ' 256 k in
    let first : v % 256 ≡ w % 256 = sym (byte_zero v) ∙ h 0 (omega arith) ∙ byte_zero w in
    let rest : v / 256 ≡ w / 256 = same_bytes k (v / 256) (w / 256) (omega arith) (omega arith) (λ i l. sym (byte_suc v i) ∙ h (suc i) (omega arith) ∙ byte_suc w i) in
    omega arith

pub word_below : (k : ℕ) (m : List ℕ) (a : ℕ) → Bytes m → word m a k < 256 ^ k
word_below zero m a s = let e : 256 ^ 0 ≡ 1 = pow-zero 256 in omega arith
word_below (suc k) m a s =
    let e : 256 ^ suc k ≡ 256 * 256 ^ k = pow-succ' 256 k in
    let rest = word_below k m (a + 1) s in
    omega (arith, s a)

-- memories that are the same from byte b on
abbrev pub AgreeFrom : ℕ → List ℕ → List ℕ → Type 0
AgreeFrom b m n = (i : ℕ) → b ≤ i → get_or m i 0 ≡ get_or n i 0

pub word_same : (k : ℕ) (m n : List ℕ) (a : ℕ) → AgreeFrom a m n → word m a k ≡ word n a k
word_same zero m n a e = refl
word_same (suc k) m n a e =
    let first = e a (omega arith) in
    let rest = word_same k m n (a + 1) (λ i h. e i (omega arith)) in
    rw (first, rest)
