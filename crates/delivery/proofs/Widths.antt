-- Loaded values, byte by byte.
use Rattle.std.proofs.Common.{◌≡◌, ℕ, zero, suc, ◌+◌, ◌-◌, ◌%◌, ◌^◌, ◌<◌, ◌≤◌, Bool, true, false, cond, ltb, List, get_or, refl, ap, ◌∙◌, inl, inr, add_assoc, arith}
use native.Mathlib.Nat.{zero-div}
use Rattle.std.proofs.lemmas.Bool.{cases_lt, lt-ltb, le-ltb}
use Rattle.std.proofs.lemmas.Bool.Decides.{nat_tests}
use Rattle.machine.specs.Machine.{word, loaded, widened, sign_of}
use Rattle.machine.specs.declared.Width.{Width}
use Rattle.machine.specs.declared.Width.TheVariants as Widths
use Rattle.values.specs.Sizes.{bytes}
use Rattle.values.specs.declared.kinds.Kind.{Kind}
use Rattle.values.specs.declared.kinds.Kind.TheVariants.{Unsigned, Signed, Float, Address}
use Rattle.values.specs.declared.sizes.Size.{Size}
use Rattle.values.specs.declared.sizes.Size.TheVariants.{One, Two, Four, Eight}
use Rattle.delivery.specs.Code.{moved, by_sign}
use Rattle.delivery.specs.Widening.{byte_of, extension, widened_byte}
use Rattle.delivery.proofs.Memory.{Bytes, AgreeFrom, word_byte, word_past, word_below}

-- one of the indexes below 4
below_four : (P : ℕ → Type 0) → P 0 → P 1 → P 2 → P 3 → (i : ℕ) → i < 4 → P i
below_four P a b c d zero h = a
below_four P a b c d (suc zero) h = b
below_four P a b c d (suc (suc zero)) h = c
below_four P a b c d (suc (suc (suc zero))) h = d
below_four P a b c d (suc (suc (suc (suc i)))) h = absurd (omega arith)

-- the byte that a signed load has at i, where k bytes were loaded
abbrev signed_byte : ℕ → ℕ → ℕ → ℕ
signed_byte k v i = cond (ltb i k) (byte_of v i) (extension Signed (byte_of v (k - 1)))

signed_one : (v i : ℕ) → v < 256 → i < 4 → byte_of (widened true 1 v) i ≡ signed_byte 1 v i
signed_one v i l h = below_four (λ i. byte_of (widened true 1 v) i ≡ signed_byte 1 v i) (grind (arith, nat_tests)) (grind (arith, nat_tests)) (grind (arith, nat_tests)) (grind (arith, nat_tests)) i h

signed_two : (v i : ℕ) → v < 65536 → i < 4 → byte_of (widened true 2 v) i ≡ signed_byte 2 v i
signed_two v i l h = below_four (λ i. byte_of (widened true 2 v) i ≡ signed_byte 2 v i) (grind (arith, nat_tests)) (grind (arith, nat_tests)) (grind (arith, nat_tests)) (grind (arith, nat_tests)) i h

signed_whole : (v : ℕ) → widened true 4 v ≡ v
signed_whole v = grind (arith, nat_tests)

-- 4 bytes are the same by sign and with zeros
pub whole_loaded : (b : Bool) (v : ℕ) → widened b 4 v ≡ v
whole_loaded false v = refl
whole_loaded true v = signed_whole v

signed_below_one : (v : ℕ) → v < 256 → widened true 1 v < 4294967296
signed_below_one v l = grind (arith, nat_tests)

signed_below_two : (v : ℕ) → v < 65536 → widened true 2 v < 4294967296
signed_below_two v l = grind (arith, nat_tests)

-- a word goes on with zeros
zero_byte : (k : ℕ) (m : List ℕ) (a i : ℕ) → Bytes m → byte_of (word m a k) i ≡ cond (ltb i k) (get_or m (a + i) 0) 0
zero_byte k m a i s =
    elim (cases_lt i k) [
      | inl h ↦ let t = lt-ltb i k h in rw t (word_byte k i m a s h)
      | inr h ↦ let t = le-ltb i k h in rw t (word_past k i m a s h)
    ]

-- the bytes that a signed load has, in memory
signed_bytes : (k : ℕ) (m : List ℕ) (a i : ℕ) → Bytes m → 0 < k → signed_byte k (word m a k) i ≡ cond (ltb i k) (get_or m (a + i) 0) (extension Signed (get_or m (a + (k - 1)) 0))
signed_bytes k m a i s l =
    let last = word_byte k (k - 1) m a s (omega arith) in
    elim (cases_lt i k) [
      | inl h ↦ let t = lt-ltb i k h in rw t (word_byte k i m a s h)
      | inr h ↦ let t = le-ltb i k h in rw (t, last)
    ]

plain_loaded : (w : Size) (m : List ℕ) (a i : ℕ) → Bytes m → i < 4 → byte_of (loaded m a (moved w) false) i ≡ cond (ltb i (bytes w)) (get_or m (a + i) 0) 0
plain_loaded One m a i s h = zero_byte 1 m a i s
plain_loaded Two m a i s h = zero_byte 2 m a i s
plain_loaded Four m a i s h = zero_byte 4 m a i s
plain_loaded Eight m a i s h = let t : ltb i 8 ≡ true = lt-ltb i 8 (omega arith) in rw t (word_byte 4 i m a s h)

signed_loaded : (w : Size) (m : List ℕ) (a i : ℕ) → Bytes m → i < 4 → byte_of (loaded m a (moved w) true) i ≡ widened_byte Signed w m a i
signed_loaded One m a i s h = signed_one (word m a 1) i (word_below 1 m a s) h ∙ signed_bytes 1 m a i s (omega arith)
signed_loaded Two m a i s h = signed_two (word m a 2) i (word_below 2 m a s) h ∙ signed_bytes 2 m a i s (omega arith)
signed_loaded Four m a i s h =
    let t : ltb i 4 ≡ true = lt-ltb i 4 h in
    ap (λ v. byte_of v i) (signed_whole (word m a 4)) ∙ rw t (word_byte 4 i m a s h)
signed_loaded Eight m a i s h =
    let t : ltb i 8 ≡ true = lt-ltb i 8 (omega arith) in
    ap (λ v. byte_of v i) (signed_whole (word m a 4)) ∙ rw t (word_byte 4 i m a s h)

-- a byte of the low piece of a value
pub loaded_byte : (t : Kind) (w : Size) (m : List ℕ) (a i : ℕ) → Bytes m → i < 4 → byte_of (loaded m a (moved w) (by_sign t)) i ≡ widened_byte t w m a i
loaded_byte Unsigned w m a i s h = plain_loaded w m a i s h
loaded_byte Signed w m a i s h = signed_loaded w m a i s h
loaded_byte Float w m a i s h = plain_loaded w m a i s h
loaded_byte Address w m a i s h = plain_loaded w m a i s h

-- what goes on behind a low piece
abbrev pub upper : Kind → ℕ → ℕ
upper Unsigned v = 0
upper Signed v = sign_of v
upper Float v = 0
upper Address v = 0

-- the second piece of a value whose low piece is v
abbrev pub further : Kind → Size → List ℕ → ℕ → ℕ → ℕ
further t w m a v = cond (ltb 4 (bytes w)) (word m (a + 4) 4) (upper t v)

zero_bytes : (i : ℕ) → byte_of 0 i ≡ 0
zero_bytes i = ap (λ n. n % 256) (zero-div (256 ^ i))

-- the byte that a number's sign is made of
abbrev fill : ℕ → ℕ
fill v = cond (ltb v (2 ^ 31)) 0 255

-- a sign is the same byte four times
sign_byte : (v i : ℕ) → i < 4 → byte_of (sign_of v) i ≡ fill v
sign_byte v i h = below_four (λ i. byte_of (sign_of v) i ≡ fill v) (grind (arith, nat_tests)) (grind (arith, nat_tests)) (grind (arith, nat_tests)) (grind (arith, nat_tests)) i h

sign_one : (v : ℕ) → v < 256 → fill (widened true 1 v) ≡ extension Signed (byte_of v 0)
sign_one v l = grind (arith, nat_tests)

sign_two : (v : ℕ) → v < 65536 → fill (widened true 2 v) ≡ extension Signed (byte_of v 1)
sign_two v l = grind (arith, nat_tests)

sign_four : (v : ℕ) → v < 4294967296 → fill (widened true 4 v) ≡ extension Signed (byte_of v 3)
sign_four v l = grind (arith, nat_tests)

last_byte : (k : ℕ) (m : List ℕ) (a : ℕ) → Bytes m → 0 < k → extension Signed (byte_of (word m a k) (k - 1)) ≡ extension Signed (get_or m (a + (k - 1)) 0)
last_byte k m a s l = ap (extension Signed) (word_byte k (k - 1) m a s (omega arith))

-- behind a value's last byte
past : (t : Kind) (w : Size) (m : List ℕ) (a i : ℕ) → bytes w ≤ 4 → extension t (get_or m (a + (bytes w - 1)) 0) ≡ widened_byte t w m a (4 + i)
past t w m a i l = let u : ltb (4 + i) (bytes w) ≡ false = le-ltb (4 + i) (bytes w) (omega arith) in rw u

narrow_byte : (w : Size) (t : Kind) (m : List ℕ) (a i : ℕ) → Bytes m → bytes w ≤ 4 → i < 4 → byte_of (upper t (loaded m a (moved w) (by_sign t))) i ≡ extension t (get_or m (a + (bytes w - 1)) 0)
narrow_byte w Unsigned m a i s l h = zero_bytes i
narrow_byte One Signed m a i s l h = sign_byte (widened true 1 (word m a 1)) i h ∙ sign_one (word m a 1) (word_below 1 m a s) ∙ last_byte 1 m a s (omega arith)
narrow_byte Two Signed m a i s l h = sign_byte (widened true 2 (word m a 2)) i h ∙ sign_two (word m a 2) (word_below 2 m a s) ∙ last_byte 2 m a s (omega arith)
narrow_byte Four Signed m a i s l h = sign_byte (widened true 4 (word m a 4)) i h ∙ sign_four (word m a 4) (word_below 4 m a s) ∙ last_byte 4 m a s (omega arith)
narrow_byte Eight Signed m a i s l h = absurd (omega arith)
narrow_byte w Float m a i s l h = zero_bytes i
narrow_byte w Address m a i s l h = zero_bytes i

-- a byte of the second piece of a value
pub further_byte : (w : Size) (t : Kind) (m : List ℕ) (a i : ℕ) → Bytes m → i < 4 → byte_of (further t w m a (loaded m a (moved w) (by_sign t))) i ≡ widened_byte t w m a (4 + i)
further_byte One t m a i s h = narrow_byte One t m a i s (omega arith) h ∙ past t One m a i (omega arith)
further_byte Two t m a i s h = narrow_byte Two t m a i s (omega arith) h ∙ past t Two m a i (omega arith)
further_byte Four t m a i s h = narrow_byte Four t m a i s (omega arith) h ∙ past t Four m a i (omega arith)
further_byte Eight t m a i s h =
    let u : ltb (4 + i) 8 ≡ true = lt-ltb (4 + i) 8 (omega arith) in
    rw u (word_byte 4 i m (a + 4) s h ∙ ap (λ n. get_or m n 0) (add_assoc a 4 i))

pub loaded_below : (w : Width) (b : Bool) (m : List ℕ) (a : ℕ) → Bytes m → loaded m a w b < 2 ^ 32
loaded_below Widths.One false m a s = let l = word_below 1 m a s in omega arith
loaded_below Widths.Two false m a s = let l = word_below 2 m a s in omega arith
loaded_below Widths.Four false m a s = word_below 4 m a s
loaded_below Widths.One true m a s = let l : word m a 1 < 256 = word_below 1 m a s in signed_below_one (word m a 1) l
loaded_below Widths.Two true m a s = let l : word m a 2 < 65536 = word_below 2 m a s in signed_below_two (word m a 2) l
loaded_below Widths.Four true m a s = rw (signed_whole (word m a 4)) (word_below 4 m a s)

pub sign_below : (v : ℕ) → sign_of v < 2 ^ 32
sign_below v = grind (arith, nat_tests)

-- the bytes of a value decide how it is widened
pub widened_same : (t : Kind) (w : Size) (m n : List ℕ) (a : ℕ) → AgreeFrom a m n → (j : ℕ) → widened_byte t w m a j ≡ widened_byte t w n a j
widened_same t w m n a e j = let p = e (a + j) (omega arith) in let q = e (a + (bytes w - 1)) (omega arith) in rw (p, q)
