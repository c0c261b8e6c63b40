use Rattle.std.proofs.Common.{◌≡◌, ℕ, zero, suc, ◌+◌, ◌/◌, ◌%◌, ◌<◌, ◌≤◌, List, [], ◌∷◌, ◌++◌, length, set, take, drop, sym, refl, ap, ◌∙◌, append_assoc, arith, length-set}
use Rattle.std.specs.Int.{w32, to_le_bytes}
use Rattle.std.proofs.lemmas.List.{take-append-drop, take_more_set, drop-drop, drop-set-lt}
use borrow.Rule.Slice.PartMut.{put_mid}
use Rattle.machine.specs.declared.Width.{Width}
use Rattle.machine.specs.declared.Width.TheVariants.{One, Two, Four}
use Rattle.machine.specs.Machine.{bytes_of, stored}

-- a number's lowest bytes, lowest first
abbrev low : ℕ → ℕ → List ℕ
low zero v = []
low (suc k) v = v % 256 ∷ low k (v / 256)

lowest : (w : Width) (v : ℕ) → take (bytes_of w) (to_le_bytes w32 v) ≡ low (bytes_of w) v
lowest One v = refl
lowest Two v = refl
lowest Four v = grind arith

-- a part is written byte by byte
put_more : (m ys : List ℕ) (a k x : ℕ) → a < length m → put_mid a (suc k) m (x ∷ ys) ≡ put_mid (a + 1) k (set m a x) ys
put_more m ys a k x h =
    let front : take (a + 1) (set m a x) ≡ take a m ++ (x ∷ []) = take_more_set m a x h in
    let back : drop k (drop (a + 1) (set m a x)) ≡ drop (suc k) (drop a m) =
    ap (drop k) (drop-set-lt (a + 1) m a x (omega arith)) ∙ drop-drop k (a + 1) m ∙ ap (λ (n : ℕ). drop n m) (omega arith) ∙ sym (drop-drop (suc k) a m) in
    sym (append_assoc (take a m) (x ∷ []) (ys ++ drop (suc k) (drop a m))) ∙ (λ i. sym front i ++ (ys ++ sym back i))

put_low : (k : ℕ) (m : List ℕ) (a v : ℕ) → a + k ≤ length m → put_mid a k m (low k v) ≡ stored m a k v
put_low zero m a v h = take-append-drop a m
put_low (suc k) m a v h =
    put_more m (low k (v / 256)) a k (v % 256) (omega arith) ∙ put_low k (set m a (v % 256)) (a + 1) (v / 256) (omega (arith, length-set {A = ℕ}))

-- the lowest bytes written over a part
pub put_lowest : (w : Width) (m ys : List ℕ) (a k n v : ℕ) → n ≡ bytes_of w → k ≡ n → ys ≡ take n (to_le_bytes w32 v) → a + n ≤ length m →
    put_mid a k m ys ≡ stored m a (bytes_of w) v
put_lowest w m ys a k n v is same written fits =
    ap (λ (j : ℕ). put_mid a j m ys) (same ∙ is) ∙ ap (put_mid a (bytes_of w) m) (written ∙ ap (λ (j : ℕ). take j (to_le_bytes w32 v)) is ∙ lowest w v) ∙ put_low (bytes_of w) m a v (omega arith)
