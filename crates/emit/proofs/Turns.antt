-- Turns of loops that write code, by the code and the index alone.
use Rattle.std.proofs.Common.{◌≡◌, ℕ, ◌+◌, ◌*◌, ◌<◌, ◌≤◌, true, false, ◌&&◌, List, [], ◌∷◌, ◌++◌, map, length, get_or, drop, sym, ap, ◌∙◌, append-nil, add-one, arith, length-append}
use Rattle.machine.specs.declared.Instruction.{Instruction}
use Rattle.place.specs.Holdings.{Holding}
use Rattle.place.specs.Registers.{has}
use Rattle.delivery.specs.Code.{written, saved_below, each_home, each_word}
use Rattle.allocation.specs.States.{holding}
use Rattle.allocation.specs.declared.held.Held.{Held}
use Rattle.emit.specs.Emitting.{Code, emit}
use Rattle.emit.proofs.Emits.{emit_append, homes_more}

-- one piece of code after another
emits_then : (xs ys : List Instruction) (c d e : Code) → d ≡ emit c xs → e ≡ emit d ys → e ≡ emit c (xs ++ ys)
emits_then xs ys c d e p q = q ∙ ap (λ (x : Code). emit x ys) p ∙ sym (emit_append xs ys c)

-- in a loop over places and their homes, after i of them: what is left to write, written from here, gives the whole
abbrev pub Homes : (Holding → ℕ → List Instruction) → List Held → Code → ℕ → Code → ℕ → ℕ → Type 0
Homes g hs b h c home i =
    (emit c (each_home g (map holding (drop i hs)) home) ≡ emit b (each_home g (map holding hs) h)) × (home ≡ h + 8 * i) × (c.at ≤ b.at + 4 * i)

module _ (g : Holding → ℕ → List Instruction) (hs : List Held) (b : Code) (h : ℕ) (c : Code) (home i : ℕ) (inv : Homes g hs b h c home i) where
  pub homes_kept : (d : Code) (x : Held) → i < length hs → x ≡ get_or hs i x → d ≡ emit c (g (holding x) home) → d.at ≤ c.at + 4 → Homes g hs b h d (home + 8) (i + 1)
  homes_kept d x l e p few = (homes_more g c d hs i home x l e p ∙ inv.0, omega (arith, inv.1), omega (arith, inv.2, few))

module _ (kept : ℕ) (body : List Instruction) (r : ℕ) where
  -- one register more, where it is saved
  pub saved_more : (has kept r && written r body) ≡ true → saved_below (r + 1) kept body ≡ saved_below r kept body ++ (r ∷ [])
  saved_more e = rw (add-one r, e)

  pub saved_same : (has kept r && written r body) ≡ false → saved_below (r + 1) kept body ≡ saved_below r kept body
  saved_same e = rw (add-one r, e) (append-nil (saved_below r kept body))

  pub length_saved_more : (has kept r && written r body) ≡ true → length (saved_below (r + 1) kept body) ≡ length (saved_below r kept body) + 1
  length_saved_more e = ap length (saved_more e) ∙ length-append (saved_below r kept body) (r ∷ [])

-- the word of one register more
pub words_more : (g : ℕ → ℕ → Instruction) (xs : List ℕ) (r h : ℕ) → each_word g (xs ++ (r ∷ [])) h ≡ each_word g xs h ++ (g r (h + 4 * length xs) ∷ [])
words_more g [] r h = ap (λ (k : ℕ). g r k ∷ []) (omega arith)
words_more g (x ∷ xs) r h = ap (λ (l : List Instruction). g x h ∷ l) (words_more g xs r (h + 4) ∙ ap (λ (k : ℕ). each_word g xs (h + 4) ++ (g r k ∷ [])) (omega arith))

-- a turn of a loop that writes an instruction for a saved register
pub word_written : (g : ℕ → ℕ → Instruction) (kept : ℕ) (body : List Instruction) (r h home : ℕ) (b c d : Code) (x : Instruction) → (has kept r && written r body) ≡ true → home ≡ h + 4 * length (saved_below r kept body) → c ≡ emit b (each_word g (saved_below r kept body) h) → x ≡ g r home → d ≡ emit c (x ∷ []) → d ≡ emit b (each_word g (saved_below (r + 1) kept body) h)
word_written g kept body r h home b c d x t e p i q =
    let xs : List ℕ = saved_below r kept body in
    let last : d ≡ emit c (g r (h + 4 * length xs) ∷ []) = q ∙ (ap (λ (y : Instruction). emit c (y ∷ [])) i ∙ ap (λ (k : ℕ). emit c (g r k ∷ [])) e) in
    emits_then (each_word g xs h) (g r (h + 4 * length xs) ∷ []) b c d p last ∙ ap (emit b) (sym (words_more g xs r h) ∙ ap (λ (l : List ℕ). each_word g l h) (sym (saved_more kept body r t)))

-- in a loop over the registers, after those below r: a word's instruction is written for each of them that is saved
abbrev pub Words : (ℕ → ℕ → Instruction) → ℕ → List Instruction → Code → ℕ → Code → ℕ → ℕ → Type 0
Words g kept body b h c home r =
    (c ≡ emit b (each_word g (saved_below r kept body) h))
    × (home ≡ h + 4 * length (saved_below r kept body))
    × (c.at ≤ b.at + r)
    × (length (saved_below r kept body) ≤ r)

module _ (g : ℕ → ℕ → Instruction) (kept : ℕ) (body : List Instruction) (b : Code) (h : ℕ) (c : Code) (home r : ℕ) (inv : Words g kept body b h c home r) where
  pub one_written : (d : Code) (x : Instruction) (e : Code) (next : ℕ) → (has kept r && written r body) ≡ true → x ≡ g r home → d ≡ emit c (x ∷ []) → e ≡ d → next ≡ home + 4 → Words g kept body b h e next (r + 1)
  one_written d x e next t i q same step =
      let whole : d ≡ emit b (each_word g (saved_below (r + 1) kept body) h) = word_written g kept body r h home b c d x t inv.1 inv.0 i q in
      let more = length_saved_more kept body r t in
      let end : e.at ≡ c.at + 1 = ap (λ (y : Code). y.at) (same ∙ q) in
      (same ∙ whole, omega (arith, step, more, inv.1), omega (arith, end, inv.2), omega (arith, more, inv.3))
