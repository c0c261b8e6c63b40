-- Where a text is cut first.
use Rattle.std.proofs.Common.{◌≡◌, ◌≢◌, Bool, inl, inr, ℕ, zero, suc, ◌+◌, ◌-◌, ◌<◌, ◌≤◌, true, false, List, [], ◌∷◌, length, take, drop, ap, refl, sym, ◌∙◌, drop-drop, arith, add-one}
use Rattle.std.proofs.Math.Seq.{drop-nil}
use Rattle.std.proofs.lemmas.Bool.{cases_Bool}
use Rattle.std.proofs.lemmas.List.{take_rest}
use Rattle.std.proofs.lemmas.List.Splits.{slice_split-cons_yes, slice_split-cons_no}
use Rattle.std.specs.Bool.{◌==◌}
use Rattle.std.specs.List.{onto_first, slice_index}
use Rattle.texts.specs.Parts.{parts}

no : (b : Bool) → b ≢ true → b ≡ false
no b h = elim (cases_Bool b) [ inl t ↦ absurd (h t) | inr f ↦ f ]

cut : (c : ℕ) (xs : List ℕ) (i : ℕ) → i < length xs → (slice_index xs i == c) ≡ true → ((k : ℕ) → k < i → (slice_index xs k == c) ≢ true) → parts c xs ≡ take i xs ∷ parts c (drop (suc i) xs)
cut c [] i l h n = absurd (omega arith)
cut c (x ∷ xs) zero l h n = slice_split-cons_yes (λ b. b == c) x xs h
cut c (x ∷ xs) (suc i) l h n = slice_split-cons_no (λ b. b == c) x xs (no _ (n 0 (omega arith))) ∙ ap (onto_first x) (cut c xs i (omega arith) h (λ k m. n (suc k) (omega arith)))

-- up to the first separator, and on behind it
pub cut_at : (c : ℕ) (xs : List ℕ) (i : ℕ) → i < length xs → (slice_index xs i == c) ≡ true → ((k : ℕ) → 0 ≤ k → k < i → (slice_index xs k == c) ≢ true) → parts c xs ≡ take i xs ∷ parts c (take (length xs - (i + 1)) (drop (i + 1) xs))
cut_at c xs i l h n = rw (take_rest xs (i + 1), add-one) (cut c xs i l h (λ k m. n k (omega arith) m))

-- no separator, no cut
pub uncut : (c : ℕ) (xs : List ℕ) → ((k : ℕ) → 0 ≤ k → k < length xs → (slice_index xs k == c) ≢ true) → parts c xs ≡ xs ∷ []
uncut c [] n = refl
uncut c (x ∷ xs) n = slice_split-cons_no (λ b. b == c) x xs (no _ (n 0 (omega arith) (omega arith))) ∙ ap (onto_first x) (uncut c xs (λ k l m. n (suc k) (omega arith) (omega arith)))

-- where nothing is left behind so many, nothing is behind more
pub none_behind : {X : Type 0} (k n : ℕ) (xs : List X) → drop k xs ≡ [] → k ≤ n → drop n xs ≡ []
none_behind k n xs e l =
    let behind : n ≡ k + (n - k) = omega arith in
    ap (λ m. drop m xs) behind ∙ sym (drop-drop (n - k) k xs) ∙ ap (drop (n - k)) e ∙ drop-nil (n - k)
