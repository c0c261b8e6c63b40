-- The types of the first words, and the words that are left.
use Rattle.std.proofs.Common.{◌≡◌, ℕ, ◌<◌, ◌≤◌, true, false, List, [], ◌∷◌, ◌++◌, length, map, refl, ap, sym, ◌∙◌, arith, append_assoc, append-nil, length-append}
use Rattle.std.proofs.lemmas.List.{map-append, length-map}
use Rattle.values.specs.Types.{word_of}
use Rattle.values.specs.declared.value_type.ValueType.{ValueType}
use Rattle.signatures.specs.Faults.{is_colon, is_type_word, before_colon, behind_colon, are_types}

pub record Typing (all : List (List ℕ)) (types : List ValueType) (left : List (List ℕ)) : Type 0 where
  pub before : before_colon all ≡ map word_of types ++ before_colon left
  pub behind : behind_colon all ≡ behind_colon left
  pub left_are_types : are_types left ≡ true

pub typing_more : (all : List (List ℕ)) (types : List ValueType) (t : ValueType) (w : List ℕ) (ws : List (List ℕ)) → is_colon w ≡ false → word_of t ≡ w → Typing all types (w ∷ ws) → Typing all (types ++ t ∷ []) ws
typing_more all types t w ws n e h = record {
  before = h.before ∙ (rw (n, ← e, map-append word_of types (t ∷ [])) (sym (append_assoc (map word_of types) (word_of t ∷ []) (before_colon ws))));
  behind = h.behind ∙ rw n refl;
  left_are_types = grind (arith, n, h.left_are_types);
}

pub typing_full : (all : List (List ℕ)) (types : List ValueType) (w : List ℕ) (ws : List (List ℕ)) (n : ℕ) → is_colon w ≡ false → n ≤ length types → Typing all types (w ∷ ws) → n < length (before_colon all)
typing_full all types w ws n c l h =
    let e : before_colon (w ∷ ws) ≡ w ∷ before_colon ws = rw c refl in
    let k = ap length (h.before ∙ ap (λ vs. map word_of types ++ vs) e) in
    omega (arith, k, length-append (map word_of types) (w ∷ before_colon ws), length-map types word_of)

-- at a colon, and at the end
pub typed_at_a_colon : (all : List (List ℕ)) (types : List ValueType) (w : List ℕ) (ws : List (List ℕ)) → is_colon w ≡ true → Typing all types (w ∷ ws) → (map word_of types ≡ before_colon all) × (ws ≡ behind_colon all)
typed_at_a_colon all types w ws y h = (sym (h.before ∙ rw y (append-nil (map word_of types))), sym (h.behind ∙ rw y refl))

pub typed_at_the_end : (all : List (List ℕ)) (types : List ValueType) → Typing all types [] → (map word_of types ≡ before_colon all) × (behind_colon all ≡ [])
typed_at_the_end all types h = (sym (h.before ∙ append-nil (map word_of types)), h.behind)

-- a word that is neither was not to be found
pub typing_stops : (all : List (List ℕ)) (types : List ValueType) (w : List ℕ) (ws : List (List ℕ)) → is_colon w ≡ false → is_type_word w ≡ false → Typing all types (w ∷ ws) → ⊥
typing_stops all types w ws n m h = grind (arith, n, m, h.left_are_types)
