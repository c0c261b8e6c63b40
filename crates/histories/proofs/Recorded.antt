-- A record has the answers that it heard, where there is room for them.
use Rattle.std.proofs.Common.{◌≡◌, ℕ, ◌+◌, ◌≤◌, Bool, true, false, List, [], ◌∷◌, ◌++◌, map, length, nat_lt, if◌then◌else◌, refl, sym, ap, ◌∙◌, append-nil, append_assoc, arith, lt-ltb}
use Rattle.std.proofs.lemmas.List.{length_push}
use Rattle.std.specs.List.{FoldsTo}

-- of a listener that is seen as a list of what it heard
module _ {L A B : Type 0} (has : L → List B) (mark : A → B) (room : ℕ) where
  abbrev pub Keeps : L → A → L → Type 0
  Keeps s a t = has t ≡ (if nat_lt (length (has s)) room then has s ++ (mark a ∷ []) else has s)

  kept : (b : Bool) (xs : List B) (x : B) → b ≡ true → (if b then xs ++ (x ∷ []) else xs) ≡ xs ++ (x ∷ [])
  kept true xs x e = refl
  kept false xs x e = grind (arith, e)

  pub has_all : (xs : List A) (s t : L) → length (has s) + length xs ≤ room → FoldsTo Keeps s xs t → has t ≡ has s ++ map mark xs
  has_all [] s t l e = ap has (sym e) ∙ sym (append-nil (has s))
  has_all (x ∷ xs) s t l e =
      let one : has e.0 ≡ has s ++ (mark x ∷ []) = e.1 ∙ kept (nat_lt (length (has s)) room) (has s) (mark x) (lt-ltb _ _ (omega (arith, l))) in
      has_all xs e.0 t (omega (arith, l, ap length one, length_push (has s) (mark x))) e.2 ∙ ap (λ ys. ys ++ map mark xs) one ∙ append_assoc (has s) (mark x ∷ []) (map mark xs)
