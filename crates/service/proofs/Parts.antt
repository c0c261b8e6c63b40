-- A line is a part of its text.
use Rattle.std.proofs.Common.{◌≡◌, ℕ, zero, suc, List, [], ◌∷◌, ◌++◌, get_or, refl, ap, ◌∙◌, append-nil, append_assoc, subst}
use Rattle.std.proofs.lemmas.List.Splits.{join_with_byte-slice_split}
use Rattle.std.specs.List.{join_with_byte}
use Rattle.texts.specs.Parts.{parts}
use Rattle.service.specs.Culprits.{PartOf, LinesArePartsOfTheirTexts}

part_of_joined : (c : ℕ) (ws : List (List ℕ)) (n : ℕ) → PartOf (join_with_byte c ws) (get_or ws n [])
part_of_joined c [] n = ([], [], refl)
part_of_joined c (w ∷ []) zero = ([], [], append-nil w)
part_of_joined c (w ∷ []) (suc n) = ([], w, refl)
part_of_joined c (w ∷ v ∷ ws) zero = ([], c ∷ join_with_byte c (v ∷ ws), refl)
part_of_joined c (w ∷ v ∷ ws) (suc n) =
    let p = part_of_joined c (v ∷ ws) n in
    let part = get_or (v ∷ ws) n [] in
    let behind : (w ++ c ∷ p.0) ++ (part ++ p.1) ≡ w ++ c ∷ (p.0 ++ (part ++ p.1)) = append_assoc w (c ∷ p.0) (part ++ p.1) in
    let joined : w ++ c ∷ (p.0 ++ (part ++ p.1)) ≡ w ++ c ∷ join_with_byte c (v ∷ ws) = ap (λ bs. w ++ c ∷ bs) p.2 in
    (w ++ c ∷ p.0, p.1, behind ∙ joined)

pub lines_are_parts_of_their_texts : LinesArePartsOfTheirTexts
lines_are_parts_of_their_texts text zero = ([], text, refl)
lines_are_parts_of_their_texts text (suc n) = subst (λ t. PartOf t (get_or (parts 10 text) n [])) (join_with_byte-slice_split 10 text) (part_of_joined 10 (parts 10 text) n)
