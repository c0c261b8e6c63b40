-- Code at the front of a list is held by it.
use Rattle.std.proofs.Common.{◌≡◌, ℕ, List, [], ◌∷◌, ◌++◌, length, Some, refl, subst}
use Rattle.std.proofs.lemmas.List.{append_assoc, length_push}
use Rattle.std.specs.List.{slice_get}
use Rattle.machine.specs.Laws.{Holds}
use Rattle.machine.specs.declared.Instruction.{Instruction}

nth_there : (front : List Instruction) (x : Instruction) (rest : List Instruction) → slice_get (front ++ (x ∷ rest)) (length front) ≡ Some x
nth_there [] x rest = refl
nth_there (y ∷ front) x rest = nth_there front x rest

holds_behind : (xs front rest : List Instruction) → Holds (front ++ (xs ++ rest)) (length front) xs
holds_behind [] front rest = tt
holds_behind (x ∷ xs) front rest =
    let next = holds_behind xs (front ++ (x ∷ [])) rest in
    (nth_there front x (xs ++ rest), subst (λ (n : ℕ). Holds (front ++ (x ∷ (xs ++ rest))) n xs) (length_push front x) (subst (λ (l : List Instruction). Holds l (length (front ++ (x ∷ []))) xs) (append_assoc front (x ∷ []) (xs ++ rest)) next))

pub holds_front : (xs rest : List Instruction) → Holds (xs ++ rest) 0 xs
holds_front xs rest = holds_behind xs [] rest
