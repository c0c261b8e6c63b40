-- Texts, cut at separators.
use Rattle.std.specs.Prelude.{ℕ, List, [], Some, None, ◌==◌}
use Rattle.std.specs.List.{slice_split}
use Rattle.texts.specs.declared.parts.Parts.{Parts}

-- what stands between the bytes c of a text, in order; it may be empty
abbrev pub parts : ℕ → List ℕ → List (List ℕ)
parts c text = slice_split (λ b. b == c) text

-- the parts that are still to come
abbrev pub parts_left : Parts → List (List ℕ)
parts_left p = elim p.rest [ None ↦ [] | Some text ↦ parts p.separator text.now ]
