-- Code that is written into a list of records.
use Rattle.std.specs.Prelude.{◌≡◌, ℕ, ◌+◌, List, [], ◌∷◌, slice_set}
use Rattle.machine.specs.declared.Instruction.{Instruction}
use Rattle.emit.specs.declared.records.Records.{Records}

-- a list of records, and the index of the next one to write
pub record Code : Type 0 where
  pub list : List Instruction
  pub at : ℕ

abbrev pub code_of : List Instruction → ℕ → Code
code_of xs n = record { list = xs; at = n }

-- records written from the index on; past the list's end they are only counted
abbrev pub emit : Code → List Instruction → Code
emit c [] = c
emit c (x ∷ xs) = emit (record { list = slice_set c.list c.at x; at = c.at + 1 }) xs

-- the lent list and the index, as code
abbrev pub code_in : Records → Code
code_in r = code_of r.list.now r.len

-- the same list, with this code written on from where the writing stood
pub record Appends (xs : List Instruction) (before after : Records) : Type 0 where
  pub same_list : after.list.ghost_name ≡ before.list.ghost_name
  pub code : code_in after ≡ emit (code_in before) xs
