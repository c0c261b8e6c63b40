-- Signatures: the line that writes one, and which are proper.
use Rattle.std.specs.Prelude.{◌≡◌, ℕ, ◌≤◌, Bool, true, ◌&&◌, List, ◌∷◌, ◌++◌, length, map, nat_le, codes}
use Rattle.std.specs.Char.{is_ascii_lowercase}
use Rattle.std.specs.List.{join_with_byte, list_all}
use Rattle.values.specs.Types.{word_of}
use Rattle.signatures.specs.declared.signature.Signature.{Signature}

-- what stands between the types of the arguments and those of the results
abbrev pub colon : List ℕ
colon = codes ":"

abbrev pub signature_words : Signature → List (List ℕ)
signature_words s = s.name.bytes ∷ map word_of s.arguments.items ++ colon ∷ map word_of s.results.items

-- its words, with one space between two of them
abbrev pub signature_bytes : Signature → List ℕ
signature_bytes s = join_with_byte 32 (signature_words s)

-- 1 to 8 letters a to z
abbrev pub is_name : List ℕ → Bool
is_name w = nat_le 1 (length w) && nat_le (length w) 8 && list_all is_ascii_lowercase w

pub record IsProper (s : Signature) : Type 0 where
  pub name_is_1_to_8_letters : is_name s.name.bytes ≡ true
  pub arguments_are_at_most_16 : length s.arguments.items ≤ 16
  pub results_are_at_most_4 : length s.results.items ≤ 4
