-- The lines of a list of signatures, and the fault of a line.
use Rattle.std.specs.Prelude.{◌≡◌, ℕ, ◌-◌, Bool, cond, ◌&&◌, ◌||◌, List, [], ◌∷◌, length, Option, Some, None, Result, Ok, Err, option_map, nat_eq, nat_le, nat_lt, get_or, codes}
use Rattle.std.specs.List.{list_all, list_any, count_by}
use Rattle.std.specs.Str.{bytes_eq}
use Rattle.origins.specs.Faults.{Fault}
use Rattle.texts.specs.Parts.{parts}
use Rattle.signatures.specs.Signatures.{colon, is_name, signature_bytes, IsProper}
use Rattle.signatures.specs.declared.fault.Cause.{Cause}
use Rattle.signatures.specs.declared.fault.Cause.TheVariants.{Line, NotAType, Count}
use Rattle.signatures.specs.declared.fault.SignatureFault.{SignatureFault}
use Rattle.signatures.specs.declared.signature.Signature.{Signature}

-- the line with a number, from 1; what follows the last feed is not closed, and is no line
abbrev pub line_at : List ℕ → ℕ → Option (List ℕ)
line_at list n = cond (nat_le 1 n && nat_lt n (length (parts 10 list))) (Some (get_or (parts 10 list) (n - 1) [])) None

abbrev pub type_words : List (List ℕ)
type_words = codes "u1" ∷ codes "u2" ∷ codes "u4" ∷ codes "u8" ∷ codes "s1" ∷ codes "s2" ∷ codes "s4" ∷ codes "s8" ∷ codes "f4" ∷ codes "f8" ∷ codes "a4" ∷ []

abbrev pub is_type_word : List ℕ → Bool
is_type_word w = list_any (bytes_eq w) type_words

abbrev pub is_colon : List ℕ → Bool
is_colon w = bytes_eq w colon

abbrev pub is_filled : List ℕ → Bool
is_filled w = nat_le 1 (length w)

-- the words before the first colon, and those behind it
abbrev pub before_colon : List (List ℕ) → List (List ℕ)
before_colon [] = []
before_colon (w ∷ ws) = cond (is_colon w) [] (w ∷ before_colon ws)

abbrev pub behind_colon : List (List ℕ) → List (List ℕ)
behind_colon [] = []
behind_colon (w ∷ ws) = cond (is_colon w) ws (behind_colon ws)

-- of the words behind the name: whether none is empty and one is a colon; whether each other is a type; whether they are few enough
abbrev pub are_divided : List (List ℕ) → Bool
are_divided ws = list_all is_filled ws && nat_eq (count_by is_colon ws) 1

abbrev pub are_types : List (List ℕ) → Bool
are_types = list_all (λ w. is_colon w || is_type_word w)

abbrev pub are_few : List (List ℕ) → Bool
are_few ws = nat_le (length (before_colon ws)) 16 && nat_le (length (behind_colon ws)) 4

-- the lowest number that applies, if one does
abbrev pub words_fault : List (List ℕ) → Option ℕ
words_fault [] = Some 11
words_fault (name ∷ ws) =
    cond (is_name name && are_divided ws)
    (cond (are_types ws)
    (cond (are_few ws) None (Some 13))
    (Some 12))
    (Some 11)

abbrev pub line_fault : List ℕ → Option ℕ
line_fault line = cond (nat_le (length line) 120) (words_fault (parts 32 line)) (Some 11)

abbrev pub signature_fault : Option (List ℕ) → Option ℕ
signature_fault None = Some 11
signature_fault (Some line) = line_fault line

abbrev pub cause_number : Cause → ℕ
cause_number Line = 11
cause_number NotAType = 12
cause_number Count = 13

-- the number of an answer that is a fault
abbrev pub number_of_fault : {X : Type 0} → Result X Cause → Option ℕ
number_of_fault (Ok x) = None
number_of_fault (Err c) = Some (cause_number c)

-- a fault with a number, at a line of the list
abbrev pub at_line : ℕ → ℕ → Fault
at_line n line = record { layer = 1; number = n; position = line }

abbrev pub signature_fault_of : SignatureFault → Fault
signature_fault_of f = at_line (cause_number f.cause) f.line

abbrev pub fault_of : Result Signature SignatureFault → Option Fault
fault_of (Ok s) = None
fault_of (Err f) = Some (signature_fault_of f)

-- the fault of a line that is asked for by its number
abbrev pub fault_at : List ℕ → ℕ → Option Fault
fault_at list n = option_map (λ number. at_line number n) (signature_fault (line_at list n))

-- a line has no fault exactly where a proper signature writes it
pub record FaultlessLineIsASignature (list : List ℕ) (n : ℕ) : Type 0 where
  pub a_line_without_fault_is_written_by_a_proper_signature : signature_fault (line_at list n) ≡ None → (s : Signature) × IsProper s × (line_at list n ≡ Some (signature_bytes s))
  pub a_line_that_a_proper_signature_writes_has_no_fault : (s : Signature) → IsProper s → line_at list n ≡ Some (signature_bytes s) → signature_fault (line_at list n) ≡ None

abbrev pub FaultlessLinesAreSignatures : Type 0
FaultlessLinesAreSignatures = (list : List ℕ) (n : ℕ) → FaultlessLineIsASignature list n

-- proper signatures with one line have the same name, arguments and results
abbrev pub LinesTellSignaturesApart : Type 0
LinesTellSignaturesApart = (s t : Signature) → IsProper s → IsProper t → signature_bytes s ≡ signature_bytes t → (s.name.bytes ≡ t.name.bytes) × (s.arguments ≡ t.arguments) × (s.results ≡ t.results)
