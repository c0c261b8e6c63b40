-- The first fault of a text, if it has one: its number and its line.
use Rattle.std.specs.Prelude.{◌≡◌, ℕ, zero, suc, ◌+◌, Bool, true, false, cond, not, ◌&&◌, List, [], ◌∷◌, ◌++◌, length, Option, Some, None, Result, Ok, Err, nat_eq, nat_le}
use Rattle.std.specs.List.{list_any}
use Rattle.stage.specs.Faults.{Fault}
use Rattle.texts.specs.Parts.{parts}
pub use Rattle.pages.specs.Faults.{fault}
use Rattle.pages.specs.Lines.{line_of}
use Rattle.pages.specs.Pages.{Page, IsProper, page_lines, text_of, is_in_range, named, all_named}
use Rattle.pages.specs.declared.lines.Line.{Line}
use Rattle.pages.specs.declared.lines.Line.TheVariants.{Stage, Arguments, Results, Kept}

-- how many of the lines are stages, and how many are not
abbrev pub is_stage : Line → Bool
is_stage (Stage s) = true
is_stage (Arguments k) = false
is_stage (Results k) = false
is_stage (Kept rs) = false

abbrev pub stages_in : List Line → ℕ
stages_in [] = 0
stages_in (l ∷ ls) = cond (is_stage l) (stages_in ls + 1) (stages_in ls)

abbrev pub closing_in : List Line → ℕ
closing_in [] = 0
closing_in (l ∷ ls) = cond (is_stage l) (closing_in ls) (closing_in ls + 1)

-- stages come first, then the arguments, the results and the kept registers, in order; how many of those three come before a line
abbrev pub place_of : Line → ℕ
place_of (Stage s) = 0
place_of (Arguments k) = 0
place_of (Results k) = 1
place_of (Kept rs) = 2

abbrev pub is_in : ℕ → List ℕ → Bool
is_in k = list_any (λ n. nat_eq n k)

-- whether a number is that of one of n stages, and was not named before
abbrev pub is_free : ℕ → List ℕ → ℕ → Bool
is_free n before k = nat_le 1 k && nat_le k n && not (is_in k before)

-- the same of each of the numbers, one behind the other
abbrev pub are_free : ℕ → List ℕ → List ℕ → Bool
are_free n before [] = true
are_free n before (k ∷ ks) = is_free n before k && are_free n (before ++ k ∷ []) ks

-- the lowest fault of a line that has the form, behind the lines before it
abbrev pub number_of_fault : List Line → Line → Option ℕ
number_of_fault before l =
    cond (nat_eq (closing_in before) (place_of l))
    (cond (is_in_range l)
    (cond (are_free (stages_in before) (all_named before) (named l))
    (cond (is_stage l && nat_le 24 (stages_in before)) (Some 5) None)
    (Some 4))
    (Some 3))
    (Some 2)

abbrev pub unless : {T E : Type 0} → Option E → T → Result T E
unless None x = Ok x
unless (Some e) x = Err e

-- the line that bytes write behind those lines, or the number of its fault
abbrev pub checked : List Line → Option Line → Result Line ℕ
checked before None = Err 2
checked before (Some l) = unless (number_of_fault before l) l

abbrev pub read_line : List Line → List ℕ → Result Line ℕ
read_line before bytes = cond (nat_le (length bytes) 120) (checked before (line_of (parts 32 bytes))) (Err 2)

-- each of n stages was named
abbrev pub all_used : ℕ → List ℕ → Bool
all_used zero used = true
all_used (suc n) used = is_in (suc n) used && all_used n used

-- what has been read where the text ends
abbrev pub ended : List Line → Result (List Line) Fault
ended before = cond (nat_eq (closing_in before) 3 && all_used (stages_in before) (all_named before)) (Ok before) (Err (fault 5 (length before)))

-- on behind a line, or its fault
abbrev pub on_behind : {T : Type 0} → ℕ → (Line → Result T Fault) → Result Line ℕ → Result T Fault
on_behind line f (Ok l) = f l
on_behind line f (Err n) = Err (fault n line)

-- all lines, behind those that were read; what follows the last feed is a line that is not closed
abbrev pub read_lines : List Line → List (List ℕ) → Result (List Line) Fault
read_lines before [] = ended before
read_lines before (bytes ∷ []) = cond (nat_eq (length bytes) 0) (ended before) (Err (fault 2 (length before + 1)))
read_lines before (bytes ∷ more ∷ rest) = on_behind (length before + 1) (λ l. read_lines (before ++ l ∷ []) (more ∷ rest)) (read_line before bytes)

-- the lines of a text
abbrev pub read_text : List ℕ → Result (List Line) Fault
read_text text = cond (nat_le 1 (length text) && nat_le (length text) 8192) (read_lines [] (parts 10 text)) (Err (fault 1 0))

-- a text without fault, and its lines, are those of a proper page
pub record NoFaultExactlyInProperPages : Type 0 where
  pub lines_without_fault_are_a_proper_page : (text : List ℕ) (ls : List Line) → read_text text ≡ Ok ls → (p : Page) × IsProper p × (page_lines p ≡ ls) × (text_of ls ≡ text)
  pub a_proper_page_is_without_fault : (p : Page) → IsProper p → read_text (text_of (page_lines p)) ≡ Ok (page_lines p)
