-- What was read of a description, and what a line more makes of it.
use Rattle.std.specs.Prelude.{◌≡◌, ℕ, ◌+◌, ◌<◌, ◌≤◌, Bool, true, false, List, [], ◌∷◌, ◌++◌, Option, Some, None, Result, Ok, Err, MatchOption, MatchResult, length}
use Rattle.std.specs.List.{slice_index_or}
use Rattle.banks.specs.Lists.{set_of}
use Rattle.pages.specs.Faults.{cause_number}
use Rattle.pages.specs.Pages.{all_named}
use Rattle.pages.specs.Rules.{is_in, are_free, closing_in, number_of_fault, read_line}
use Rattle.pages.specs.declared.faults.Cause.{Cause}
use Rattle.pages.specs.declared.faults.DescriptionFault.{DescriptionFault}
use Rattle.pages.specs.declared.lines.Line.{Line}
use Rattle.description.specs.Plans.{Make}
use Rattle.description.specs.Profiles.{meaning_of, stage_at}
use Rattle.description.specs.Describing.{IsTheFault}
use Rattle.description.specs.declared.reading.Reading.{Reading}

-- the number of a stage has a mark once a line has named the stage
abbrev pub Marks : List ℕ → List Bool → Type 0
Marks names marks = (k : ℕ) → k ≤ 24 → slice_index_or marks k false ≡ is_in k names

-- what the n-th of the lines behind the stages says is there once that line was read
abbrev pub IsThereFrom : {X : Type 0} → ℕ → ℕ → Option X → (X → Type 0) → Type 0
IsThereFrom n closing slot P = MatchOption slot (closing < n) (λ x. (n ≤ closing) × P x)

-- the stages that the lines behind the stages name
abbrev pub named_behind : Option ℕ → Option ℕ → List ℕ
named_behind None r = []
named_behind (Some a) None = a ∷ []
named_behind (Some a) (Some r) = a ∷ r ∷ []

pub record HasRead (before : List Line) (r : Reading) : Type 0 where
  pub named : List ℕ
  pub plans_make_the_stages : Make r.planned.items [] [] (meaning_of before).stages named
  pub all_are_named : all_named before ≡ named ++ named_behind r.arguments r.results
  pub names_free_stages : are_free (length (meaning_of before).stages) named (named_behind r.arguments r.results) ≡ true
  pub marks : Marks (all_named before) r.marks
  pub arguments : IsThereFrom 1 (closing_in before) r.arguments (λ k. (meaning_of before).arguments ≡ stage_at (meaning_of before).stages k)
  pub results : IsThereFrom 2 (closing_in before) r.results (λ k. (meaning_of before).results ≡ stage_at (meaning_of before).stages k)
  pub kept : IsThereFrom 3 (closing_in before) r.kept (λ s. s.bits ≡ set_of (meaning_of before).kept)
  pub three_at_most : closing_in before ≤ 3

-- a line that has the form, behind others
abbrev pub Checked : List Line → Line → Result (Unit {0}) Cause → Reading → Type 0
Checked before l result r =
    MatchResult result (λ _. (number_of_fault before l ≡ None) × HasRead (before ++ l ∷ []) r) (λ c. number_of_fault before l ≡ Some (cause_number c))

-- bytes of a line behind others
abbrev pub CheckedBytes : List Line → List ℕ → Result (Unit {0}) Cause → Reading → Type 0
CheckedBytes before bytes result r =
    MatchResult result (λ _. (l : Line) × (read_line before bytes ≡ Ok l) × HasRead (before ++ l ∷ []) r) (λ c. read_line before bytes ≡ Err (cause_number c))

-- a line of a text behind others, where a fault has its number
abbrev pub Read : List Line → List ℕ → Result (Unit {0}) DescriptionFault → Reading → Type 0
Read before bytes result r =
    MatchResult result (λ _. (l : Line) × (read_line before bytes ≡ Ok l) × HasRead (before ++ l ∷ []) r) (λ f. IsTheFault f ⊥ (λ g. (read_line before bytes ≡ Err g.number) × (g.position ≡ length before + 1)))
