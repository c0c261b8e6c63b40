-- What the reading of a description answers.
use Rattle.std.specs.Prelude.{◌≡◌, ℕ, List, Result, Err, MatchResult}
use Rattle.banks.specs.Lists.{set_of}
use Rattle.stage.specs.Faults.{Fault}
use Rattle.described.specs.Piles.{AtStart}
use Rattle.pages.specs.Faults.{cause_number}
use Rattle.pages.specs.Pages.{Page, page_lines, text_of, IsProper}
use Rattle.pages.specs.Rules.{fault, read_text}
use Rattle.pages.specs.declared.faults.DescriptionFault.{DescriptionFault}
use Rattle.pages.specs.declared.faults.DescriptionFault.TheVariants.{Text, Memory}
use Rattle.description.specs.Profiles.{Meaning, meaning_of}
use Rattle.description.specs.declared.description.Description.{Description}

-- a description that says this: its piles are those stages, at their beginning, and its kept set has those registers
pub record Describes (m : Meaning) (d : Description) : Type 0 where
  pub arguments : AtStart m.arguments d.arguments
  pub results : AtStart m.results d.results
  pub kept : d.kept.bits ≡ set_of m.kept

-- what the proper page says that writes a text
abbrev pub OfThePage : List ℕ → (Meaning → Type 0) → Type 0
OfThePage text P = (p : Page) × IsProper p × (text_of (page_lines p) ≡ text) × P (meaning_of (page_lines p))

-- a proper page writes a text
abbrev pub IsOfAPage : List ℕ → Type 0
IsOfAPage text = (p : Page) × IsProper p × (text_of (page_lines p) ≡ text)

-- the fault that was found; or want of memory, where it may be wanting
abbrev pub IsTheFault : DescriptionFault → Type 0 → (Fault → Type 0) → Type 0
IsTheFault (Text c line) wanting P = P (fault (cause_number c) line)
IsTheFault Memory wanting P = wanting

-- the first fault of a text; or want of memory, and then a proper page writes the text
abbrev pub IsTheFirstFault : List ℕ → DescriptionFault → Type 0
IsTheFirstFault text f = IsTheFault f (IsOfAPage text) (λ g. read_text text ≡ Err g)

-- a text is read as the proper page that writes it; or it has that fault
abbrev pub IsRead : List ℕ → Result Description DescriptionFault → Type 0
IsRead text result = MatchResult result (λ d. OfThePage text (λ m. Describes m d)) (IsTheFirstFault text)
