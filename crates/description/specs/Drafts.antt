-- What was read of a text whose piles are still to be built.
use Rattle.std.specs.Prelude.{◌≡◌, ℕ, true, List, [], ◌∷◌, length, Result, Ok, Err, MatchResult}
use Rattle.banks.specs.Lists.{set_of}
use Rattle.pages.specs.Rules.{are_free, read_lines, read_text}
use Rattle.pages.specs.declared.faults.DescriptionFault.{DescriptionFault}
use Rattle.pages.specs.declared.lines.Line.{Line}
use Rattle.description.specs.Plans.{Make}
use Rattle.description.specs.Profiles.{Meaning, meaning_of, stage_at}
use Rattle.description.specs.Describing.{IsTheFault, OfThePage}
use Rattle.description.specs.declared.draft.Draft.{Draft}

-- a draft that says this: its plans make those stages, and it names two that are the piles
pub record Drafts (m : Meaning) (d : Draft) : Type 0 where
  pub named : List ℕ
  pub plans_make_the_stages : Make d.planned.items [] [] m.stages named
  pub names_free_stages : are_free (length m.stages) named (d.arguments ∷ d.results ∷ []) ≡ true
  pub arguments : m.arguments ≡ stage_at m.stages d.arguments
  pub results : m.results ≡ stage_at m.stages d.results
  pub kept : d.kept.bits ≡ set_of m.kept

-- the end of a text behind lines
abbrev pub Finished : List Line → List ℕ → Result Draft DescriptionFault → Type 0
Finished before rest result =
    MatchResult result (λ d. (read_lines before (rest ∷ []) ≡ Ok before) × Drafts (meaning_of before) d) (λ f. IsTheFault f ⊥ (λ g. read_lines before (rest ∷ []) ≡ Err g))

-- a text is read as the proper page that writes it, for which no memory is asked; or its first fault is found
abbrev pub IsDrafted : List ℕ → Result Draft DescriptionFault → Type 0
IsDrafted text result = MatchResult result (λ d. OfThePage text (λ m. Drafts m d)) (λ f. IsTheFault f ⊥ (λ g. read_text text ≡ Err g))
