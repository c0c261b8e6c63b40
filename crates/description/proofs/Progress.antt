-- A text, read up to a line.
use Rattle.std.proofs.Common.{◌≡◌, ℕ, ◌+◌, ◌≤◌, List, [], ◌∷◌, ◌++◌, Result, Ok, Err, length, refl, ap, sym, subst, ◌∙◌}
use Rattle.std.proofs.lemmas.Bool.{le-leb}
use Rattle.stage.specs.Faults.{Fault}
use Rattle.texts.specs.Parts.{parts}
use Rattle.pages.specs.Faults.{cause_number}
use Rattle.pages.specs.Pages.{text_of}
use Rattle.pages.specs.Rules.{fault, on_behind, read_lines, read_text}
use Rattle.pages.specs.declared.faults.DescriptionFault.{DescriptionFault}
use Rattle.pages.specs.declared.faults.DescriptionFault.TheVariants.{Text, Memory}
use Rattle.pages.specs.declared.lines.Line.{Line}
use Rattle.pages.proofs.Proper.{no_fault_exactly_in_proper_pages}
use Rattle.description.specs.Drafts.{Drafts, Finished, IsDrafted}
use Rattle.description.specs.Profiles.{meaning_of}
use Rattle.description.specs.Readings.{HasRead, Read}
use Rattle.description.specs.declared.draft.Draft.{Draft}
use Rattle.description.specs.declared.reading.Reading.{Reading}

-- lines were read, and a line and the parts behind it are still to be
pub record Progress (text line : List ℕ) (left : List (List ℕ)) (r : Reading) : Type 0 where
  pub before : List Line
  pub lines_were_read : HasRead before r
  pub rest_is_to_come : read_text text ≡ read_lines before (line ∷ left)

pub begins : (text line : List ℕ) (left : List (List ℕ)) (r : Reading) → 1 ≤ length text → length text ≤ 8192 → parts 10 text ≡ line ∷ left → HasRead [] r → Progress text line left r
begins text line left r l m e h = record {
  before = [];
  lines_were_read = h;
  rest_is_to_come = rw (le-leb 1 (length text) l, le-leb (length text) 8192 m, e) refl;
}

-- on behind the line that was read, or its fault
abbrev behind : List Line → List ℕ → List (List ℕ) → Result Line ℕ → Result (List Line) Fault
behind before next left = on_behind (length before + 1) (λ l. read_lines (before ++ l ∷ []) (next ∷ left))

pub goes_on : (text line next : List ℕ) (left : List (List ℕ)) (r s : Reading) (p : Progress text line (next ∷ left) r) → Read p.before line (Ok (tt {0})) s → Progress text next left s
goes_on text line next left r s p h = record {
  before = p.before ++ h.0 ∷ [];
  lines_were_read = h.2;
  rest_is_to_come = p.rest_is_to_come ∙ ap (behind p.before next left) h.1;
}

pub stops : (text line next : List ℕ) (left : List (List ℕ)) (r s : Reading) (f : DescriptionFault) (p : Progress text line (next ∷ left) r) → Read p.before line (Err f) s → IsDrafted text (Err f)
stops text line next left r s Memory p h = absurd h
stops text line next left r s (Text c k) p h = p.rest_is_to_come ∙ (ap (behind p.before next left) h.0 ∙ ap (λ n. Err (fault (cause_number c) n)) (sym h.1))

pub ends : (text line : List ℕ) (r : Reading) (result : Result Draft DescriptionFault) (p : Progress text line [] r) → Finished p.before line result → IsDrafted text result
ends text line r (Ok d) p h =
    let q = no_fault_exactly_in_proper_pages.lines_without_fault_are_a_proper_page text p.before (p.rest_is_to_come ∙ h.0) in
    (q.0, q.1, ap text_of q.2 ∙ q.3, subst (λ ls. Drafts (meaning_of ls) d) (sym q.2) h.1)
ends text line r (Err Memory) p h = absurd h
ends text line r (Err (Text c k)) p h = p.rest_is_to_come ∙ h
