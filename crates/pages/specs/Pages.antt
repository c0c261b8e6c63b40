-- Pages: what one says, the bytes that write it, and which of them describe a convention.
use Rattle.std.specs.Prelude.{◌≡◌, ℕ, ◌+◌, ◌≤◌, Bool, true, cond, List, [], ◌∷◌, ◌++◌, length, map, nat_eq, is_none}
use Rattle.std.specs.List.{AllByRecursion, concat}
use Rattle.banks.specs.Lists.{distinct}
use Rattle.blocks.specs.Blocks.{limit_fault}
use Rattle.stage.specs.Faults.{width_fault}
use Rattle.texts.specs.Lists.{listed}
use Rattle.pages.specs.Lines.{line_bytes, HasTheForm}
use Rattle.pages.specs.declared.table.StageWord.{StageWord}
use Rattle.pages.specs.declared.table.StageWord.TheVariants.{Up}
use Rattle.pages.specs.declared.lines.Parameter.{Parameter}
use Rattle.pages.specs.declared.lines.Parameter.TheVariants.{Registers, Number, Kinds, Nothing}
use Rattle.pages.specs.declared.lines.StageLine.{StageLine}
use Rattle.pages.specs.declared.lines.Line.{Line}
use Rattle.pages.specs.declared.lines.Line.TheVariants.{Stage, Arguments, Results, Kept}

-- stages, of which a line may name an earlier one by its number, from 1; the stages that are the piles of arguments and of
-- results; and the kept registers
pub record Page : Type 0 where
  pub stages : List StageLine
  pub arguments : ℕ
  pub results : ℕ
  pub kept : List ℕ

abbrev pub closing_lines : Page → List Line
closing_lines p = Arguments p.arguments ∷ Results p.results ∷ Kept (listed p.kept) ∷ []

abbrev pub page_lines : Page → List Line
page_lines p = map Stage p.stages ++ closing_lines p

-- each line is closed by a line feed
abbrev pub text_of : List Line → List ℕ
text_of ls = concat (map (λ l. line_bytes l ++ 10 ∷ []) ls)

-- whether the numbers and registers of a parameter are in range, and no register stands twice
abbrev pub parameter_is_in_range : StageWord → Parameter → Bool
parameter_is_in_range s (Registers rs) = distinct rs.items
parameter_is_in_range Up (Number m) = is_none (limit_fault m)
parameter_is_in_range s (Number m) = is_none (width_fault m)
parameter_is_in_range s (Kinds ks) = true
parameter_is_in_range s Nothing = true

abbrev pub is_in_range : Line → Bool
is_in_range (Stage s) = parameter_is_in_range s.stage s.parameter
is_in_range (Arguments k) = true
is_in_range (Results k) = true
is_in_range (Kept rs) = distinct rs.items

-- the stages that a line names
abbrev pub named : Line → List ℕ
named (Stage s) = s.below.items
named (Arguments k) = k ∷ []
named (Results k) = k ∷ []
named (Kept rs) = []

abbrev pub all_named : List Line → List ℕ
all_named ls = concat (map named ls)

-- how often a number is in a list
abbrev pub times : ℕ → List ℕ → ℕ
times k [] = 0
times k (n ∷ ns) = cond (nat_eq n k) (times k ns + 1) (times k ns)

-- each line names stages of earlier lines alone, where n stages stand before the first of the lines
abbrev pub NameEarlierStages : ℕ → List Line → Type 0
NameEarlierStages n [] = Unit {0}
NameEarlierStages n (Stage s ∷ ls) = AllByRecursion (λ k. (1 ≤ k) × (k ≤ n)) s.below.items × NameEarlierStages (n + 1) ls
NameEarlierStages n (l ∷ ls) = AllByRecursion (λ k. (1 ≤ k) × (k ≤ n)) (named l) × NameEarlierStages n ls

-- what makes a page one that describes a convention
pub record IsProper (p : Page) : Type 0 where
  pub stages_are_at_most_24 : length p.stages ≤ 24
  pub lines_have_the_form : AllByRecursion HasTheForm (page_lines p)
  pub numbers_and_registers_are_in_range : AllByRecursion (λ l. is_in_range l ≡ true) (page_lines p)
  pub lines_name_earlier_stages : NameEarlierStages 0 (page_lines p)
  pub each_stage_is_named_once : (k : ℕ) → 1 ≤ k → k ≤ length p.stages → times k (all_named (page_lines p)) ≡ 1
  pub lines_are_at_most_120_bytes : AllByRecursion (λ l. length (line_bytes l) ≤ 120) (page_lines p)
  pub text_is_at_most_8192_bytes : length (text_of (page_lines p)) ≤ 8192
