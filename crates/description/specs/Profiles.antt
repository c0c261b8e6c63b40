-- What the stages of a page are: each with the meaning of the stage that is built in, on its line.
use Rattle.std.specs.Prelude.{ℕ, ◌+◌, ◌-◌, Bool, false, cond, List, [], ◌∷◌, ◌++◌, length, nat_eq}
use Rattle.std.specs.List.{slice_index, slice_index_or}
use Rattle.values.specs.Requests.{widened, raised}
use Rattle.values.specs.declared.requests.Request.{Request}
use Rattle.values.specs.declared.sizes.Size.{Size}
use Rattle.values.specs.declared.sizes.Size.TheVariants.{One, Two, Four, Eight}
use Rattle.stage.specs.Books.{Profile}
use Rattle.banks.specs.Banks.{count_profile, bits_profile}
use Rattle.blocks.specs.Blocks.{up_profile}
use Rattle.adjust.specs.Adjusting.{map_profile}
use Rattle.conditions.specs.Tests.{is_of_kinds, is_at_least}
use Rattle.sides.specs.Sides.{choose_profile, over_profile}
use Rattle.shut.specs.Shutting.{shut_profile}
use Rattle.described.specs.Piles.{lined}
use Rattle.pages.specs.declared.table.StageWord.{StageWord}
use Rattle.pages.specs.declared.table.StageWord.TheVariants.{Count, Bits, Up, Widen, Raise, Choose, Over, Shut}
use Rattle.pages.specs.declared.lines.Parameter.{Parameter}
use Rattle.pages.specs.declared.lines.Parameter.TheVariants.{Registers, Number, Kinds, Nothing}
use Rattle.pages.specs.declared.lines.StageLine.{StageLine}
use Rattle.pages.specs.declared.lines.Line.{Line}
use Rattle.pages.specs.declared.lines.Line.TheVariants.{Stage, Arguments, Results, Kept}

-- the size of 1, 2, 4 or 8 bytes; no other number is in range
abbrev pub size_of : ℕ → Size
size_of n = cond (nat_eq n 1) One (cond (nat_eq n 2) Two (cond (nat_eq n 4) Four Eight))

-- what a parameter says to a stage that takes registers, a size, or a test
abbrev pub registers_in : Parameter → List ℕ
registers_in (Registers rs) = rs.items
registers_in (Number n) = []
registers_in (Kinds ks) = []
registers_in Nothing = []

abbrev pub size_in : Parameter → Size
size_in (Registers rs) = One
size_in (Number n) = size_of n
size_in (Kinds ks) = One
size_in Nothing = One

abbrev pub test_in : Parameter → Request → Bool
test_in (Registers rs) r = false
test_in (Number n) r = is_at_least n r
test_in (Kinds ks) r = is_of_kinds ks.items r
test_in Nothing r = false

-- a stage on a line, by its word and its parameter, and by the first and the second stage below
abbrev pub profile_by : ℕ → StageWord → Parameter → Profile → Profile → Profile
profile_by line Count p a b = lined line (count_profile (registers_in p))
profile_by line Bits p a b = lined line (bits_profile (registers_in p))
profile_by line Up p a b = lined line (up_profile (size_in p))
profile_by line Widen p a b = map_profile (widened (size_in p)) a
profile_by line Raise p a b = map_profile (raised (size_in p)) a
profile_by line Choose p a b = choose_profile (test_in p) a b
profile_by line Over p a b = over_profile a b
profile_by line Shut p a b = shut_profile line a

-- what stands for a stage that is not there; no proper page names one
abbrev pub no_profile : Profile
no_profile = lined 0 (count_profile [])

-- the stage with a number, from 1
abbrev pub stage_at : List Profile → ℕ → Profile
stage_at stages n = slice_index_or stages (n - 1) no_profile

-- a stage line behind other stages
abbrev pub profile_of : List Profile → StageLine → Profile
profile_of before s = profile_by (length before + 1) s.stage s.parameter (stage_at before (slice_index s.below.items 0)) (stage_at before (slice_index s.below.items 1))

-- what lines say: the stages in order, the piles of arguments and results, and the kept registers
pub record Meaning : Type 0 where
  pub stages : List Profile
  pub arguments : Profile
  pub results : Profile
  pub kept : List ℕ

-- what nothing says
abbrev pub nothing_said : Meaning
nothing_said = record { stages = []; arguments = no_profile; results = no_profile; kept = [] }

-- what a line more says
abbrev pub with_line : Meaning → Line → Meaning
with_line m (Stage s) = record { stages = m.stages ++ profile_of m.stages s ∷ []; arguments = m.arguments; results = m.results; kept = m.kept }
with_line m (Arguments k) = record { stages = m.stages; arguments = stage_at m.stages k; results = m.results; kept = m.kept }
with_line m (Results k) = record { stages = m.stages; arguments = m.arguments; results = stage_at m.stages k; kept = m.kept }
with_line m (Kept rs) = record { stages = m.stages; arguments = m.arguments; results = m.results; kept = rs.items }

abbrev pub with_lines : Meaning → List Line → Meaning
with_lines m [] = m
with_lines m (l ∷ ls) = with_lines (with_line m l) ls

abbrev pub meaning_of : List Line → Meaning
meaning_of = with_lines nothing_said
