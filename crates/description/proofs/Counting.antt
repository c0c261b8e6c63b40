-- Counting the lines that were read.
use Rattle.std.proofs.Common.{◌≡◌, ◌+◌, List, [], ◌∷◌, ◌++◌, length, refl, length-append, arith}
use Rattle.std.specs.Option.{is_some}
use mir.Val.{bool_byte}
use Rattle.pages.specs.Rules.{stages_in, closing_in}
use Rattle.pages.specs.declared.lines.Line.{Line}
use Rattle.pages.specs.declared.lines.Line.TheVariants.{Stage, Arguments, Results, Kept}
use Rattle.description.specs.Profiles.{Meaning, nothing_said, with_line, with_lines, meaning_of, profile_of}
use Rattle.description.specs.Readings.{HasRead}
use Rattle.description.specs.declared.reading.Reading.{Reading}

pub lines_counted : (ls : List Line) → length ls ≡ stages_in ls + closing_in ls
lines_counted [] = refl
lines_counted (Stage s ∷ ls) = omega (arith, lines_counted ls)
lines_counted (Arguments k ∷ ls) = omega (arith, lines_counted ls)
lines_counted (Results k ∷ ls) = omega (arith, lines_counted ls)
lines_counted (Kept rs ∷ ls) = omega (arith, lines_counted ls)

stages_more : (m : Meaning) (ls : List Line) → length (with_lines m ls).stages ≡ length m.stages + stages_in ls
stages_more m [] = omega arith
stages_more m (Stage s ∷ ls) = omega (arith, stages_more (with_line m (Stage s)) ls, length-append m.stages (profile_of m.stages s ∷ []))
stages_more m (Arguments k ∷ ls) = stages_more (with_line m (Arguments k)) ls
stages_more m (Results k ∷ ls) = stages_more (with_line m (Results k)) ls
stages_more m (Kept rs ∷ ls) = stages_more (with_line m (Kept rs)) ls

pub stages_counted : (ls : List Line) → length (meaning_of ls).stages ≡ stages_in ls
stages_counted ls = omega (arith, stages_more nothing_said ls)

pub meaning_more : (m : Meaning) (ls : List Line) (l : Line) → with_lines m (ls ++ l ∷ []) ≡ with_line (with_lines m ls) l
meaning_more m [] l = refl
meaning_more m (k ∷ ls) l = meaning_more (with_line m k) ls l

-- as many are there as lines behind the stages were read
pub there_counted : (before : List Line) (r : Reading) → HasRead before r → bool_byte (is_some r.arguments) + bool_byte (is_some r.results) + bool_byte (is_some r.kept) ≡ closing_in before
there_counted before r h = grind (arith, h.arguments, h.results, h.kept, h.three_at_most)
