use Rattle.std.proofs.Common.{◌≤◌, length, drop}
use Rattle.texts.proofs.Gathering.{Gathering}
use Rattle.pages.specs.Lines.{kind_of}
use Rattle.pages.proofs.lines.read_kinds.Given as goal

abbrev pub invariant-loop-letter : goal.invariant-loop-letter
invariant-loop-letter l = Gathering kind_of l.fn.word l.list.items (drop l.letter-index l.word) × (length l.list.items ≤ 4)
