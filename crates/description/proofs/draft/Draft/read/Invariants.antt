use Rattle.std.proofs.Common.{length}
use Rattle.texts.specs.Parts.{parts_left}
use Rattle.description.proofs.Progress.{Progress}
use Rattle.description.proofs.draft.Draft.read.Given as goal

abbrev pub invariant-loop-next : goal.invariant-loop-next
invariant-loop-next l = Progress l.fn.text l.line (parts_left l.lines) l.reading

abbrev pub decreases-loop-next : goal.decreases-loop-next
decreases-loop-next l = length (parts_left l.lines)
