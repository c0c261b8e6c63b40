use Rattle.std.proofs.Common.{length}
use Rattle.texts.specs.Parts.{parts_left}
use Rattle.signatures.proofs.Checking.{Checking}
use Rattle.signatures.proofs.reading.check_words.Given as goal

abbrev pub invariant-loop-word : goal.invariant-loop-word
invariant-loop-word l = Checking (parts_left l.fn.words) l.divided l.known (parts_left l.words)

abbrev pub decreases-loop-word : goal.decreases-loop-word
decreases-loop-word l = length (parts_left l.words)
