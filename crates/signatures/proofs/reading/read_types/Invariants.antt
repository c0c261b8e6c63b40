use Rattle.std.proofs.Common.{◌≤◌, length}
use Rattle.texts.specs.Parts.{parts_left}
use Rattle.signatures.proofs.Typing.{Typing}
use Rattle.signatures.proofs.reading.read_types.Given as goal

abbrev pub invariant-loop-word : goal.invariant-loop-word
invariant-loop-word g l = Typing (parts_left l.fn.words) l.list.items (parts_left l.words) × (length l.list.items ≤ g.row.N)

abbrev pub decreases-loop-word : goal.decreases-loop-word
decreases-loop-word g l = length (parts_left l.words)
