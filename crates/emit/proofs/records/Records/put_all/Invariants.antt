use Rattle.std.proofs.Common.{drop}
use Rattle.emit.proofs.Emits.{Left}
use Rattle.emit.proofs.records.Records.put_all.Given as goal

abbrev pub invariant-loop-x : goal.invariant-loop-x
invariant-loop-x l = Left l.xs l.initial.self l.x-index (drop l.x-index l.xs) l.self
