use Rattle.std.proofs.Common.{drop}
use Rattle.std.specs.List.{AllByRecursion}
use Rattle.delivery.specs.Delivering.{Sized}
use Rattle.call.proofs.ranges.read_numbers.Given as goal

-- it holds of all where it holds of those that are left
abbrev pub invariant-loop-instruction : goal.invariant-loop-instruction
invariant-loop-instruction l = AllByRecursion Sized (drop l.instruction-index l.body) → AllByRecursion Sized l.body
