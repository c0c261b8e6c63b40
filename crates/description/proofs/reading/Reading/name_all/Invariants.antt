use Rattle.std.proofs.Common.{◌≡◌, ℕ, List, drop, length}
use Rattle.description.specs.Readings.{Marks}
use Rattle.description.proofs.Naming.{NamedUpTo}
use Rattle.description.proofs.reading.Reading.name_all.Given as goal

abbrev pub invariant-loop-number : goal.invariant-loop-number
invariant-loop-number l =
    ((names : List ℕ) → Marks names l.fn.self.marks → NamedUpTo (length l.fn.self.planned.items) names l.numbers (drop l.number-index l.numbers) l.self.marks)
    × (l.self ≡ record l.fn.self { marks = l.self.marks })
