use Rattle.std.proofs.Common.{◌≡◌, ℕ, ◌+◌, ◌<◌, true, List}
use Rattle.pages.specs.Rules.{is_in}
use Rattle.description.specs.Readings.{Marks}
use Rattle.description.proofs.reading.Reading.all_named.Given as goal

abbrev pub invariant-loop-index : goal.invariant-loop-index
invariant-loop-index l = (names : List ℕ) → Marks names l.self.marks → (k : ℕ) → k < l.index → is_in (k + 1) names ≡ true
