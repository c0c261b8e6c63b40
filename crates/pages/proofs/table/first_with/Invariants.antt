use Rattle.std.proofs.Common.{◌≡◌, drop, map}
use Rattle.std.specs.List.{AllByRecursion}
use Rattle.pages.specs.Table.{stage_among, IsTheEntry}
use Rattle.pages.proofs.table.first_with.Given as goal

abbrev pub invariant-loop-entry : goal.invariant-loop-entry
invariant-loop-entry l =
    (stage_among (map (λ e. e.stage) l.entries) l.word ≡ stage_among (map (λ e. e.stage) (drop l.entry-index l.entries)) l.word) × AllByRecursion IsTheEntry (drop l.entry-index l.entries)
