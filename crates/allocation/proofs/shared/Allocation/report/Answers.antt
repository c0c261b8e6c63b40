use Rattle.std.proofs.Common.{take, ◌∙◌}
use Rattle.values.specs.Types.{all_types}
use Rattle.allocation.proofs.Reports.{none_placed}
use Rattle.allocation.proofs.shared.Allocation.report.Goals as goal

pub returns-clause-empty_where_nothing_is_endless : goal.returns-clause-empty_where_nothing_is_endless
returns-clause-empty_where_nothing_is_endless g c = λ none.
    c.loop-value.invariant.1 ∙ none_placed (g.P.Stage.profile c.args.self.now.pile).questions none (take c.loop-value.value-index all_types)
