use Rattle.std.proofs.Common.{ap, sym, ◌∙◌}
use Rattle.std.proofs.lemmas.List.{at_drop_all}
use Rattle.conditions.specs.Tests.{has_kind, with_kinds}
use Rattle.conditions.proofs.KindLists.{has_its_kinds}
use Rattle.conditions.proofs.Test.of_kinds.Goals as goal

pub returns-clause-meets_exactly_requests_of_these_kinds : goal.returns-clause-meets_exactly_requests_of_these_kinds
returns-clause-meets_exactly_requests_of_these_kinds c =
    let kinds = c.args.kinds.now in
    let whole = sym (at_drop_all (with_kinds c.loop-kind.set) kinds c.loop-kind.kind-index c.loop-kind-test.false) ∙ c.loop-kind.invariant.1 in
    λ r. ap (λ s. has_kind s r.kind) whole ∙ has_its_kinds kinds r.kind
