use Rattle.std.proofs.Common.{◌≡◌, drop}
use Rattle.conditions.specs.Tests.{fresh_kinds, with_kinds, no_kinds}
use Rattle.conditions.proofs.Test.of_kinds.Given as goal

-- what is left of the list, after the set so far, is as good as the whole list
abbrev pub invariant-loop-kind : goal.invariant-loop-kind
invariant-loop-kind l =
    (fresh_kinds l.set (drop l.kind-index l.kinds) ≡ fresh_kinds no_kinds l.kinds)
    × (with_kinds l.set (drop l.kind-index l.kinds) ≡ with_kinds no_kinds l.kinds)
