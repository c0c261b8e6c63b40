use Rattle.std.proofs.Common.{ℕ, List, []}
use Rattle.stage.specs.Books.{Profile}
use Rattle.description.specs.Plans.{Make}
use Rattle.description.proofs.Building.{Building}
use Rattle.description.proofs.draft.Draft.build.Given as goal

abbrev pub invariant-loop-plan : goal.invariant-loop-plan
invariant-loop-plan l =
    (goal.iterator-loop-plan).can_next l.plan-iterator
    × (goal.iterator-loop-plan).is_finite l.plan-iterator
    × ((all : List Profile) (names : List ℕ) → Make l.fn.self.planned.items [] [] all names → Building l.plan-iterator all names l.stages)
