use Rattle.description.proofs.Planning.{width_planned, kinds_planned}
use Rattle.description.proofs.plan.Plan.of.Goals as goal

pub returns-in_ok-at_least-in-Choose-Number : goal.returns-in_ok-at_least-in-Choose-Number
returns-in_ok-at_least-in-Choose-Number c =
    let at = c.in-Choose-Number in
    let read = c.in_ok-at_least-in-Choose-Number in
    record { in_range_or_refused = λ form. width_planned c.args.line c.args.stage.now at.m read.field-0 at.is-0 at.is-1 read.ensures.refused_unless_2_4_or_8 read.ensures.meets_exactly_requests_so_wide }

pub returns-in_ok-of_kinds-in-Choose-Kinds : goal.returns-in_ok-of_kinds-in-Choose-Kinds
returns-in_ok-of_kinds-in-Choose-Kinds c =
    let at = c.in-Choose-Kinds in
    let read = c.in_ok-of_kinds-in-Choose-Kinds in
    let exact = rw c.as_slice-in-Choose-Kinds.ensures.value at read.ensures.meets_exactly_requests_of_these_kinds in
    record { in_range_or_refused = λ form. kinds_planned c.args.line c.args.stage.now at.kinds read.field-0 at.is-0 at.is-1 exact }
