use Rattle.std.proofs.Common.{◌≡◌, ◌≤◌, ◌∷◌, length, arith}
use Rattle.std.proofs.lemmas.Grind.{common_steps}
use Rattle.std.proofs.lemmas.List.Splits.{length-slice_split}
use Rattle.std.specs.Bool.{◌==◌}
use Rattle.texts.specs.Parts.{parts, parts_left}
use Rattle.description.proofs.Progress.{begins, goes_on, stops, ends}
use Rattle.description.proofs.draft.Draft.read.Goals as goal

pub loop-next-init : goal.loop-next-init
loop-next-init c =
    let filled : 1 ≤ length c.args.text.now = grind (arith, common_steps) in
    let short : length c.args.text.now ≤ 8192 = grind (arith, common_steps) in
    let first : parts 10 c.args.text.now ≡ c.unwrap_or-line.result.now ∷ parts_left c.next_part.new.self = grind (arith, common_steps, length-slice_split (λ b. b == 10) c.args.text.now) in
    begins _ _ _ _ filled short first c.new-reading.ensures.nothing_read

pub loop-next-preserved : goal.loop-next-preserved
loop-next-preserved c =
    let p = rw c.in-Some.ensures.the_first_part_that_was_left at c.loop-next.invariant in
    goes_on _ _ _ _ _ _ p (c.in_ok-read_line.ensures.read_by_the_rules p.before p.lines_were_read)

pub returns-in_err-read_line : goal.returns-in_err-read_line
returns-in_err-read_line c =
    let p = rw c.in-Some.ensures.the_first_part_that_was_left at c.loop-next.invariant in
    let stopped = stops _ _ _ _ _ c.read_line.new.self _ p (c.in_err-read_line.ensures.read_by_the_rules p.before p.lines_were_read) in
    grind (arith, common_steps, stopped)

pub returns : goal.returns
returns c =
    let none = c.in_default.ensures.the_first_part_that_was_left.0 in
    let p = rw none at c.loop-next.invariant in
    record { drafted_as_the_page_that_writes_it_or_the_first_fault = ends c.args.text.now c.loop-next.line.now c.loop-next.reading c.finish.result p (c.finish.ensures.ended_by_the_rules p.before p.lines_were_read) }
