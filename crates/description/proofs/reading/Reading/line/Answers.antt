use Rattle.std.proofs.Common.{ap, ◌∙◌, arith}
use mir.Val.{bool_byte}
use Rattle.description.proofs.Counting.{lines_counted, there_counted}
use Rattle.description.proofs.MoreRead.{plans_counted}
use Rattle.description.proofs.reading.Reading.line.Goals as goal

pub returns-clause-one_behind_the_lines_read : goal.returns-clause-one_behind_the_lines_read
returns-clause-one_behind_the_lines_read c = λ before h.
    let n = plans_counted before c.args.self.now h in
    omega (arith, n, c.len.ensures.value, lines_counted before, there_counted before c.args.self.now h, c.from.ensures ∙ ap bool_byte c.is_some.ensures, c.from-2.ensures ∙ ap bool_byte c.is_some-2.ensures, c.from-3.ensures ∙ ap bool_byte c.is_some-3.ensures)
