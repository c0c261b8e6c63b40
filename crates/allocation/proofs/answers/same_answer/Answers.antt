use Rattle.std.proofs.Common.{rules}
use Rattle.allocation.proofs.Compared.{compared_decides}
use Rattle.allocation.proofs.answers.same_answer.Goals as goal

pub returns : goal.returns
returns c = search (rules, compared_decides)
