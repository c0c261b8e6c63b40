use Rattle.std.proofs.Common.{rules}
use Rattle.worked.proofs.Comes.{worked_cases}
use Rattle.worked.proofs.cases.worked_cases.Goals as goal

pub returns : goal.returns
returns c = record { every_case_comes_out = search rules; worked_cases_hold = worked_cases }
