use Rattle.std.proofs.Common.{rules}
use Rattle.std.proofs.lemmas.List.{set_past}
use Rattle.emit.proofs.records.Records.put.Goals as goal

pub returns : goal.returns
returns c = search (rules, set_past)
