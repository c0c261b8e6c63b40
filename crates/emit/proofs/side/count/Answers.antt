use Rattle.std.proofs.Common.{◌∙◌}
use Rattle.emit.proofs.Emits.{counted}
use Rattle.emit.proofs.side.count.Goals as goal

pub returns : goal.returns
returns g c = record { few_places = c.put.ensures.few_places; its_length = c.len.ensures.records_written ∙ counted _ _ _ _ c.new-records.ensures.nothing_written c.put.ensures.the_whole_code }
