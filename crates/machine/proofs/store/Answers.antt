use Rattle.std.proofs.Common.{arith}
use Rattle.machine.proofs.Bytes.{put_lowest}
use Rattle.machine.proofs.store.Goals as goal

pub returns-in-Four : goal.returns-in-Four
returns-in-Four c = search (arith, put_lowest)
