use Rattle.std.proofs.Common.{rules}
use Rattle.machine.proofs.Runs.{run_goes_on, run_stops}
use Rattle.machine.proofs.Machine.advance.Goals as goal

pub loop-made-preserved : goal.loop-made-preserved
loop-made-preserved c = search (rules, run_goes_on)

pub returns-then-not-step : goal.returns-then-not-step
returns-then-not-step c = search (rules, run_stops)
