use Rattle.std.proofs.Common.{◌≡◌, ◌-◌}
use Rattle.machine.specs.Machine.{runs, counted, state_of}
use Rattle.machine.proofs.Machine.advance.Given as goal

-- what is left of the budget, run from here after the steps made, is the whole run
abbrev pub invariant-loop-made : goal.invariant-loop-made
invariant-loop-made l = counted l.made (runs l.program.caller.now l.program.callee.now (l.budget - l.made) (state_of l.self l.memory)) ≡ runs l.program.caller.now l.program.callee.now l.budget (state_of l.initial.self l.initial.memory)
