use Rattle.std.proofs.Common.{◌+◌, rules}
use Rattle.machine.specs.declared.Mode.TheVariants.{Running}
use Rattle.machine.specs.Machine.{State, state_of}
use Rattle.machine.proofs.Frames.{step_frame}
use Rattle.machine.proofs.Machine.step.Goals as goal

pub returns-in-Running-Some-clause-what_the_instruction_does_not_write_stays : goal.returns-in-Running-Some-clause-what_the_instruction_does_not_write_stays
returns-in-Running-Some-clause-what_the_instruction_does_not_write_stays c =
    let t : State = state_of (record { registers = c.perform.new.self.registers; mode = Running c.in-Running-Some.side (c.in-Running-Some.at + 1) }) c.perform.new.memory in
    step_frame c.args.program.caller.now c.args.program.callee.now (state_of c.args.self.now c.args.memory.now) t (search rules)
