use Rattle.emit.proofs.Saved.{no_members}
use Rattle.emit.proofs.caller.CallerSideCode.frame.Goals as goal

pub returns-clause-its_saved_registers : goal.returns-clause-its_saved_registers
returns-clause-its_saved_registers g c = no_members
