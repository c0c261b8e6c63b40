use Rattle.std.proofs.Common.{◌≡◌, arith, rules}
use Rattle.std.specs.List.{slice_get}
use Rattle.std.proofs.lemmas.Option.{gets}
use Rattle.machine.proofs.Machine.fetch.Goals as goal
use Rattle.machine.proofs.Machine.fetch.Goals.{in-Caller, in-Callee}

pub returns-clause-leads_to_the_next_state : goal.returns-clause-leads_to_the_next_state
returns-clause-leads_to_the_next_state c =
    let found : c.copied.result ≡ slice_get c.match-side.code.now c.in-Running.at = grind (arith, gets) in
    elim c.match-side.branch [
      | in-Caller w ↦ search rules
      | in-Callee w ↦ search rules
    ]
