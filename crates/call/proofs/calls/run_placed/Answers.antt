use Rattle.call.proofs.Stands.{refused_delivers}
use Rattle.call.proofs.calls.run_placed.Goals as goal

pub returns-in_err-placed-clause-what_both_sides_hold_is_delivered :
    goal.returns-in_err-placed-clause-what_both_sides_hold_is_delivered
returns-in_err-placed-clause-what_both_sides_hold_is_delivered g c = refused_delivers _ _ _ c.from_residual.ensures.0
