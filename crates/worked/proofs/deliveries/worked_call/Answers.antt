use Rattle.std.proofs.Common.{refl}
use Rattle.worked.proofs.Delivered.{pointer_stands, delivers_as_promised}
use Rattle.worked.proofs.deliveries.worked_call.Goals as goal

pub returns : goal.returns
returns c =
    let bench = c.in_ok-bench.ensures.has_both_piles_unused in
    let core = c.in_ok-core.ensures.has_both_piles_unused in
    let promised = c.call-called.ensures.nothing_goes_astray in
    record {
      is_made_and_delivers = delivers_as_promised _ _ _ _ _ _ bench.0 bench.1 core.0 core.1 refl refl c.told-memory (pointer_stands c.args.registers.now c.told-registers) promised.2;
    }
