use Rattle.std.proofs.Common.{refl}
use Rattle.histories.proofs.Hearing.{then}
use Rattle.call.proofs.Steps.{same_sides}
use Rattle.call.proofs.Astrays.{nothing_goes_astray_from}
use Rattle.call.proofs.calls.call.Goals as goal

pub returns : goal.returns
returns g c =
    let did = c.place_and_run.ensures in
    let bench = c.open_side-bench.ensures in
    let core = c.open_side-core.ensures in
    record {
      nothing_goes_astray = (
        _,
        then g.L.Listener.hears _ _ _ _ _ bench.every_answer_is_heard core.every_answer_is_heard,
        nothing_goes_astray_from _ _
            (record {
              bench_arguments = g.met.A.Stage.lawful c.args.bench.arguments.pile;
              bench_results = g.met.B.Stage.lawful c.args.bench.results.pile;
              core_arguments = g.met.C.Stage.lawful c.args.core.arguments.pile;
              core_results = g.met.D.Stage.lawful c.args.core.results.pile;
            })
            refl
            _
            (same_sides _ _ _ _ _ _ _ _ bench.arguments_newly_opened bench.results_newly_opened core.arguments_newly_opened core.results_newly_opened)
            did.sides_are_placed_by_the_rules
            did.refused_with_the_first_fault
            did.pile_refusal_has_the_blamed_line
            did.comes_out_by_the_rules
            did.what_both_sides_hold_is_delivered,
      );
    }
