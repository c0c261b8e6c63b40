use Rattle.call.proofs.Stands.{delivers_as_it_stands}
use Rattle.call.proofs.standing.call_as_it_stands.Goals as goal

pub returns-clause-what_both_sides_hold_is_delivered : goal.returns-clause-what_both_sides_hold_is_delivered
returns-clause-what_both_sides_hold_is_delivered g c =
    delivers_as_it_stands _ _ _
    (record {
      bench_arguments = g.met.A.Stage.lawful c.args.bench.now.arguments.pile;
      bench_results = g.met.B.Stage.lawful c.args.bench.now.results.pile;
      core_arguments = g.met.C.Stage.lawful c.args.core.now.arguments.pile;
      core_results = g.met.D.Stage.lawful c.args.core.now.results.pile;
    })
    (record { registers_are_32 = c.told-registers; registers_have_32_bits = c.fits-registers; bytes_have_8_bits = c.know_bytes.ensures.each_has_8_bits })
    c.read_numbers.ensures.each_has_32_bits
    c.code_and_run.ensures.first_fault_of_caller_callee_or_memory
    c.code_and_run.ensures.comes_out_by_the_rules
