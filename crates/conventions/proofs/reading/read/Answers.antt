use Rattle.service.proofs.Agreed.{every_call_delivers}
use Rattle.conventions.proofs.BothSides.{both_as_said, agree, calls_keep_sides_agreeing}
use Rattle.conventions.proofs.reading.read.Goals as goal

pub returns : goal.returns
returns c =
    let said = both_as_said c.args.text.now c.in_ok-bench.bench c.in_ok-core.core c.open.result c.in_ok-bench.ensures.read_for_one_side c.in_ok-core.ensures.read_for_one_side c.open.ensures.newly_opened_with_the_kept_set_of_the_bench in
    let agreed = agree c.args.text.now c.open.result said in
    record {
      both_sides_as_described_or_the_first_fault = said;
      both_sides_agree = agreed;
      they_agree_after_every_call = calls_keep_sides_agreeing;
      no_argument_or_result_goes_astray_in_its_calls = every_call_delivers _ agreed;
    }
