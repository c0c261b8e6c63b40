use Rattle.std.proofs.Common.{refl, arith}
use Rattle.std.proofs.lemmas.List.{get_or_default}
use Rattle.emit.proofs.Emits.{records_kept, none_left}
use Rattle.emit.proofs.records.Records.put_all.Goals as goal

pub loop-x-preserved : goal.loop-x-preserved
loop-x-preserved c = records_kept _ _ _ c.args.xs.now c.loop-x.invariant _ _ c.loop-x-test.true (get_or_default _ _ _ _ c.loop-x-test.true) c.put.ensures.one_record_more

pub returns : goal.returns
returns c = record {
  each_record = none_left _ c.loop-x.x-index _ _ _ (λ xs. xs) c.args.xs.now refl c.loop-x-test.false c.loop-x.invariant;
  few = omega (arith, c.loop-x.invariant.few);
}
