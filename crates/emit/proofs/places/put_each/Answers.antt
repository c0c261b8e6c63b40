use Rattle.std.proofs.Common.{◌+◌, ◌*◌, map, refl, arith}
use Rattle.allocation.specs.States.{holding}
use Rattle.delivery.specs.Code.{each_home}
use Rattle.emit.proofs.Emits.{homes_left, none_left}
use Rattle.emit.proofs.places.put_each.Goals as goal

pub loop-i-preserved : goal.loop-i-preserved
loop-i-preserved g c = homes_left _ _ _ _ _ _ c.loop-i.invariant c.index-held-i.result _ c.loop-i-test.true c.index-held-i.is c.put.ensures.code_for_the_place c.put.ensures.few

pub returns : goal.returns
returns g c = record {
  code_for_each_place = none_left _ c.loop-i.i _ _ _ (λ hs. each_home (g.H.HomeCode.code c.args.how.now) (map holding hs) (c.args.home + 8 * c.loop-i.i)) c.args.held.now refl c.loop-i-test.false c.loop-i.invariant;
  few = omega (arith, c.loop-i.invariant.few);
}
