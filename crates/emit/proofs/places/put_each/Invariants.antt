use Rattle.std.proofs.Common.{◌+◌, ◌*◌, map, drop}
use Rattle.allocation.specs.States.{holding}
use Rattle.delivery.specs.Code.{each_home}
use Rattle.emit.proofs.Emits.{Left}
use Rattle.emit.proofs.places.put_each.Given as goal

abbrev pub invariant-loop-i : goal.invariant-loop-i
invariant-loop-i g l =
    let code = g.H.HomeCode.code l.how in
    Left (each_home code (map holding l.held) l.home) l.initial.records (4 * l.i) (each_home code (map holding (drop l.i l.held)) (l.home + 8 * l.i)) l.records
