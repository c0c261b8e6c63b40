use Rattle.std.proofs.Common.{◌≡◌, ◌++◌, length, drop, arith, rules}
use Rattle.emit.proofs.Emits.{in_front}
use Rattle.emit.proofs.side.write.Goals as goal

pub returns-clause-code_at_the_front_and_the_rest_untouched : goal.returns-clause-code_at_the_front_and_the_rest_untouched
returns-clause-code_at_the_front_and_the_rest_untouched g c =
    let made = g.S.SideCode.code c.args.side.now in
    let front : c.put.new.records.list.now ≡ made ++ drop (length made) c.args.list.now = in_front made c.args.list.now _ _ c.new.ensures.nothing_written c.put.ensures.the_whole_code (omega (arith, c.in_ok-length.ensures)) in
    search (rules, front)
