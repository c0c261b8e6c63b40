use Rattle.std.proofs.Common.{◌+◌, ◌*◌, length, drop}
use Rattle.delivery.specs.Code.{each_word}
use Rattle.emit.specs.Registers.{members, word_code}
use Rattle.emit.proofs.Emits.{Left}
use Rattle.emit.proofs.saving.put_words.Given as goal

abbrev pub invariant-loop-i : goal.invariant-loop-i
invariant-loop-i l =
    let code = word_code l.way in
    let rs = members l.fn.saved.bits in
    let i = length l.yielded in
    Left (each_word code rs l.home) l.initial.records i (each_word code (drop i rs) (l.home + 4 * i)) l.records
