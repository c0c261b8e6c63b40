use Rattle.std.proofs.Common.{rules}
use Rattle.allocation.proofs.Numbers.{no_size, unaligned}
use Rattle.allocation.specs.Rules.{size_of}
use Rattle.allocation.proofs.wanted.WantedTryFromAsked.try_from.Goals as goal

pub returns-in_err-width : goal.returns-in_err-width
returns-in_err-width c = let none = no_size c.args.asked.width c.in_err-width.ensures in search rules

pub returns-in_err-alignment : goal.returns-in_err-alignment
returns-in_err-alignment c =
    let none = no_size c.args.asked.alignment c.in_err-alignment.ensures in
    let any = unaligned c.args.asked.kind (size_of c.args.asked.width) in
    search rules
