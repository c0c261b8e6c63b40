use Rattle.std.proofs.Common.{◌≡◌, drop}
use Rattle.texts.specs.Parts.{parts_left}
use Rattle.texts.proofs.parts.Parts.nth_part.Given as goal

-- the parts before are gone
abbrev pub invariant-loop : goal.invariant-loop
invariant-loop l = parts_left l.self ≡ drop l.counter (parts_left l.fn.self)
