use Rattle.std.proofs.Common.{◌≡◌, drop}
use Rattle.banks.specs.Lists.{fresh_in, distinct, with_all, set_of}
use Rattle.banks.proofs.register_list.gather.Given as goal

-- what is left of the list, after the set so far, is as good as the whole list
abbrev pub invariant-loop-r : goal.invariant-loop-r
invariant-loop-r l =
    (fresh_in l.set.bits (drop l.r-index l.list) ≡ distinct l.list)
    × (with_all l.set.bits (drop l.r-index l.list) ≡ set_of l.list)
