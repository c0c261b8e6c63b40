use Rattle.std.proofs.Common.{◌≡◌, [], length, refl, sym, ap, ◌∙◌, rules, tests}
use Rattle.std.proofs.lemmas.Iterator.{YieldsList-from_range}
use Rattle.std.proofs.lemmas.Iterator.Consumers.{YieldsList-at, YieldsList-from_filter, count_from_yields_List}
use Rattle.place.specs.Registers.{has}
use Rattle.emit.specs.Registers.{members}
use Rattle.emit.proofs.Saved.{no_members}
use Rattle.emit.proofs.saving.count_saved.Goals as goal

pub returns-then-eq-clause-their_number : goal.returns-then-eq-clause-their_number
returns-then-eq-clause-their_number c =
    let none : c.args.saved.bits ≡ 0 = search rules in
    let empty : members c.args.saved.bits ≡ [] = ap members none ∙ no_members in
    sym (ap length empty)

pub returns-clause-their_number : goal.returns-clause-their_number
unfolding members
returns-clause-their_number c = count_from_yields_List c.filter.result _ c.count.ensures.ran (YieldsList-from_filter _ (has c.args.saved.bits) (YieldsList-at c.filter.ensures.source (YieldsList-from_range 0 28 28 refl refl)) c.filter.ensures.closure (λ x r q k. search (rules, tests)))
