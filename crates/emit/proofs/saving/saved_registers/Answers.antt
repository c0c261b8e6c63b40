use Rattle.std.proofs.Common.{◌≡◌, ℕ, ◌∙◌, ap, rules, tests}
use Rattle.std.specs.List.{filter, filter_map}
use Rattle.std.proofs.lemmas.Iterator.{YieldsList-from_slice}
use Rattle.std.proofs.lemmas.Iterator.Consumers.{YieldsList-at, YieldsList-from_filter, YieldsList-from_filter_map, fold_from_yields_List}
use Rattle.place.specs.Registers.{has, with}
use Rattle.place.specs.declared.registers.RegisterSet.{RegisterSet}
use Rattle.emit.specs.Registers.{destination, members}
use Rattle.emit.proofs.Saved.{gathered, members_gathered}
use Rattle.emit.proofs.saving.saved_registers.Goals as goal

pub returns : goal.returns
returns c =
    let kept = c.args.kept.bits in
    let body = c.args.body.now in
    let set : c.fold.result ≡ gathered (record { bits = 0 }) (filter (has kept) (filter_map destination body)) =
    fold_from_yields_List _ (λ (s : RegisterSet) (d : ℕ). record { bits = with s.bits d }) _ c.fold.result c.fold.ensures.ran
    (YieldsList-from_filter _ (has kept)
    (YieldsList-at c.filter.ensures.source
    (YieldsList-from_filter_map _ destination (YieldsList-at c.filter_map.ensures.source (YieldsList-from_slice body cc)) c.filter_map.ensures.closure (λ x r q k. search (rules, tests))))
    c.filter.ensures.closure (λ x r q k. search (rules, tests)))
    (λ a x b q k. search (rules, tests)) in
    record { kept_ones_that_the_body_writes = ap (λ (s : RegisterSet). members s.bits) set ∙ members_gathered kept body }
