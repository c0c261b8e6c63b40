use Rattle.std.proofs.Common.{◌≡◌, true, sym, ◌∙◌, arith}
use Rattle.std.proofs.lemmas.Grind.{common_steps}
use Rattle.banks.specs.Lists.{distinct, set_of}
use Rattle.description.proofs.MoreRead.{with_kept}
use Rattle.description.proofs.reading.Reading.set_kept.Goals as goal

pub returns : goal.returns
returns c =
    let d : distinct c.args.list.now ≡ true = grind (arith, common_steps) in
    let b : c.in_ok-kept.kept.bits ≡ set_of c.args.list.now = grind (arith, common_steps) in
    record { checked_by_the_rules = λ before h. with_kept before c.args.self.now h c.args.list.now c.in_ok-kept.kept (grind (arith, common_steps)) (sym c.is_some.ensures ∙ c.if-is_some.false) d b }
