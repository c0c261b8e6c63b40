use Rattle.std.proofs.Common.{◌≡◌, ℕ, List, Some, Bor, refl, ◌∙◌}
use Rattle.texts.specs.declared.parts.Parts.{Parts}
use Rattle.texts.specs.Parts.{parts, parts_left}
use Rattle.texts.proofs.Cuts.{cut_at, uncut}
use Rattle.texts.proofs.parts.Parts.next_part.Goals as goal

left_of : (p : Parts) (text : Bor (List ℕ)) → p.rest ≡ Some text → parts_left p ≡ parts p.separator text.now
left_of p text e = rw e refl

pub returns-in-Some : goal.returns-in-Some
returns-in-Some c =
    let e = c.in-Some.ensures in
    record { the_first_part_that_was_left = left_of _ c.in_ok-text.text c.in_ok-text.was ∙ cut_at _ _ _ e.0.high e.1 e.0.before }

pub returns-in-None : goal.returns-in-None
returns-in-None c =
    record { the_first_part_that_was_left = left_of _ c.in_ok-text.text c.in_ok-text.was ∙ uncut _ _ c.in-None.ensures }
