use Rattle.std.proofs.Common.{◌≡◌, append_assoc, refl, subst, ◌∙◌}
use Rattle.std.specs.Prelude.{codes, decimal}
use Rattle.std.specs.Fmt.{HasWritten, HasWrittenStyled}
use Rattle.origins.specs.Faults.{fault_from, fault_text}
use Rattle.origins.proofs.Written.{text_after_writes}
use Rattle.origins.proofs.OriginDisplay.fmt.Goals as goal

pub returns-clause-writes : goal.returns-clause-writes
returns-clause-writes g c plain ok =
    let o = c.args.self.now in
    let written = text_after_writes _ _ _ c.in_ok-write.ensures.writes c.new-text.ensures.intact in
    let shown : c.as_str.result.now ≡ fault_text (fault_from o) = c.as_str.ensures.value ∙ written.1 ∙ (rw (c.new-text.ensures.text, append_assoc (decimal o.number) (codes " at ") (decimal o.position)) refl) in
    subst (λ bs. HasWritten g.W.Write.write_str_gives c.args.f.now bs c.write_str.new.self) shown (c.write_str.ensures.writes plain ok)

pub returns-clause-styled : goal.returns-clause-styled
returns-clause-styled g c flush ok =
    let o = c.args.self.now in
    let written = text_after_writes _ _ _ c.in_ok-write.ensures.writes c.new-text.ensures.intact in
    let shown : c.as_str.result.now ≡ fault_text (fault_from o) = c.as_str.ensures.value ∙ written.1 ∙ (rw (c.new-text.ensures.text, append_assoc (decimal o.number) (codes " at ") (decimal o.position)) refl) in
    subst (λ bs. HasWrittenStyled g.W.Write.write_str_gives c.args.f.now bs c.write_str.new.self) shown (c.write_str.ensures.styled flush ok)
