-- Piles by what their makers say of them.
use Rattle.std.proofs.Common.{◌≡◌, ℕ, Bool, List, Decides, ap, ◌∙◌, subst, arith}
use Rattle.std.proofs.lemmas.Bool.Decides.{nat_tests}
use Rattle.values.specs.Sizes.{bytes}
use Rattle.values.specs.declared.sizes.Size.{Size}
use Rattle.values.specs.declared.sizes.Size.TheVariants.{Four, Eight}
use Rattle.stage.specs.Books.{Profile}
use Rattle.adjust.specs.Adjusting.{map_profile}
use Rattle.values.specs.Requests.{widened}
use Rattle.allocation.specs.Faults.{Answer}
use Rattle.blocks.specs.Blocks.{up_profile}
use Rattle.allocation.specs.declared.asked.Asked.{Asked}
use Rattle.sides.specs.Sides.{over_profile}
use Rattle.worked.specs.Trials.{Gives}

-- a pile of a known profile gives what one with that profile gives
pub told : (p q : Profile) (b : Bool) (qs : List Asked) (given : List Answer) (n : ℕ) → p ≡ q → Decides b (Gives p qs given n) → Decides b (Gives q qs given n)
told p q b qs given n e d = subst (λ (x : Profile). Decides b (Gives x qs given n)) e d

is_four : (s : Size) → bytes s ≡ 4 → s ≡ Four
is_four s e = grind (arith, nat_tests)

is_eight : (s : Size) → bytes s ≡ 8 → s ≡ Eight
is_eight s e = grind (arith, nat_tests)

pub up_eight : (s : Size) → bytes s ≡ 8 → up_profile s ≡ up_profile Eight
up_eight s e = ap up_profile (is_eight s e)

pub over_made : (p p' q q' : Profile) → p ≡ p' → q ≡ q' → over_profile p q ≡ over_profile p' q'
over_made p p' q q' e f = ap (λ x. over_profile x q) e ∙ ap (over_profile p') f

pub widened_to_four : (s : Size) (p q : Profile) → bytes s ≡ 4 → p ≡ q → map_profile (widened s) p ≡ map_profile (widened Four) q
widened_to_four s p q e f = ap (λ x. map_profile (widened x) p) (is_four s e) ∙ ap (map_profile (widened Four)) f
