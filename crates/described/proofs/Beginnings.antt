-- Stages that begin alike answer alike.
use Rattle.std.proofs.Common.{◌≡◌, refl, sym, ◌∙◌, arith}
use Rattle.values.specs.Sizes.{bytes}
use Rattle.values.specs.declared.sizes.Size.{Size}
use Rattle.values.specs.declared.sizes.Size.TheVariants.{One, Two, Four, Eight}
use Rattle.stage.specs.Books.{Profile, Alike}
use Rattle.stage.specs.Clearing.{Begins}
use Rattle.stage.specs.declared.Stage.{Ghosts}
use Rattle.described.specs.Beside.{AnswerAlike}

pub begin_alike : {S P : Type 0} (g : Ghosts S) (h : Ghosts P) (b d : Profile) (s : S) (p : P) → Begins g b s → Begins h d p → Alike b d → AnswerAlike g h s p
begin_alike g h b d s p x y a = record {
  equal_books = x.first_book_is_back ∙ (a.equal_first_books ∙ sym y.first_book_is_back);
  alike = rw (x.profile_stays, y.profile_stays) a;
}

-- no two sizes have as many bytes
pub one_size : (m s : Size) → bytes m ≡ bytes s → m ≡ s
one_size One One e = refl
one_size Two Two e = refl
one_size Four Four e = refl
one_size Eight Eight e = refl
one_size One Two e = absurd (omega (arith, e))
one_size One Four e = absurd (omega (arith, e))
one_size One Eight e = absurd (omega (arith, e))
one_size Two One e = absurd (omega (arith, e))
one_size Two Four e = absurd (omega (arith, e))
one_size Two Eight e = absurd (omega (arith, e))
one_size Four One e = absurd (omega (arith, e))
one_size Four Two e = absurd (omega (arith, e))
one_size Four Eight e = absurd (omega (arith, e))
one_size Eight One e = absurd (omega (arith, e))
one_size Eight Two e = absurd (omega (arith, e))
one_size Eight Four e = absurd (omega (arith, e))
