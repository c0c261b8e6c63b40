-- The piles of the worked cases. `over` has its first stage in front: the second gets what that refuses.
use Rattle.std.specs.Prelude.{[], ◌∷◌}
use Rattle.values.specs.Requests.{widened}
use Rattle.values.specs.declared.sizes.Size.TheVariants.{Four, Eight}
use Rattle.stage.specs.Books.{Profile}
use Rattle.banks.specs.Banks.{count_profile, bits_profile}
use Rattle.blocks.specs.Blocks.{up_profile}
use Rattle.adjust.specs.Adjusting.{map_profile}
use Rattle.sides.specs.Sides.{over_profile}
use Rattle.shut.specs.Shutting.{shut_profile}

-- bits r0 r1 r2 r3 over up 8, widened to 4
abbrev pub wide : Profile
wide = map_profile (widened Four) (over_profile (bits_profile (0 ∷ 1 ∷ 2 ∷ 3 ∷ [])) (up_profile Eight))

-- a shut bits r0 r1 over up 8
abbrev pub shut_pair : Profile
shut_pair = over_profile (shut_profile 0 (bits_profile (0 ∷ 1 ∷ []))) (up_profile Eight)

-- bits r0 r1 over up 8
abbrev pub open_pair : Profile
open_pair = over_profile (bits_profile (0 ∷ 1 ∷ [])) (up_profile Eight)

-- count r0 r1
abbrev pub count_pair : Profile
count_pair = count_profile (0 ∷ 1 ∷ [])

-- up 8
abbrev pub block : Profile
block = up_profile Eight

-- count r0 over bits r0 r1: r0 is in both
abbrev pub shared : Profile
shared = over_profile (count_profile (0 ∷ [])) (bits_profile (0 ∷ 1 ∷ []))
