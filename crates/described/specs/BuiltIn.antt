-- A described pile beside the same stages built in.
use Rattle.stage.specs.Books.{Profile}
use Rattle.banks.specs.Banks.{count_profile, bits_profile}
use Rattle.blocks.specs.Blocks.{up_profile}
use Rattle.adjust.specs.Adjusting.{changed, map_profile}
use Rattle.conditions.specs.Tests.{meets}
use Rattle.sides.specs.Sides.{choose_profile, over_profile}
use Rattle.shut.specs.Shutting.{shut_profile}
use Rattle.described.specs.declared.pile.Pile.{Pile}
use Rattle.described.specs.declared.tree.Tree.{Tree}
use Rattle.described.specs.declared.tree.Tree.TheVariants.{Count, Bits, Up, Adjust', Choose', Over', Shut'}

-- the profile of the same stages built in, which have no lines
abbrev pub tree_built_in : Tree → Profile
tree_built_in (Count line bank) = count_profile bank.list.registers.items
tree_built_in (Bits line bank) = bits_profile bank.list.registers.items
tree_built_in (Up line block) = up_profile block.limit
tree_built_in (Adjust' change p below) = map_profile (changed change) (tree_built_in below)
tree_built_in (Choose' test p first q second) = choose_profile (meets test) (tree_built_in first) (tree_built_in second)
tree_built_in (Over' p first q second) = over_profile (tree_built_in first) (tree_built_in second)
tree_built_in (Shut' line closed p below) = shut_profile 0 (tree_built_in below)

abbrev pub built_in_profile : Pile → Profile
built_in_profile p = tree_built_in p.tree
