-- A described pile is lawful, and means what the same stages mean that are built in.
use Rattle.std.specs.Prelude.{refl}
use Rattle.conditions.specs.Tests.{meets}
use Rattle.stage.specs.Books.{Alike}
use Rattle.stage.specs.Lawful.{Lawful}
use Rattle.banks.specs.BanksLemmas.{count_lawful, bits_lawful}
use Rattle.blocks.specs.BlocksLemmas.{up_lawful}
use Rattle.adjust.specs.Adjusting.{changed}
use Rattle.adjust.specs.AdjustingLemmas.{adjust_lawful, map_alike}
use Rattle.sides.specs.Layers.{choose_lawful, over_lawful, choose_alike, over_alike}
use Rattle.shut.specs.ShuttingLemmas.{shut_lawful, shut_alike}
use Rattle.described.specs.BuiltIn.{tree_built_in}
use Rattle.described.specs.Piles.{tree_profile, pile_profile}
use Rattle.described.specs.declared.pile.Pile.{Pile}
use Rattle.described.specs.declared.tree.Tree.{Tree}
use Rattle.described.specs.declared.tree.Tree.TheVariants.{Count, Bits, Up, Adjust', Choose', Over', Shut'}

pub tree_lawful : (s : Tree) → Lawful (tree_profile s).questions (tree_profile s).first
tree_lawful (Count line bank) = count_lawful bank.list.registers.items bank.list.distinct
tree_lawful (Bits line bank) = bits_lawful bank.list.registers.items bank.list.distinct
tree_lawful (Up line block) = up_lawful block.limit
tree_lawful (Adjust' change p below) = adjust_lawful change _ _ (tree_lawful below)
tree_lawful (Choose' test p first q second) = choose_lawful (meets test) _ _ _ _ (tree_lawful first) (tree_lawful second)
tree_lawful (Over' p first q second) = over_lawful _ _ _ _ (tree_lawful first) (tree_lawful second)
tree_lawful (Shut' line closed p below) = shut_lawful _ _ (tree_lawful below)

pub pile_lawful : (s : Pile) → Lawful (pile_profile s).questions (pile_profile s).first
pile_lawful s = tree_lawful s.tree

pub alike_built_in : (s : Tree) → Alike (tree_profile s) (tree_built_in s)
alike_built_in (Count line bank) = record { equal_first_books = refl; equal_answers_to_questions = refl }
alike_built_in (Bits line bank) = record { equal_first_books = refl; equal_answers_to_questions = refl }
alike_built_in (Up line block) = record { equal_first_books = refl; equal_answers_to_questions = refl }
alike_built_in (Adjust' change p below) = map_alike (changed change) _ _ (alike_built_in below)
alike_built_in (Choose' test p first q second) = choose_alike (meets test) _ _ _ _ (alike_built_in first) (alike_built_in second)
alike_built_in (Over' p first q second) = over_alike _ _ _ _ (alike_built_in first) (alike_built_in second)
alike_built_in (Shut' line closed p below) = shut_alike line 0 _ _ (alike_built_in below)
