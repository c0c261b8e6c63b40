-- The meaning of a described pile, by its tree: each stage means what it means when it is built in, but for its line.
use Rattle.std.specs.Prelude.{ℕ}
use Rattle.stage.specs.Books.{Book, Blame, Profile, Cleared}
use Rattle.banks.specs.Banks.{count_book, count_profile, bits_book, bits_profile}
use Rattle.blocks.specs.Blocks.{up_book, up_profile}
use Rattle.adjust.specs.Adjusting.{changed, map_book, map_blame, map_profile}
use Rattle.sides.specs.Sides.{choose_book, choose_blame, choose_profile, over_book, over_blame, over_profile}
use Rattle.shut.specs.Shutting.{shut_book, shut_blame, shut_profile}
use Rattle.conditions.specs.Tests.{meets}
use Rattle.described.specs.declared.pile.Pile.{Pile}
use Rattle.described.specs.declared.tree.Tree.{Tree}
use Rattle.described.specs.declared.tree.Tree.TheVariants.{Count, Bits, Up, Adjust', Choose', Over', Shut'}

-- the blame of a stage that refuses by its own line alone
abbrev pub own_line : ℕ → Blame
own_line line = λ rs r. line

-- a bottom that stands on a line of a description: its refusals name the line
abbrev pub lined : ℕ → Profile → Profile
lined line p = record { first = p.first; first_blame = own_line line; questions = p.questions }

abbrev pub tree_book : Tree → Book
tree_book (Count line bank) = count_book bank.list.registers.items bank.cursor
tree_book (Bits line bank) = bits_book bank.list.registers.items bank.cursor
tree_book (Up line block) = up_book block.limit block.used
tree_book (Adjust' change p below) = map_book (changed change) (tree_book below)
tree_book (Choose' test p first q second) = choose_book (meets test) (tree_book first) (tree_book second)
tree_book (Over' p first q second) = over_book (tree_book first) (tree_book second)
tree_book (Shut' line closed p below) = shut_book closed (tree_book below)

abbrev pub tree_blame : Tree → Blame
tree_blame (Count line bank) = own_line line
tree_blame (Bits line bank) = own_line line
tree_blame (Up line block) = own_line line
tree_blame (Adjust' change p below) = map_blame (changed change) (tree_blame below)
tree_blame (Choose' test p first q second) = choose_blame (meets test) (tree_blame first) (tree_blame second)
tree_blame (Over' p first q second) = over_blame (tree_book first) (tree_blame second)
tree_blame (Shut' line closed p below) = shut_blame line closed (tree_book below) (tree_blame below)

abbrev pub tree_profile : Tree → Profile
tree_profile (Count line bank) = lined line (count_profile bank.list.registers.items)
tree_profile (Bits line bank) = lined line (bits_profile bank.list.registers.items)
tree_profile (Up line block) = lined line (up_profile block.limit)
tree_profile (Adjust' change p below) = map_profile (changed change) (tree_profile below)
tree_profile (Choose' test p first q second) = choose_profile (meets test) (tree_profile first) (tree_profile second)
tree_profile (Over' p first q second) = over_profile (tree_profile first) (tree_profile second)
tree_profile (Shut' line closed p below) = shut_profile line (tree_profile below)

-- a pile means what its tree means
abbrev pub pile_book : Pile → Book
pile_book p = tree_book p.tree

abbrev pub pile_blame : Pile → Blame
pile_blame p = tree_blame p.tree

abbrev pub pile_profile : Pile → Profile
pile_profile p = tree_profile p.tree

-- a pile that has a profile, and is at its beginning: what `Begins` says of it
abbrev pub AtStart : Profile → Pile → Type 0
AtStart p s = Cleared (pile_book s) (pile_blame s) (pile_profile s) p
