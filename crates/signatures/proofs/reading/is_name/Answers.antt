use Rattle.std.proofs.Common.{rules, ◌≡◌, arith}
use Rattle.std.proofs.lemmas.Bool.Decides.{nat_tests}
use Rattle.std.proofs.lemmas.Iterator.{YieldsList-from_slice}
use Rattle.std.proofs.lemmas.Iterator.Search.{all_from_yields_List}
use Rattle.std.specs.Char.{is_ascii_lowercase}
use Rattle.std.specs.List.{list_all}
use borrow.Author.Tests.{tests}
use Rattle.signatures.proofs.reading.is_name.Goals as goal

pub returns-then-word-le-LONGEST_NAME : goal.returns-then-word-le-LONGEST_NAME
returns-then-word-le-LONGEST_NAME c =
    let letters : c.all.result ≡ list_all is_ascii_lowercase c.args.word.now = all_from_yields_List is_ascii_lowercase _ _ c.all.result c.all.ensures.ran (YieldsList-from_slice c.args.word.now cc) (λ x b q k. search (rules, tests)) in
    grind (arith, nat_tests, letters, c.if-word-le-LONGEST_NAME.true, c.is_empty.ensures)
