use Rattle.std.proofs.Common.{◌≡◌, ◌≤◌, length, true, arith}
use Rattle.std.proofs.lemmas.Bool.Decides.{nat_tests}
use Rattle.std.proofs.lemmas.Grind.{common_steps}
use Rattle.signatures.specs.Signatures.{is_name}
use Rattle.signatures.proofs.Letters.{names_are_text}
use Rattle.signatures.proofs.reading.read_name.Goals as goal

pub unwrap-name-requires : goal.unwrap-name-requires
unwrap-name-requires c =
    let text = names_are_text c.args.word.now (grind (arith, common_steps)) in
    grind (arith, common_steps, text)

pub returns : goal.returns
returns c =
    let named : is_name c.args.word.now ≡ true = grind (arith, common_steps) in
    let short : length c.args.word.now ≤ 8 = grind (arith, nat_tests, named) in
    grind (arith, common_steps, named, short)
