use Rattle.std.proofs.Common.{◌≡◌, ℕ, List, [], refl, sym, ap, ◌∙◌, rules}
use Rattle.delivery.specs.Code.{each_word}
use Rattle.emit.specs.Registers.{members, word_code}
use Rattle.emit.proofs.Emits.{appends_same}
use Rattle.emit.proofs.Saved.{no_members}
use Rattle.emit.proofs.saving.put_saved.Goals as goal

pub returns-else-ne-clause-code_for_each_register : goal.returns-else-ne-clause-code_for_each_register
returns-else-ne-clause-code_for_each_register c =
    let none : c.args.saved.bits ≡ 0 = search rules in
    let empty : members c.args.saved.bits ≡ [] = ap members none ∙ no_members in
    appends_same [] _ _ _ (sym (ap (λ (rs : List ℕ). each_word (word_code c.args.way) rs c.args.home) empty)) (record { same_list = refl; code = refl })
