use Rattle.std.proofs.Common.{sym, ap, ◌∙◌}
use Rattle.described.specs.Piles.{tree_profile, lined}
use Rattle.described.proofs.tree.TreeStage.+clear.Goals as goal

pub returns-in-Count-clause-first_book_is_back : goal.returns-in-Count-clause-first_book_is_back
returns-in-Count-clause-first_book_is_back t c = simp (c.in-Count.is) (c.clear.ensures.first_book_is_back)

pub returns-in-Count-clause-profile_stays : goal.returns-in-Count-clause-profile_stays
returns-in-Count-clause-profile_stays t c = ap (lined c.in-Count.line) c.clear.ensures.profile_stays ∙ ap tree_profile (sym c.in-Count.is)

pub returns-in-Bits-clause-first_book_is_back : goal.returns-in-Bits-clause-first_book_is_back
returns-in-Bits-clause-first_book_is_back t c = simp (c.in-Bits.is) (c.clear-in-Bits.ensures.first_book_is_back)

pub returns-in-Bits-clause-profile_stays : goal.returns-in-Bits-clause-profile_stays
returns-in-Bits-clause-profile_stays t c = ap (lined c.in-Bits.line) c.clear-in-Bits.ensures.profile_stays ∙ ap tree_profile (sym c.in-Bits.is)

pub returns-in-Up-clause-first_book_is_back : goal.returns-in-Up-clause-first_book_is_back
returns-in-Up-clause-first_book_is_back t c = simp (c.in-Up.is) (c.clear-in-Up.ensures.first_book_is_back)

pub returns-in-Up-clause-profile_stays : goal.returns-in-Up-clause-profile_stays
returns-in-Up-clause-profile_stays t c = ap (lined c.in-Up.line) c.clear-in-Up.ensures.profile_stays ∙ ap tree_profile (sym c.in-Up.is)

pub returns-in-Choose-clause-profile_stays : goal.returns-in-Choose-clause-profile_stays
returns-in-Choose-clause-profile_stays t c =
    simp (c.in-Choose.is, c.clear-in-Choose.ensures.profile_stays, c.deref_mut-in-Choose.ensures.value, c.clear-in-Choose-2.ensures.profile_stays, c.deref_mut-in-Choose-2.ensures.value)
