use Rattle.std.proofs.Common.{sym, ap, ◌∙◌}
use Rattle.described.specs.Piles.{tree_profile, lined}
use Rattle.described.proofs.tree.TreeStage.+place.Goals as goal

pub returns-in-Count-clause-book_moves_past_the_request : goal.returns-in-Count-clause-book_moves_past_the_request
returns-in-Count-clause-book_moves_past_the_request t c = simp (c.in-Count.is) (c.place.ensures.book_moves_past_the_request)

pub returns-in-Count-clause-profile_stays : goal.returns-in-Count-clause-profile_stays
returns-in-Count-clause-profile_stays t c = ap (lined c.in-Count.line) c.place.ensures.profile_stays ∙ ap tree_profile (sym c.in-Count.is)

pub returns-in-Bits-clause-book_moves_past_the_request : goal.returns-in-Bits-clause-book_moves_past_the_request
returns-in-Bits-clause-book_moves_past_the_request t c = simp (c.in-Bits.is) (c.place-in-Bits.ensures.book_moves_past_the_request)

pub returns-in-Bits-clause-profile_stays : goal.returns-in-Bits-clause-profile_stays
returns-in-Bits-clause-profile_stays t c = ap (lined c.in-Bits.line) c.place-in-Bits.ensures.profile_stays ∙ ap tree_profile (sym c.in-Bits.is)

pub returns-in-Up-clause-book_moves_past_the_request : goal.returns-in-Up-clause-book_moves_past_the_request
returns-in-Up-clause-book_moves_past_the_request t c = simp (c.in-Up.is) (c.place-in-Up.ensures.book_moves_past_the_request)

pub returns-in-Up-clause-profile_stays : goal.returns-in-Up-clause-profile_stays
returns-in-Up-clause-profile_stays t c = ap (lined c.in-Up.line) c.place-in-Up.ensures.profile_stays ∙ ap tree_profile (sym c.in-Up.is)

pub returns-then-meets-clause-profile_stays : goal.returns-then-meets-clause-profile_stays
returns-then-meets-clause-profile_stays t c = simp (c.in-Choose.is, c.place-then-meets.ensures.profile_stays, c.deref_mut-then-meets.ensures.value)

pub returns-else-meets-clause-profile_stays : goal.returns-else-meets-clause-profile_stays
returns-else-meets-clause-profile_stays t c = simp (c.in-Choose.is, c.place-else-meets.ensures.profile_stays, c.deref_mut-else-meets.ensures.value)
