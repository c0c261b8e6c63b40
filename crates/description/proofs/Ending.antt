-- Where the text of a description ends.
use Rattle.std.proofs.Common.{◌≡◌, ℕ, ◌≤◌, Bool, true, false, List, [], ◌∷◌, Some, Ok, Err, length, refl, sym, subst, ◌∙◌, nat_eq, arith}
use Rattle.banks.specs.Lists.{set_of}
use Rattle.place.specs.declared.registers.RegisterSet.{RegisterSet}
use Rattle.pages.specs.Pages.{all_named}
use Rattle.pages.specs.Rules.{fault, stages_in, closing_in, all_used, ended, read_lines}
use Rattle.pages.specs.declared.lines.Line.{Line}
use Rattle.description.specs.Profiles.{meaning_of}
use Rattle.description.specs.Drafts.{Drafts}
use Rattle.description.specs.Readings.{IsThereFrom, HasRead}
use Rattle.description.specs.declared.reading.Reading.{Reading}
use Rattle.description.proofs.MoreRead.{plans_counted}

end_of : (before : List Line) (rest : List ℕ) → length rest ≡ 0 → read_lines before (rest ∷ []) ≡ ended before
end_of before rest e = rw e refl

used_here : (before : List Line) (r : Reading) (b : Bool) → HasRead before r → b ≡ all_used (length r.planned.items) (all_named before) → all_used (stages_in before) (all_named before) ≡ b
used_here before r b h e = subst (λ n. all_used n (all_named before) ≡ b) (sym (plans_counted before r h)) (sym e)

not_ended : (c : Bool) (before : List Line) → nat_eq (closing_in before) 3 ≡ c → all_used (stages_in before) (all_named before) ≡ false → ended before ≡ Err (fault 5 (length before))
not_ended true before e f = rw (e, f) refl
not_ended false before e f = rw e refl

pub stage_unused : (before : List Line) (r : Reading) (rest : List ℕ) → HasRead before r → length rest ≡ 0 → false ≡ all_used (length r.planned.items) (all_named before) → read_lines before (rest ∷ []) ≡ Err (fault 5 (length before))
stage_unused before r rest h e f = end_of before rest e ∙ not_ended (nat_eq (closing_in before) 3) before refl (used_here before r false h f)

all_read : (before : List Line) (k : RegisterSet) → IsThereFrom 3 (closing_in before) (Some k) (λ s. s.bits ≡ set_of (meaning_of before).kept) → closing_in before ≤ 3 → closing_in before ≡ 3
all_read before k h l = omega (arith, h.0, l)

pub all_there : (before : List Line) (rest : List ℕ) (r : Reading) (a b : ℕ) (k : RegisterSet) → HasRead before r → length rest ≡ 0 → true ≡ all_used (length r.planned.items) (all_named before)
    → r.arguments ≡ Some a → r.results ≡ Some b → r.kept ≡ Some k → (read_lines before (rest ∷ []) ≡ Ok before) × Drafts (meaning_of before) (record { planned = r.planned; arguments = a; results = b; kept = k })
all_there before rest r a b k h e u p q s =
    let x = rw p at h.arguments in
    let y = rw q at h.results in
    let z = rw s at h.kept in
    let names = rw (p, q) at h.names_free_stages in (
      end_of before rest e ∙ rw (all_read before k z h.three_at_most, used_here before r true h u) refl,
      record { named = h.named; plans_make_the_stages = h.plans_make_the_stages; names_free_stages = names; arguments = x.1; results = y.1; kept = z.1 },
    )
