-- A lawful pile's allocation is lawful after every past.
use Rattle.std.proofs.Common.{List, map, sym, subst, arith}
use Rattle.place.specs.Pieces.{EachApart}
use Rattle.stage.specs.Books.{Profile}
use Rattle.stage.specs.Lawful.{Lawful}
use Rattle.allocation.specs.States.{opened}
use Rattle.allocation.specs.declared.asked.Asked.{Asked}
use Rattle.histories.proofs.Granting.{Good, newly_good, good_all, wide, aligned, apart, held_grants, places_held, few, refused_only_when_full}
use Rattle.histories.proofs.Leaving.{rest_is_forgotten}
use Rattle.histories.specs.Events.{Used, requests_since, after_past}
use Rattle.histories.specs.Histories.{grants, placed_all}
use Rattle.histories.specs.Laws.{LawfulAllocation, LawfulAtEveryMoment}

-- what a newly opened allocation holds for these requests shares no byte
pub placed_apart : (p : Profile) (qs : List Asked) → Lawful p.questions p.first → EachApart (map (λ x. x.place) (placed_all (opened p) qs).held)
placed_apart p qs l =
    let start = opened p in
    subst (λ xs. EachApart (map (λ x. x.place) xs)) (sym (held_grants qs start)) (subst EachApart (sym (places_held (grants start qs))) (apart p qs start (newly_good p l)))

newly_placed : (u : Used) → Lawful u.profile.questions u.profile.first → LawfulAllocation u (placed_all (opened u.profile) (requests_since u.past))
newly_placed u l =
    let p = u.profile in
    let qs = requests_since u.past in
    let start = opened p in
    let good : Good p start = newly_good p l in
    record {
      held_places_are_those_granted_since = held_grants qs start;
      held_places_share_no_byte = placed_apart p qs l;
      held_places_are_as_wide_as_requested_or_wider = wide p qs start good;
      held_places_are_aligned_in_the_block = aligned p qs start good;
      a_type_always_placed_is_refused_only_past_4088_or_at_sixteen = refused_only_when_full p (placed_all start qs) (good_all p qs start good) (few qs start (omega arith));
    }

pub lawful_after : (u : Used) → Lawful u.profile.questions u.profile.first → LawfulAllocation u (after_past u)
lawful_after u l = subst (LawfulAllocation u) (sym (rest_is_forgotten u.past u.profile)) (newly_placed u l)

pub lawful_ever : (u : Used) → Lawful u.profile.questions u.profile.first → LawfulAtEveryMoment u
lawful_ever u l before later e = lawful_after (record { profile = u.profile; past = before }) l
