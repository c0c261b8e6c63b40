-- The allocations of a call: what each was asked, and what it became.
use Rattle.std.proofs.Common.{◌≡◌, List, Some, None, Option, sym, refl, ap, ◌∙◌, subst}
use Rattle.stage.specs.Books.{Profile, Alike}
use Rattle.stage.specs.Faults.{Fault}
use Rattle.stage.specs.Lawful.{Lawful}
use Rattle.allocation.specs.States.{State, opened}
use Rattle.allocation.specs.declared.asked.Asked.{Asked}
use Rattle.histories.specs.Events.{Used, reopened_for}
use Rattle.histories.specs.Histories.{placed_all}
use Rattle.histories.specs.Laws.{Lived}
use Rattle.histories.proofs.After.{lawful_ever}
use Rattle.histories.proofs.Leaving.{profile_stays, reopened_and_placed}
use Rattle.call.specs.Placing.{first_refused, placing, Placement, Sides, sides_of}
use Rattle.call.specs.Standing.{StandsAsPlaced, NothingRefused, SidesAlike}
use Rattle.call.specs.Astray.{Setting, EachLived, placement_in, reopened_sides}
use Rattle.call.proofs.Granted.{some_none, all_asked}

-- an allocation became what its requests make of it
step_state : (f : Option Fault) (s : State) (qs : List Asked) → (placing f s qs).state ≡ placed_all s (placing f s qs).asked
step_state None s qs = refl
step_state (Some f) s qs = refl

-- where no fault came, there was none before, and none of the list is refused
no_fault_before : (f : Option Fault) (s : State) (qs : List Asked) → (placing f s qs).fault ≡ None → f ≡ None
no_fault_before None s qs e = refl
no_fault_before (Some f) s qs e = e

none_refused : (f : Option Fault) (s : State) (qs : List Asked) → (placing f s qs).fault ≡ None → first_refused s qs ≡ None
none_refused None s qs e = e
none_refused (Some f) s qs e = some_none f e

-- and it was asked for the whole list
whole_list : (f : Option Fault) (s : State) (qs : List Asked) → (placing f s qs).fault ≡ None → (placing f s qs).state ≡ placed_all s qs
whole_list f s qs e =
    ap (λ (o : Option Fault). (placing o s qs).state) (no_fault_before f s qs e) ∙ ap (placed_all s) (all_asked qs s (none_refused f s qs e))

lived : (u : Used) (f : Option Fault) (qs : List Asked) (s : State) → s ≡ (placing f (opened u.profile) qs).state → Lawful u.profile.questions u.profile.first →
    Lived (reopened_for (placing f (opened u.profile) qs).asked u) s
lived u f qs s e l =
    let since = (placing f (opened u.profile) qs).asked in
    record {
      is_what_its_past_made_of_it = e ∙ step_state f (opened u.profile) qs ∙ sym (reopened_and_placed since u);
      lawful_at_every_moment = lawful_ever (reopened_for since u) l;
    }

-- the facts of the four piles of a call
pub record LawfulPiles (s : Sides) : Type 0 where
  pub bench_arguments : Lawful s.bench_arguments.profile.questions s.bench_arguments.profile.first
  pub bench_results : Lawful s.bench_results.profile.questions s.bench_results.profile.first
  pub core_arguments : Lawful s.core_arguments.profile.questions s.core_arguments.profile.first
  pub core_results : Lawful s.core_results.profile.questions s.core_results.profile.first

pub each_lived : (s : Setting) (e : Sides) → LawfulPiles (reopened_sides s) → e ≡ sides_of (placement_in s) → EachLived s e
each_lived s e l same =
    let p = placement_in s in
    record {
      bench_arguments = lived s.bench_arguments None s.arguments e.bench_arguments (ap (λ (z : Sides). z.bench_arguments) same) l.bench_arguments;
      bench_results = lived s.bench_results p.bench_arguments.fault s.results e.bench_results (ap (λ (z : Sides). z.bench_results) same) l.bench_results;
      core_arguments = lived s.core_arguments p.bench_results.fault s.arguments e.core_arguments (ap (λ (z : Sides). z.core_arguments) same) l.core_arguments;
      core_results = lived s.core_results p.core_arguments.fault s.results e.core_results (ap (λ (z : Sides). z.core_results) same) l.core_results;
    }

pub same_sides : (a a' b b' c c' d d' : State) → a ≡ a' → b ≡ b' → c ≡ c' → d ≡ d' →
    ◌≡◌ {A = Sides} (record { bench_arguments = a; bench_results = b; core_arguments = c; core_results = d }) (record { bench_arguments = a'; bench_results = b'; core_arguments = c'; core_results = d' })
same_sides a a' b b' c c' d d' e₁ e₂ e₃ e₄ = rw (e₁, e₂, e₃, e₄)

-- of a list that was placed whole
module _ (p : Profile) (s : State) (qs : List Asked) (e : s ≡ placed_all (opened p) qs) where
  own_profile : s.profile ≡ p
  own_profile = ap (λ (x : State). x.profile) e ∙ profile_stays qs (opened p)

  stands : s ≡ placed_all (opened s.profile) qs
  stands = e ∙ ap (λ (x : Profile). placed_all (opened x) qs) (sym own_profile)

  refused_too : first_refused (opened p) qs ≡ None → first_refused (opened s.profile) qs ≡ None
  refused_too none = ap (λ (x : Profile). first_refused (opened x) qs) own_profile ∙ none

alike_too : (p p' q q' : Profile) → p ≡ p' → q ≡ q' → Alike p' q' → Alike p q
alike_too p p' q q' e f a = subst (λ (x : Profile). Alike x q) (sym e) (subst (Alike p') (sym f) a)

module _ (s : Setting) (e : Sides) (same : e ≡ sides_of (placement_in s)) (none : (placement_in s).core_results.fault ≡ None) where
  abbrev p : Placement
  p = placement_in s

  third : p.core_arguments.fault ≡ None
  third = no_fault_before p.core_arguments.fault (opened s.core_results.profile) s.results none

  second : p.bench_results.fault ≡ None
  second = no_fault_before p.bench_results.fault (opened s.core_arguments.profile) s.arguments third

  first : p.bench_arguments.fault ≡ None
  first = no_fault_before p.bench_arguments.fault (opened s.bench_results.profile) s.results second

  bench_arguments : e.bench_arguments ≡ placed_all (opened s.bench_arguments.profile) s.arguments
  bench_arguments = ap (λ (z : Sides). z.bench_arguments) same ∙ whole_list None (opened s.bench_arguments.profile) s.arguments first

  bench_results : e.bench_results ≡ placed_all (opened s.bench_results.profile) s.results
  bench_results = ap (λ (z : Sides). z.bench_results) same ∙ whole_list p.bench_arguments.fault (opened s.bench_results.profile) s.results second

  core_arguments : e.core_arguments ≡ placed_all (opened s.core_arguments.profile) s.arguments
  core_arguments = ap (λ (z : Sides). z.core_arguments) same ∙ whole_list p.bench_results.fault (opened s.core_arguments.profile) s.arguments third

  core_results : e.core_results ≡ placed_all (opened s.core_results.profile) s.results
  core_results = ap (λ (z : Sides). z.core_results) same ∙ whole_list p.core_arguments.fault (opened s.core_results.profile) s.results none

  pub stands_as_placed : StandsAsPlaced e s.arguments s.results
  stands_as_placed = record {
    bench_arguments = stands s.bench_arguments.profile e.bench_arguments s.arguments bench_arguments;
    bench_results = stands s.bench_results.profile e.bench_results s.results bench_results;
    core_arguments = stands s.core_arguments.profile e.core_arguments s.arguments core_arguments;
    core_results = stands s.core_results.profile e.core_results s.results core_results;
  }

  pub nothing_refused : NothingRefused e s.arguments s.results
  nothing_refused = record {
    bench_arguments = refused_too s.bench_arguments.profile e.bench_arguments s.arguments bench_arguments (none_refused None (opened s.bench_arguments.profile) s.arguments first);
    bench_results = refused_too s.bench_results.profile e.bench_results s.results bench_results (none_refused p.bench_arguments.fault (opened s.bench_results.profile) s.results second);
    core_arguments = refused_too s.core_arguments.profile e.core_arguments s.arguments core_arguments (none_refused p.bench_results.fault (opened s.core_arguments.profile) s.arguments third);
    core_results = refused_too s.core_results.profile e.core_results s.results core_results (none_refused p.core_arguments.fault (opened s.core_results.profile) s.results none);
  }

  pub sides_alike : SidesAlike (reopened_sides s) → SidesAlike e
  sides_alike alike = record {
    for_arguments = alike_too _ _ _ _
        (own_profile s.bench_arguments.profile e.bench_arguments s.arguments bench_arguments)
        (own_profile s.core_arguments.profile e.core_arguments s.arguments core_arguments)
        alike.for_arguments;
    for_results = alike_too _ _ _ _
        (own_profile s.bench_results.profile e.bench_results s.results bench_results)
        (own_profile s.core_results.profile e.core_results s.results core_results)
        alike.for_results;
  }
