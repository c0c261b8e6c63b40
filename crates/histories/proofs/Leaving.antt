-- What is left of a past: the requests since the allocation was opened or last reopened.
use Rattle.std.proofs.Common.{◌≡◌, ℕ, List, [], ◌∷◌, ◌++◌, Ok, Err, Result, sym, refl, ap, ◌∙◌, append-nil, append_assoc}
use Rattle.values.specs.declared.requests.Request.{Request}
use Rattle.stage.specs.Books.{Profile}
use Rattle.allocation.specs.States.{State, opened}
use Rattle.allocation.specs.Rules.{placed_by, reaching, placed}
use Rattle.allocation.specs.declared.asked.Asked.{Asked}
use Rattle.histories.specs.declared.events.Event.{Event}
use Rattle.histories.specs.declared.events.Event.TheVariants.{Place, Reopen}
use Rattle.histories.specs.Events.{Used, became, requests_behind, requests_since, places, reopening, reopened_for, after_past}
use Rattle.histories.specs.Histories.{placed_all}

-- no call changes the profile, and the rest of a reopened allocation comes from it
pub profile_by : (s : State) (t : Result Request ℕ) → (placed_by s t).profile ≡ s.profile
profile_by s (Ok r) = refl
profile_by s (Err n) = refl

pub profile_stays : (qs : List Asked) (s : State) → (placed_all s qs).profile ≡ s.profile
profile_stays [] s = refl
profile_stays (q ∷ qs) s = profile_stays qs (placed s q) ∙ profile_by s (reaching s q)

placed_behind : (qs rs : List Asked) (s : State) → placed_all s (qs ++ rs) ≡ placed_all (placed_all s qs) rs
placed_behind [] rs s = refl
placed_behind (q ∷ qs) rs s = placed_behind qs rs (placed s q)

only_the_last : (es : List Event) (p : Profile) (qs : List Asked) (s : State) → s ≡ placed_all (opened p) qs → became s es ≡ placed_all (opened p) (requests_behind qs es)
only_the_last [] p qs s e = e
only_the_last (Place q ∷ es) p qs s e = only_the_last es p (qs ++ (q ∷ [])) (placed s q) (ap (λ z. placed z q) e ∙ sym (placed_behind qs (q ∷ []) (opened p)))
only_the_last (Reopen ∷ es) p qs s e = only_the_last es p [] (opened s.profile) (ap (λ (z : State). opened z.profile) e ∙ ap opened (profile_stays qs (opened p)))

-- an allocation is as if newly opened and asked for those alone
pub rest_is_forgotten : (es : List Event) (p : Profile) → became (opened p) es ≡ placed_all (opened p) (requests_since es)
rest_is_forgotten es p = only_the_last es p [] (opened p) refl

pub became_profile : (es : List Event) (p : Profile) → (became (opened p) es).profile ≡ p
became_profile es p = ap (λ (s : State). s.profile) (rest_is_forgotten es p) ∙ profile_stays (requests_since es) (opened p)

all_places : (qs rs : List Asked) → requests_behind rs (places qs) ≡ rs ++ qs
all_places [] rs = sym (append-nil rs)
all_places (q ∷ qs) rs = all_places qs (rs ++ (q ∷ [])) ∙ append_assoc rs (q ∷ []) qs

since_reopening : (es : List Event) (qs rs : List Asked) → requests_behind rs (es ++ reopening qs) ≡ qs
since_reopening [] qs rs = all_places qs []
since_reopening (Place q ∷ es) qs rs = since_reopening es qs (rs ++ (q ∷ []))
since_reopening (Reopen ∷ es) qs rs = since_reopening es qs []

-- whatever came before, a reopened allocation that was asked for these is a newly opened one that was
pub reopened_and_placed : (qs : List Asked) (u : Used) → after_past (reopened_for qs u) ≡ placed_all (opened u.profile) qs
reopened_and_placed qs u = rest_is_forgotten (u.past ++ reopening qs) u.profile ∙ ap (placed_all (opened u.profile)) (since_reopening u.past qs [])

-- an allocation that is frozen after its past and reopened is a newly opened one
pub freshly : (u : Used) (played frozen again : State) → played ≡ after_past u → frozen ≡ played → again ≡ opened frozen.profile → again ≡ opened u.profile
freshly u played frozen again e₁ e₂ e₃ = e₃ ∙ ap (λ (x : State). opened x.profile) (e₂ ∙ e₁) ∙ ap opened (became_profile u.past u.profile)
