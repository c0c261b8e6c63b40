-- A listener is told one list of answers after another.
use Rattle.std.proofs.Common.{◌≡◌, List, [], ◌∷◌, ◌++◌, refl, sym, ap, ◌∙◌, subst, append_assoc}
use Rattle.std.specs.List.{FoldsTo}
use Rattle.stage.specs.Books.{Profile}
use Rattle.allocation.specs.States.{State, opened}
use Rattle.allocation.specs.declared.asked.Asked.{Asked}
use Rattle.histories.specs.Heard.{Heard}
use Rattle.histories.specs.declared.events.Event.{Event}
use Rattle.histories.specs.Events.{Used, becomes, became, answers_at, told, places, reopening, reopened_for, answers_of_past}
use Rattle.histories.proofs.Leaving.{became_profile}

pub then : {L : Type 0} (hears : L → Heard → L → Type 0) (xs ys : List Heard) (l m n : L) → FoldsTo hears l xs m → FoldsTo hears m ys n → FoldsTo hears l (xs ++ ys) n
then hears [] ys l m n e f = subst (λ z. FoldsTo hears z ys n) (sym e) f
then hears (x ∷ xs) ys l m n e f = (e.0, e.1, then hears xs ys e.0 m n e.2 f)

-- the answers to events, and then to those that follow
pub told_behind : (es fs : List Event) (s : State) → told s (es ++ fs) ≡ told s es ++ told (became s es) fs
told_behind [] fs s = refl
told_behind (e ∷ es) fs s = ap (λ xs. answers_at s e ++ xs) (told_behind es fs (becomes s e)) ∙ sym (append_assoc (answers_at s e) (told (becomes s e) es) (told (became (becomes s e) es) fs))

module _ {L : Type 0} (hears : L → Heard → L → Type 0) (u : Used) (qs : List Asked) where
  all_told : answers_of_past (reopened_for qs u) ≡ answers_of_past u ++ told (opened u.profile) (places qs)
  all_told = told_behind u.past (reopening qs) (opened u.profile) ∙ ap (λ (p : Profile). answers_of_past u ++ told (opened p) (places qs)) (became_profile u.past u.profile)

  -- the answers of a past, and then to requests that a reopened allocation is asked
  pub reopened_heard : (again : State) (l m n : L) → again ≡ opened u.profile → FoldsTo hears l (answers_of_past u) m → FoldsTo hears m (told again (places qs)) n → FoldsTo hears l (answers_of_past (reopened_for qs u)) n
  reopened_heard again l m n fresh e f =
      let g = subst (λ s. FoldsTo hears m (told s (places qs)) n) fresh f in
      subst (λ xs. FoldsTo hears l xs n) (sym all_told) (then hears (answers_of_past u) (told (opened u.profile) (places qs)) l m n e g)
