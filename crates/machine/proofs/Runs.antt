use Rattle.std.proofs.Common.{◌≡◌, ℕ, zero, suc, ◌+◌, ◌-◌, ◌<◌, Bool, true, false, List, is_some, Some, None, Option, sym, refl, ap, ◌∙◌, add-zero, suc-add, zero-add, arith}
use Rattle.machine.specs.declared.Instruction.{Instruction}
use Rattle.machine.specs.declared.Mode.{Mode}
use Rattle.machine.specs.declared.Mode.TheVariants.{Running, Ended}
use Rattle.machine.specs.declared.Outcome.{Outcome}
use Rattle.machine.specs.declared.Outcome.TheVariants.{Spent}
use Rattle.machine.specs.Machine.{State, Run, runs, counted, goes_on, next, or_same, outcome_from, outcome_of}
use Rattle.machine.specs.Laws.{LargerBudgetGoesOn, StoppedStays, SpentUsesUpBudget}

pub counted_zero : (r : Run) → counted 0 r ≡ r
counted_zero r = ap (λ (n : ℕ). record { last = r.last; steps = n }) (zero-add r.steps)

pub counted_more : (j k : ℕ) (r : Run) → counted j (counted k r) ≡ counted (j + k) r
counted_more j k r = let e : j + (k + r.steps) ≡ j + k + r.steps = omega arith in ap (λ (n : ℕ). record { last = r.last; steps = n }) e

-- one step of a run
pub one_step : (a b : List Instruction) (budget : ℕ) (s t : State) → next a b s ≡ Some t → runs a b (suc budget) s ≡ counted 1 (runs a b budget t)
one_step a b budget s t e = ap (λ (o : Option State). goes_on s o (runs a b budget)) e

-- a run from a state with no next one
pub stopped_stays : (a b : List Instruction) (budget : ℕ) (s : State) → next a b s ≡ None → runs a b budget s ≡ record { last = s; steps = 0 }
stopped_stays a b zero s e = refl
stopped_stays a b (suc budget) s e = ap (λ (o : Option State). goes_on s o (runs a b budget)) e

goes_on_lem : (a b : List Instruction) (m n : ℕ) (s : State) (o : Option State) → next a b s ≡ o →
    ((t : State) → runs a b (m + n) t ≡ counted (runs a b m t).steps (runs a b n (runs a b m t).last)) →
    goes_on s o (runs a b (m + n)) ≡ counted (goes_on s o (runs a b m)).steps (runs a b n (goes_on s o (runs a b m)).last)
goes_on_lem a b m n s None e rest = sym (ap (counted 0) (stopped_stays a b n s e))
goes_on_lem a b m n s (Some t) e rest = ap (counted 1) (rest t) ∙ counted_more 1 _ _

-- a run of more steps goes on from where the run of fewer stopped
pub larger_budget_goes_on : (a b : List Instruction) (m n : ℕ) (s : State) → runs a b (m + n) s ≡ counted (runs a b m s).steps (runs a b n (runs a b m s).last)
larger_budget_goes_on a b zero n s = rw (zero-add n) (sym (counted_zero (runs a b n s)))
larger_budget_goes_on a b (suc m) n s = rw suc-add (goes_on_lem a b m n s (next a b s) refl (larger_budget_goes_on a b m n))

spent_has_next : (m : Mode) (o : Option State) → outcome_from m o ≡ Spent → is_some o ≡ true
spent_has_next m (Some t) e = refl
spent_has_next (Running side n) None e = cc
spent_has_next Ended None e = cc

uses_up_from : (a b : List Instruction) (budget : ℕ) (s : State) (o : Option State) → next a b s ≡ o →
    ((t : State) → is_some (next a b (runs a b budget t).last) ≡ true → (runs a b budget t).steps ≡ budget) →
    is_some (next a b (goes_on s o (runs a b budget)).last) ≡ true → (goes_on s o (runs a b budget)).steps ≡ suc budget
uses_up_from a b budget s None e rest h = let none : is_some (next a b s) ≡ false = ap is_some e in cc
uses_up_from a b budget s (Some t) e rest h = let k = rest t h in omega arith

uses_up : (a b : List Instruction) (budget : ℕ) (s : State) → is_some (next a b (runs a b budget s).last) ≡ true → (runs a b budget s).steps ≡ budget
uses_up a b zero s h = refl
uses_up a b (suc budget) s h = uses_up_from a b budget s (next a b s) refl (uses_up a b budget) h

next_is : (o : Option State) (s t : State) → t ≡ or_same o s → true ≡ is_some o → o ≡ Some t
next_is None s t e h = cc
next_is (Some u) s t e h = cc

next_none : (o : Option State) (s t : State) → t ≡ or_same o s → false ≡ is_some o → (o ≡ None) × (t ≡ s)
next_none None s t e h = (refl, e)
next_none (Some u) s t e h = absurd cc

-- a step that a run makes, where what is left of its budget is the rest of it
pub run_goes_on : (a b : List Instruction) (budget made : ℕ) (s t : State) (run : Run) (stepped : Bool) →
    counted made (runs a b (budget - made) s) ≡ run → made < budget → t ≡ or_same (next a b s) s → stepped ≡ is_some (next a b s) → stepped ≡ true →
    counted (made + 1) (runs a b (budget - (made + 1)) t) ≡ run
run_goes_on a b budget made s t run stepped e h after is stepping =
    let k : budget - made ≡ suc (budget - (made + 1)) = omega arith in
    let step : runs a b (budget - made) s ≡ counted 1 (runs a b (budget - (made + 1)) t) = rw k (one_step a b _ s t (next_is _ s t after (sym stepping ∙ is))) in
    sym (ap (counted made) step ∙ counted_more made 1 _) ∙ e

-- a run whose next step is not made
pub run_stops : (a b : List Instruction) (left made : ℕ) (s t : State) (run : Run) (stepped : Bool) →
    counted made (runs a b left s) ≡ run → t ≡ or_same (next a b s) s → stepped ≡ is_some (next a b s) → stepped ≡ false →
    run ≡ record { last = t; steps = made }
run_stops a b left made s t run stepped e after is stopped =
    let k = next_none (next a b s) s t after (sym stopped ∙ is) in
    sym e ∙ ap (counted made) (stopped_stays a b left s k.0) ∙ ap (λ (u : State). counted made (record { last = u; steps = 0 })) (sym k.1)
    ∙ ap (λ (n : ℕ). record { last = t; steps = n }) (add-zero made)

-- what a run that came to t in so many steps has besides

pub goes_on_from_last : (a b : List Instruction) (budget : ℕ) (s t : State) (steps : ℕ) → runs a b budget s ≡ record { last = t; steps = steps } → LargerBudgetGoesOn a b budget s t steps
goes_on_from_last a b budget s t steps e more =
    larger_budget_goes_on a b budget more s ∙ ap (λ (r : Run). counted r.steps (runs a b more r.last)) e

pub stays_if_stopped : (a b : List Instruction) (budget : ℕ) (s t : State) (steps : ℕ) → runs a b budget s ≡ record { last = t; steps = steps } → StoppedStays a b s t steps
stays_if_stopped a b budget s t steps e none =
    let same : ◌≡◌ {A = Run} (record { last = t; steps = steps }) (record { last = s; steps = 0 }) = sym e ∙ stopped_stays a b budget s none in
    (ap (λ (r : Run). r.last) same, ap (λ (r : Run). r.steps) same)

pub used_up_if_spent : (a b : List Instruction) (budget : ℕ) (s t : State) (steps : ℕ) (o : Outcome) → runs a b budget s ≡ record { last = t; steps = steps } → o ≡ outcome_of a b t → SpentUsesUpBudget a b budget t o steps
used_up_if_spent a b budget s t steps o e is spent =
    let more : is_some (next a b t) ≡ true = spent_has_next t.mode (next a b t) (sym is ∙ spent) in
    let last : is_some (next a b (runs a b budget s).last) ≡ true = ap (λ (r : Run). is_some (next a b r.last)) e ∙ more in
    (sym (ap (λ (r : Run). r.steps) e) ∙ uses_up a b budget s last, more)
