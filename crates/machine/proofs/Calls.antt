use Rattle.std.proofs.Common.{◌≡◌, ℕ, suc, ◌+◌, ◌-◌, ◌%◌, ◌^◌, ◌<◌, List, [], ◌∷◌, ◌++◌, length, Some, sym, refl, ap, ◌∙◌, subst, add-zero, mod-eq_of_lt, arith, length-append}
use Rattle.std.specs.List.{slice_get}
use Rattle.machine.specs.declared.Instruction.{Instruction}
use Rattle.machine.specs.declared.Instruction.TheVariants.{Call, Ret, Halt}
use Rattle.machine.specs.declared.Side.TheVariants.{Caller, Callee}
use Rattle.machine.specs.declared.Mode.TheVariants.{Ended}
use Rattle.machine.specs.Machine.{Contents, State, Run, runs, counted, fetches, running, reg, with_reg}
use Rattle.machine.specs.Laws.{effects, Holds, calling, called, CallOfStraightLinesEnds}
use Rattle.machine.proofs.Runs.{one_step, stopped_stays}
use Rattle.machine.proofs.Straight.{straight_line_composes}

pub holds_append : (is js code : List Instruction) (n : ℕ) → Holds code n (is ++ js) → Holds code n is × Holds code (n + length is) js
holds_append [] js code n h = (tt, rw add-zero h)
holds_append (i ∷ is) js code n h =
    let rest = holds_append is js code (n + 1) h.1 in
    let sum : n + 1 + length is ≡ n + suc (length is) = omega arith in
    ((h.0, rest.0), subst (λ (k : ℕ). Holds code k js) sum rest.1)

pub call_step : (a b : List Instruction) (n budget : ℕ) (x : Contents) → n + 1 < 2 ^ 32 → slice_get a n ≡ Some Call → runs a b (suc budget) (running Caller n x) ≡ counted 1 (runs a b budget (running Callee 0 (with_reg x 30 (n + 1))))
call_step a b n budget x h f =
    let small : (n + 1) % 2 ^ 32 ≡ n + 1 = mod-eq_of_lt h in
    one_step a b budget (running Caller n x) _ (ap (fetches Caller n x) f ∙ ap (λ (v : ℕ). Some (running Callee 0 (with_reg x 30 v))) small)

pub ret_step : (a b : List Instruction) (n budget r : ℕ) (x : Contents) → reg x 30 ≡ r → slice_get b n ≡ Some Ret → runs a b (suc budget) (running Callee n x) ≡ counted 1 (runs a b budget (running Caller r x))
ret_step a b n budget r x e f =
    one_step a b budget (running Callee n x) _ (ap (fetches Callee n x) f ∙ ap (λ (v : ℕ). Some (running Caller v x)) e)

-- a run that has ended after some steps
abbrev pub ended : Contents → ℕ → Run
ended y n = record { last = record { contents = y; mode = Ended }; steps = n }

pub halt_step : (a b : List Instruction) (n budget : ℕ) (x : Contents) → slice_get a n ≡ Some Halt → runs a b (suc budget) (running Caller n x) ≡ ended x 1
halt_step a b n budget x f =
    let end : State = record { contents = x; mode = Ended } in
    one_step a b budget (running Caller n x) end (ap (fetches Caller n x) f) ∙ ap (counted 1) (stopped_stays a b budget end refl)

-- a call of straight-line code from straight-line code ends
pub call_of_straight_lines_ends :
    (a b before after body : List Instruction) (more : ℕ) (x x₁ x₂ x₃ : Contents) →
    Holds a 0 (calling before after) → Holds b 0 (called body) → length before + 1 < 2 ^ 32 →
    effects before x ≡ Some x₁ → effects body (with_reg x₁ 30 (length before + 1)) ≡ Some x₂ → reg x₂ 30 ≡ length before + 1 → effects after x₂ ≡ Some x₃ →
    runs a b (length (calling before after) + length (called body) + more) (running Caller 0 x) ≡ ended x₃ (length (calling before after) + length (called body))
call_of_straight_lines_ends a b before after body more x x₁ x₂ x₃ h g small e₁ e₂ link e₃ =
    let n : ℕ = length before in
    let m : ℕ = length body in
    let k : ℕ = length after in
    let first = holds_append before (Call ∷ (after ++ (Halt ∷ []))) a 0 h in
    let last = holds_append after (Halt ∷ []) a (0 + n + 1) first.1.1 in
    let inner = holds_append body (Ret ∷ []) b 0 g in
    let back : reg x₂ 30 ≡ 0 + n + 1 = omega arith in
    let entered : effects body (with_reg x₁ 30 (0 + n + 1)) ≡ Some x₂ = ap (λ (v : ℕ). effects body (with_reg x₁ 30 v)) (omega arith) ∙ e₂ in
    let long : length (calling before after) ≡ n + suc (k + 1) = simp length-append in
    let short : length (called body) ≡ m + 1 = simp length-append in
    let budget : length (calling before after) + length (called body) + more ≡ n + suc (m + suc (k + suc more)) = omega arith in
    let total : n + (1 + (m + (1 + (k + 1)))) ≡ length (calling before after) + length (called body) = omega arith in
    ap (λ (f : ℕ). runs a b f (running Caller 0 x)) budget
    ∙ straight_line_composes a b Caller before 0 (suc (m + suc (k + suc more))) x x₁ first.0 e₁
    ∙ ap (counted n) (call_step a b (0 + n) (m + suc (k + suc more)) x₁ (omega arith) first.1.0
    ∙ ap (counted 1) (straight_line_composes a b Callee body 0 (suc (k + suc more)) (with_reg x₁ 30 (0 + n + 1)) x₂ inner.0 entered
    ∙ ap (counted m) (ret_step a b (0 + m) (k + suc more) (0 + n + 1) x₂ back inner.1.0
    ∙ ap (counted 1) (straight_line_composes a b Caller after (0 + n + 1) (suc more) x₂ x₃ last.0 e₃
    ∙ ap (counted k) (halt_step a b (0 + n + 1 + k) more x₃ last.1.0)))))
    ∙ ap (ended x₃) total

pub ends_if_called : (a b : List Instruction) (budget : ℕ) (s t : State) (steps : ℕ) → runs a b budget s ≡ record { last = t; steps = steps } → CallOfStraightLinesEnds a b budget s t steps
ends_if_called a b budget s t steps e before after body x x₁ x₂ x₃ at h g small e₁ e₂ link e₃ enough =
    let total : ℕ = length (calling before after) + length (called body) in
    let split : budget ≡ total + (budget - total) = omega arith in
    let same : ◌≡◌ {A = Run} (record { last = t; steps = steps }) (ended x₃ total) =
    sym e ∙ ap (λ (m : ℕ). runs a b m s) split ∙ ap (runs a b (total + (budget - total))) at ∙ call_of_straight_lines_ends a b before after body (budget - total) x x₁ x₂ x₃ h g small e₁ e₂ link e₃ in
    (ap (λ (r : Run). r.last) same, ap (λ (r : Run). r.steps) same)
