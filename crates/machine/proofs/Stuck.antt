use Rattle.std.proofs.Common.{◌≡◌, ℕ, ◌+◌, ◌<◌, Bool, true, false, cond, ◌&&◌, leb, ◌⊎◌, List, length, ℤ, pos, negsuc, ◌+ℤ◌, is_some, IfSome, Some, None, Option, sym, refl, ◌∙◌, inl, inr, arith, ltb-false, le-ltb, leb-false}
use borrow.Author.Tests.{lt-leb}
use Rattle.std.specs.List.{slice_get}
use Rattle.machine.specs.declared.Instruction.{Instruction}
use Rattle.machine.specs.declared.Instruction.TheVariants.{Set, Mov, Add, Addi, Sign, Load, Store, Call, Ret, Halt}
use Rattle.machine.specs.declared.Width.{Width}
use Rattle.machine.specs.declared.Side.{Side}
use Rattle.machine.specs.declared.Side.TheVariants.{Caller, Callee}
use Rattle.machine.specs.declared.Mode.{Mode}
use Rattle.machine.specs.declared.Mode.TheVariants.{Running, Ended}
use Rattle.machine.specs.declared.Outcome.{Outcome}
use Rattle.machine.specs.declared.Outcome.TheVariants as Outcomes
use Rattle.machine.specs.Machine.{Contents, State, carried_out, onward, fetches, next_from, code_on, outcome_from, outcome_of, reg, bytes_of, loads, stores, inside, ok}
use Rattle.machine.specs.Laws.{Outside, CannotBeDone, IsStuck, StuckExactlyWhere}

-- a test fails exactly where P holds
abbrev Fails : Bool → Type 0 → Type 0
Fails b P = (b ≡ false → P) × (P → b ≡ false)

fails_same : (b c : Bool) (P : Type 0) → b ≡ c → Fails c P → Fails b P
fails_same b c P e f = (λ h. f.0 (sym e ∙ h), λ p. e ∙ f.1 p)

fails_both : (b c : Bool) (P Q : Type 0) → Fails b P → Fails c Q → Fails (b && c) (P ⊎ Q)
fails_both false c P Q f g = (λ h. inl (f.0 refl), λ p. refl)
fails_both true c P Q f g = (λ h. inr (g.0 h), λ p. elim p [ inl x ↦ cc (f.1 x) | inr y ↦ g.1 y ])

fails_ok : (r : ℕ) → Fails (ok r) (31 < r)
fails_ok r = (λ h. omega (arith, ltb-false r 32 h), λ p. le-ltb r 32 (omega arith))

fails_inside : (z : ℤ) (count size : ℕ) → Fails (is_some (inside z count size)) (Outside z count size)
fails_inside (pos n) count size = fails_same _ (leb (n + count) size) _ (test (leb (n + count) size)) (leb-false (n + count) size, lt-leb (n + count) size)
  where
    test : (b : Bool) → is_some (cond b (Some n) None) ≡ b
    test true = refl
    test false = refl
fails_inside (negsuc n) count size = (λ h. tt, λ p. refl)

plain_test : (side : Side) (n : ℕ) (b : Bool) (y : Contents) → is_some (onward side n (cond b (Some y) None)) ≡ b
plain_test side n true y = refl
plain_test side n false y = refl

load_test : (side : Side) (n : ℕ) (x : Contents) (d : ℕ) (w : Width) (s b : Bool) (o : Option ℕ) → is_some (onward side n (cond b (loads x d w s o) None)) ≡ (b && is_some o)
load_test side n x d w s false o = refl
load_test side n x d w s true None = refl
load_test side n x d w s true (Some a) = refl

store_test : (side : Side) (n : ℕ) (x : Contents) (v : ℕ) (w : Width) (b : Bool) (o : Option ℕ) → is_some (onward side n (cond b (stores x v w o) None)) ≡ (b && is_some o)
store_test side n x v w false o = refl
store_test side n x v w true None = refl
store_test side n x v w true (Some a) = refl

two : (r s : ℕ) → Fails (ok r && ok s) ((31 < r) ⊎ (31 < s))
two r s = fails_both (ok r) (ok s) _ _ (fails_ok r) (fails_ok s)

-- no state follows exactly where the instruction cannot be done
carried_fails : (side : Side) (n : ℕ) (x : Contents) (i : Instruction) → Fails (is_some (carried_out side n x i)) (CannotBeDone side x i)
carried_fails side n x (Set d v) = fails_same _ (ok d) _ (plain_test side n (ok d) _) (fails_ok d)
carried_fails side n x (Mov d s) = fails_same _ (ok d && ok s) _ (plain_test side n (ok d && ok s) _) (two d s)
carried_fails side n x (Add d s t) =
    fails_same _ (ok d && (ok s && ok t)) _ (plain_test side n (ok d && (ok s && ok t)) _) (fails_both (ok d) (ok s && ok t) _ _ (fails_ok d) (two s t))
carried_fails side n x (Addi d s i) = fails_same _ (ok d && ok s) _ (plain_test side n (ok d && ok s) _) (two d s)
carried_fails side n x (Sign d s) = fails_same _ (ok d && ok s) _ (plain_test side n (ok d && ok s) _) (two d s)
carried_fails side n x (Load d b i w s) =
    let from : Option ℕ = inside (pos (reg x b) +ℤ i) (bytes_of w) (length x.mem) in
    fails_same _ ((ok d && ok b) && is_some from) _ (load_test side n x d w s (ok d && ok b) from)
    (fails_both (ok d && ok b) (is_some from) _ _ (two d b) (fails_inside (pos (reg x b) +ℤ i) (bytes_of w) (length x.mem)))
carried_fails side n x (Store s b i w) =
    let to : Option ℕ = inside (pos (reg x b) +ℤ i) (bytes_of w) (length x.mem) in
    fails_same _ ((ok s && ok b) && is_some to) _ (store_test side n x (reg x s) w (ok s && ok b) to)
    (fails_both (ok s && ok b) (is_some to) _ _ (two s b) (fails_inside (pos (reg x b) +ℤ i) (bytes_of w) (length x.mem)))
carried_fails Caller n x Call = (λ h. cc, λ p. cc)
carried_fails Callee n x Call = (λ h. refl, λ p. refl)
carried_fails Caller n x Ret = (λ h. refl, λ p. refl)
carried_fails Callee n x Ret = (λ h. cc, λ p. cc)
carried_fails side n x Halt = (λ h. cc, λ p. absurd p)

running_fails : (side : Side) (n : ℕ) (x : Contents) (o : Option Instruction) → Fails (is_some (fetches side n x o)) (IfSome o (CannotBeDone side x))
running_fails side n x None = (λ h. tt, λ p. refl)
running_fails side n x (Some i) = carried_fails side n x i

outcome_none : (side : Side) (n : ℕ) (o : Option State) → (outcome_from (Running side n) o ≡ Outcomes.Stuck → is_some o ≡ false) × (is_some o ≡ false → outcome_from (Running side n) o ≡ Outcomes.Stuck)
outcome_none side n None = (λ h. refl, λ h. refl)
outcome_none side n (Some t) = (λ h. cc, λ h. cc)

mode_stuck : (a b : List Instruction) (m : Mode) (x : Contents) (o : Outcome) → o ≡ outcome_from m (next_from a b m x) → (o ≡ Outcomes.Stuck → IsStuck a b m x) × (IsStuck a b m x → o ≡ Outcomes.Stuck)
mode_stuck a b (Running side n) x o e =
    let f = running_fails side n x (slice_get (code_on side a b) n) in
    let g = outcome_none side n (fetches side n x (slice_get (code_on side a b) n)) in
    (λ h. f.0 (g.0 (sym e ∙ h)), λ p. e ∙ g.1 (f.1 p))
mode_stuck a b Ended x o e = (λ h. cc, λ p. absurd p)

pub stuck_exactly_where : (a b : List Instruction) (t : State) (o : Outcome) → o ≡ outcome_of a b t → StuckExactlyWhere a b t o
stuck_exactly_where a b t o e = mode_stuck a b t.mode t.contents o e
