use Rattle.std.proofs.Common.{◌≡◌, ℕ, zero, suc, ◌+◌, ◌/◌, ◌%◌, ◌<◌, ◌≤◌, Bool, true, false, cond, ◌&&◌, ◌≢◌, ◌⊎◌, List, length, get_or, set, ℤ, pos, negsuc, ◌+ℤ◌, Some, None, Option, sym, refl, ap, ◌∙◌, subst, inl, inr, arith, length-set, get_or-set_other}
use Rattle.std.specs.List.{slice_get}
use Rattle.std.proofs.lemmas.Option.{same_Some, cond_some}
use Rattle.machine.specs.declared.Instruction.{Instruction}
use Rattle.machine.specs.declared.Instruction.TheVariants.{Set, Mov, Add, Addi, Sign, Load, Store, Call, Ret, Halt}
use Rattle.machine.specs.declared.Width.{Width}
use Rattle.machine.specs.declared.Side.{Side}
use Rattle.machine.specs.declared.Side.TheVariants.{Caller, Callee}
use Rattle.machine.specs.declared.Mode.{Mode}
use Rattle.machine.specs.declared.Mode.TheVariants.{Running, Ended}
use Rattle.machine.specs.Machine.{Contents, State, effect, next, next_from, carried_out, fetches, onward, calls, returns, code_on, instruction_at, or_same, reg, with_reg, bytes_of, loads, stores, inside, address, ok, stored}
use Rattle.machine.specs.Laws.{Frame, WritesRegister, WritesByte, Covers, OnlyWritten}

pub length_stored : (k : ℕ) (m : List ℕ) (a v : ℕ) → length (stored m a k v) ≡ length m
length_stored zero m a v = refl
length_stored (suc k) m a v = length_stored k (set m a (v % 256)) (a + 1) (v / 256) ∙ length-set m a (v % 256)

-- a byte outside of what is stored
pub stored_other : (k : ℕ) (m : List ℕ) (a v j : ℕ) → (j < a) ⊎ (a + k ≤ j) → get_or (stored m a k v) j 0 ≡ get_or m j 0
stored_other zero m a v j o = refl
stored_other (suc k) m a v j (inl h) =
    let ne : j ≢ a = omega arith in
    stored_other k (set m a (v % 256)) (a + 1) (v / 256) j (inl (omega arith)) ∙ get_or-set_other m a j (v % 256) 0 ne
stored_other (suc k) m a v j (inr h) =
    let ne : j ≢ a = omega arith in
    stored_other k (set m a (v % 256)) (a + 1) (v / 256) j (inr (omega arith)) ∙ get_or-set_other m a j (v % 256) 0 ne

abbrev Nothing : ℕ → Type 0
Nothing a = ⊥

frame_same : (R M : ℕ → Type 0) (x : Contents) → Frame R M x x
frame_same R M x = record { regs = λ r n. refl; mem = λ a n. refl; count = refl; size = refl }

wrote : (x : Contents) (d v : ℕ) → Frame (λ r. r ≡ d) Nothing x (with_reg x d v)
wrote x d v = record { regs = λ r n. get_or-set_other x.regs d r v 0 n; mem = λ a n. refl; count = length-set x.regs d v; size = refl }

-- a fact of what a tested option holds
tested : (P : Contents → Type 0) (b : Bool) (o : Option Contents) (y : Contents) → ((z : Contents) → o ≡ Some z → P z) → cond b o None ≡ Some y → P y
tested P true o y f e = f y e
tested P false o y f e = cc

set_frame : (x y : Contents) (b : Bool) (d v : ℕ) → cond b (Some (with_reg x d v)) None ≡ Some y → Frame (λ r. r ≡ d) Nothing x y
set_frame x y b d v e = subst (Frame (λ r. r ≡ d) Nothing x) (cond_some b _ y e).1 (wrote x d v)

load_frame : (x y : Contents) (d : ℕ) (w : Width) (s : Bool) (o : Option ℕ) → loads x d w s o ≡ Some y → Frame (λ r. r ≡ d) Nothing x y
load_frame x y d w s None e = cc
load_frame x y d w s (Some a) e = subst (Frame (λ r. r ≡ d) Nothing x) (same_Some _ y e) (wrote x d _)

bytes_frame : (x y : Contents) (v : ℕ) (w : Width) (b : Bool) (n : ℕ) → stores x v w (cond b (Some n) None) ≡ Some y → Frame Nothing (λ a. (n ≤ a) × (a < n + bytes_of w)) x y
bytes_frame x y v w false n e = cc
bytes_frame x y v w true n e =
    subst (Frame Nothing (λ a. (n ≤ a) × (a < n + bytes_of w)) x) (same_Some _ y e)
    (record {
      regs = λ r h. refl;
      mem = λ a h. stored_other (bytes_of w) x.mem n v a (grind arith);
      count = refl;
      size = length_stored (bytes_of w) x.mem n v;
    })

store_frame : (x y : Contents) (v : ℕ) (w : Width) (z : ℤ) → stores x v w (inside z (bytes_of w) (length x.mem)) ≡ Some y → Frame Nothing (Covers z (bytes_of w)) x y
store_frame x y v w (pos n) e = bytes_frame x y v w _ n e
store_frame x y v w (negsuc n) e = cc

pub effect_frame : (x y : Contents) (i : Instruction) → effect i x ≡ Some y → Frame (WritesRegister i) (WritesByte i x) x y
effect_frame x y (Set d n) e = set_frame x y _ d _ e
effect_frame x y (Mov d s) e = set_frame x y _ d _ e
effect_frame x y (Add d s t) e = set_frame x y _ d _ e
effect_frame x y (Addi d s i) e = set_frame x y _ d _ e
effect_frame x y (Sign d s) e = set_frame x y _ d _ e
effect_frame x y (Load d b i w s) e =
    let from : Option ℕ = address (reg x b) i (bytes_of w) (length x.mem) in
    tested (Frame (λ r. r ≡ d) Nothing x) (ok d && ok b) (loads x d w s from) y (λ z h. load_frame x z d w s from h) e
effect_frame x y (Store s b i w) e =
    let to : ℤ = pos (reg x b) +ℤ i in
    tested (Frame Nothing (Covers to (bytes_of w)) x) (ok s && ok b) (stores x (reg x s) w (inside to (bytes_of w) (length x.mem))) y (λ z h. store_frame x z (reg x s) w to h) e
effect_frame x y Call e = cc
effect_frame x y Ret e = cc
effect_frame x y Halt e = cc

onward_frame : (side : Side) (n : ℕ) (x : Contents) (i : Instruction) (t : State) (o : Option Contents) → o ≡ effect i x → onward side n o ≡ Some t → Frame (WritesRegister i) (WritesByte i x) x t.contents
onward_frame side n x i t None h e = cc
onward_frame side n x i t (Some y) h e =
    let same : y ≡ t.contents = ap (λ (s : Option State). elim s [ None ↦ y | Some u ↦ u.contents ]) e in
    subst (Frame (WritesRegister i) (WritesByte i x) x) same (effect_frame x y i (sym h))

-- a fact of the contents of a state that an option holds
state_held : (P : Contents → Type 0) (s t : State) → P s.contents → Some s ≡ Some t → P t.contents
state_held P s t h e = subst (λ (u : State). P u.contents) (same_Some s t e) h

call_frame : (side : Side) (n : ℕ) (x : Contents) (t : State) → calls side n x ≡ Some t → Frame (λ r. r ≡ 30) Nothing x t.contents
call_frame Caller n x t e = state_held (Frame (λ r. r ≡ 30) Nothing x) _ t (wrote x 30 _) e
call_frame Callee n x t e = cc

ret_frame : (side : Side) (x : Contents) (t : State) → returns side x ≡ Some t → Frame Nothing Nothing x t.contents
ret_frame Caller x t e = cc
ret_frame Callee x t e = state_held (Frame Nothing Nothing x) _ t (frame_same _ _ x) e

carried_frame : (side : Side) (n : ℕ) (x : Contents) (t : State) (i : Instruction) → carried_out side n x i ≡ Some t → Frame (WritesRegister i) (WritesByte i x) x t.contents
carried_frame side n x t (Set d v) e = onward_frame side n x (Set d v) t _ refl e
carried_frame side n x t (Mov d s) e = onward_frame side n x (Mov d s) t _ refl e
carried_frame side n x t (Add d s u) e = onward_frame side n x (Add d s u) t _ refl e
carried_frame side n x t (Addi d s i) e = onward_frame side n x (Addi d s i) t _ refl e
carried_frame side n x t (Sign d s) e = onward_frame side n x (Sign d s) t _ refl e
carried_frame side n x t (Load d b i w s) e = onward_frame side n x (Load d b i w s) t _ refl e
carried_frame side n x t (Store s b i w) e = onward_frame side n x (Store s b i w) t _ refl e
carried_frame side n x t Call e = call_frame side n x t e
carried_frame side n x t Ret e = ret_frame side x t e
carried_frame side n x t Halt e = state_held (Frame Nothing Nothing x) _ t (frame_same _ _ x) e

found_frame : (side : Side) (n : ℕ) (x : Contents) (t : State) (o : Option Instruction) → fetches side n x o ≡ Some t → OnlyWritten o x t.contents
found_frame side n x t None e = cc
found_frame side n x t (Some i) e = carried_frame side n x t i e

next_frame : (a b : List Instruction) (m : Mode) (x : Contents) (t : State) → next_from a b m x ≡ Some t → OnlyWritten (instruction_at m a b) x t.contents
next_frame a b (Running side n) x t e = found_frame side n x t (slice_get (code_on side a b) n) e
next_frame a b Ended x t e = cc

same_or_next : (a b : List Instruction) (s t : State) (o : Option State) → o ≡ next a b s → t ≡ or_same o s → OnlyWritten (instruction_at s.mode a b) s.contents t.contents
same_or_next a b s t None h e = subst (λ (u : State). OnlyWritten (instruction_at s.mode a b) s.contents u.contents) (sym e) (frame_same _ _ s.contents)
same_or_next a b s t (Some u) h e = next_frame a b s.mode s.contents t (sym h ∙ ap Some (sym e))

-- a step changes only the register or the bytes that its instruction writes
pub step_frame : (a b : List Instruction) (s t : State) → t ≡ or_same (next a b s) s → OnlyWritten (instruction_at s.mode a b) s.contents t.contents
step_frame a b s t e = same_or_next a b s t (next a b s) refl e
