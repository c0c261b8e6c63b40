-- A call with no argument, no result and no body.
use Rattle.std.proofs.Common.{◌≡◌, ℕ, zero, suc, ◌+◌, ◌-◌, ◌%◌, ◌^◌, ◌<◌, ◌≤◌, Bool, true, false, cond, ◌&&◌, List, [], ◌∷◌, ◌++◌, length, Some, refl, ap, ◌∙◌, add-zero, mod-eq_of_lt, arith}
use Rattle.std.proofs.lemmas.List.{get_or-set_same, get_or-set_other, set-get_or}
use Rattle.place.specs.Registers.{has}
use Rattle.machine.proofs.Calls.{call_of_straight_lines_ends}
use Rattle.machine.specs.Laws.{effects, called}
use Rattle.machine.specs.Machine.{Contents, reg, runs, running, with_reg}
use Rattle.machine.specs.declared.Instruction.{Instruction}
use Rattle.machine.specs.declared.Side.TheVariants.{Caller}
use Rattle.delivery.specs.Code.{down, up, saved, saved_below, frame_bytes, before_body, after_body, caller_code, callee_code}
use Rattle.delivery.specs.Delivering.{ended}

never : (b : Bool) (r : ℕ) → cond (b && false) (r ∷ []) [] ≡ []
never true r = refl
never false r = refl

none_below : (n kept : ℕ) → saved_below n kept [] ≡ []
none_below zero kept = refl
none_below (suc r) kept = ap (λ rs. rs ++ cond (has kept r && false) (r ∷ []) []) (none_below r kept) ∙ never (has kept r) r

-- a body that writes nothing saves nothing
nothing_saved : (kept : ℕ) → saved kept [] ≡ []
unfolding saved
nothing_saved kept = none_below 28 kept

-- the callee's code without a body, by the registers that it saves
abbrev saving : List ℕ → List Instruction
saving rs = let f = frame_bytes [] [] rs in called (before_body [] [] rs f ++ after_body [] [] rs f)

abbrev caller : List Instruction
caller = caller_code [] [] 0

abbrev callee : List Instruction
callee = saving []

-- the stack pointer, moved by nothing
idle : (x : Contents) → reg x 31 < 2 ^ 32 → with_reg x 31 ((reg x 31 + 0) % 2 ^ 32) ≡ x
idle x l =
    let sum : (reg x 31 + 0) % 2 ^ 32 ≡ reg x 31 = ap (λ (v : ℕ). v % 2 ^ 32) (add-zero (reg x 31)) ∙ mod-eq_of_lt l in
    ap (with_reg x 31) sum ∙ ap (λ rs. record { regs = rs; mem = x.mem }) (set-get_or x.regs 31 0)

idle_once : (x : Contents) → reg x 31 < 2 ^ 32 → effects (down 0 ∷ []) x ≡ Some x
idle_once x l = ap Some (idle x l)

idle_twice : (x : Contents) → reg x 31 < 2 ^ 32 → effects (down 0 ∷ up 0 ∷ []) x ≡ Some x
idle_twice x l = ap (effects (up 0 ∷ [])) (idle x l) ∙ ap Some (idle x l)

pub empty_call_ends :
    (x : Contents) → length x.regs ≡ 32 → ((r : ℕ) → reg x r < 2 ^ 32) → (kept budget : ℕ) → 7 ≤ budget →
    runs (caller_code [] [] 0) (callee_code [] [] kept []) budget (running Caller 0 x) ≡ ended (with_reg x 30 2) 7
empty_call_ends x count bits kept budget enough =
    let y : Contents = with_reg x 30 2 in
    let linked : reg y 30 ≡ 2 = get_or-set_same x.regs 30 2 0 (omega arith) in
    let pointer : reg y 31 ≡ reg x 31 = get_or-set_other x.regs 30 31 2 0 (λ e. omega arith) in
    let small : reg y 31 < 2 ^ 32 = omega (arith, bits 31, pointer) in
    let split : budget ≡ 7 + (budget - 7) = omega arith in
    ap (λ code. runs caller code budget (running Caller 0 x)) (ap saving (nothing_saved kept))
    ∙ ap (λ (n : ℕ). runs caller callee n (running Caller 0 x)) split
    ∙ call_of_straight_lines_ends caller callee (down 0 ∷ []) (up 0 ∷ []) (down 0 ∷ up 0 ∷ []) (budget - 7) x x y y (refl, (refl, (refl, (refl, tt)))) (refl, (refl, (refl, tt))) (omega arith) (idle_once x (bits 31)) (idle_twice y small) linked (ap Some (idle y small))
