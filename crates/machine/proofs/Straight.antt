use Rattle.std.proofs.Common.{◌≡◌, ℕ, ◌+◌, List, [], ◌∷◌, length, Some, None, Option, sym, refl, ap, ◌∙◌, add-zero, suc-add, zero-add, arith}
use Rattle.std.specs.List.{slice_get}
use Rattle.machine.specs.declared.Instruction.{Instruction}
use Rattle.machine.specs.declared.Instruction.TheVariants.{Set, Mov, Add, Addi, Sign, Load, Store, Call, Ret, Halt}
use Rattle.machine.specs.declared.Side.{Side}
use Rattle.machine.specs.Machine.{Contents, State, effect, next, carried_out, onward, fetches, runs, counted, running, code_on}
use Rattle.machine.specs.Laws.{and_then, effects, Holds, StraightLineComposes}
use Rattle.machine.proofs.Runs.{counted_zero, counted_more, one_step}

-- an instruction with an effect goes on to the next
carried_on : (side : Side) (n : ℕ) (x y : Contents) (i : Instruction) → effect i x ≡ Some y → carried_out side n x i ≡ Some (running side (n + 1) y)
carried_on side n x y (Set d v) e = ap (onward side n) e
carried_on side n x y (Mov d s) e = ap (onward side n) e
carried_on side n x y (Add d s t) e = ap (onward side n) e
carried_on side n x y (Addi d s v) e = ap (onward side n) e
carried_on side n x y (Sign d s) e = ap (onward side n) e
carried_on side n x y (Load d b v w s) e = ap (onward side n) e
carried_on side n x y (Store s b v w) e = ap (onward side n) e
carried_on side n x y Call e = cc
carried_on side n x y Ret e = cc
carried_on side n x y Halt e = cc

pub next_effect : (a b : List Instruction) (side : Side) (n : ℕ) (x y : Contents) (i : Instruction) → slice_get (code_on side a b) n ≡ Some i → effect i x ≡ Some y → next a b (running side n x) ≡ Some (running side (n + 1) y)
next_effect a b side n x y i f e = ap (fetches side n x) f ∙ carried_on side n x y i e

-- what an effect leads to, where the rest has one
pub split : (o : Option Contents) (f : Contents → Option Contents) (y : Contents) → and_then o f ≡ Some y → (z : Contents) × (o ≡ Some z) × (f z ≡ Some y)
split None f y e = cc
split (Some z) f y e = (z, refl, e)

same_run : (a b : List Instruction) (side : Side) (j k more n m : ℕ) (y : Contents) → j ≡ k → n ≡ m → counted j (runs a b more (running side n y)) ≡ counted k (runs a b more (running side m y))
same_run a b side j k more n m y p q = cc

-- running straight-line code has the effects of its instructions, one after the other
pub straight_line_composes :
    (a b : List Instruction) (side : Side) (is : List Instruction) (n more : ℕ) (x y : Contents) →
    Holds (code_on side a b) n is → effects is x ≡ Some y →
    runs a b (length is + more) (running side n x) ≡ counted (length is) (runs a b more (running side (n + length is) y))
straight_line_composes a b side [] n more x y h e =
    let same : x ≡ y = cc in
    rw (zero-add more, add-zero, same) (sym (counted_zero (runs a b more (running side n y))))
straight_line_composes a b side (i ∷ is) n more x y h e =
    let found = split (effect i x) (effects is) y e in
    rw (suc-add (length is) more)
    (one_step a b (length is + more) (running side n x) (running side (n + 1) found.0) (next_effect a b side n x found.0 i h.0 found.1)
    ∙ ap (counted 1) (straight_line_composes a b side is (n + 1) more found.0 y h.1 found.2)
    ∙ counted_more 1 (length is) (runs a b more (running side (n + 1 + length is) y))
    ∙ same_run a b side _ _ more _ _ y (omega arith) (omega arith))

pub composes_if_straight : (a b : List Instruction) (budget : ℕ) (s t : State) (steps : ℕ) → runs a b budget s ≡ record { last = t; steps = steps } → StraightLineComposes a b budget s t steps
composes_if_straight a b budget s t steps e side is n more x y at h f enough =
    sym e ∙ ap (λ (m : ℕ). runs a b m s) enough ∙ ap (runs a b (length is + more)) at ∙ straight_line_composes a b side is n more x y h f
