-- A call has one end.
use Rattle.std.proofs.Common.{◌≡◌, ℕ, List, cond, Option, Some, None, Result, Ok, Err, refl, ap, sym, ◌∙◌, subst, nat_lt, arith}
use Rattle.std.specs.Bool.{◌==◌}
use Rattle.std.specs.Option.{unwrap_or}
use Rattle.stage.specs.Faults.{Fault}
use Rattle.allocation.specs.Faults.{cause_number, cause_line}
use Rattle.allocation.specs.declared.faults.Cause.{Cause}
use Rattle.allocation.specs.declared.faults.Cause.TheVariants.{NotAType, Full, Unsound, Refused}
use Rattle.histories.specs.Heard.{Heard}
use Rattle.emit.specs.Coding.{code_fault_of}
use Rattle.emit.specs.declared.faults.CodeFault.{CodeFault}
use Rattle.emit.specs.declared.faults.CodeFault.TheVariants.{Kept, Results, Body, TooShort}
use Rattle.machine.specs.Machine.{Contents, Run, running, runs, outcome_of}
use Rattle.machine.specs.declared.Instruction.{Instruction}
use Rattle.machine.specs.declared.Outcome.{Outcome}
use Rattle.machine.specs.declared.RunFault.TheVariants.{MemoryTooLarge}
use Rattle.machine.specs.declared.Side.TheVariants.{Caller}
use Rattle.call_faults.specs.declared.CallFault.{CallFault}
use Rattle.call_faults.specs.declared.CallFault.TheVariants as Faults
use Rattle.call.specs.declared.ran.Ran.{Ran}
use Rattle.call.specs.Placing.{Sides}
use Rattle.call.specs.Calls.{World, Standing, RunBy, run_of, CameOut, call_fault_of, call_line_of, fault_in, line_in, first_of, coding_fault}
use Rattle.call.specs.Astray.{End, OneEndForEachSetting, placement_in, standing_in}

-- a fault is read back from its number, its position and its line

abbrev cause_from : ℕ → Option ℕ → Cause
cause_from number line = cond (number == 21) NotAType (cond (number == 22) Full (cond (number == 23) Unsound (Refused (record { line = unwrap_or line 0 }))))

abbrev code_from : Fault → CodeFault
code_from f = cond (f.number == 31) Kept (cond (f.number == 32) Results (cond (f.number == 33) (Body f.position) TooShort))

abbrev call_fault_from : Fault → Option ℕ → CallFault
call_fault_from f line =
    cond (nat_lt f.number 30) (Faults.Placement (record { cause = cause_from f.number line; position = f.position })) (cond (nat_lt f.number 50) (Faults.Code (code_from f)) (Faults.Run MemoryTooLarge))

refusal_read_back : (n : ℕ) (c : Cause) → call_fault_from (record { layer = 2; number = cause_number c; position = n }) (cause_line c) ≡ Faults.Placement (record { cause = c; position = n })
refusal_read_back n NotAType = refl
refusal_read_back n Full = refl
refusal_read_back n Unsound = refl
refusal_read_back n (Refused f) = refl

code_fault_read_back : (f : CodeFault) → call_fault_from (code_fault_of f) None ≡ Faults.Code f
code_fault_read_back Kept = refl
code_fault_read_back Results = refl
code_fault_read_back (Body i) = refl
code_fault_read_back TooShort = refl

read_back : (f : CallFault) → call_fault_from (call_fault_of f) (call_line_of f) ≡ f
read_back (Faults.Placement f) = refusal_read_back f.position f.cause
read_back (Faults.Code f) = code_fault_read_back f
read_back (Faults.Run MemoryTooLarge) = refl

none_is_no_fault : (f : Fault) → None ≡ Some f → ⊥
none_is_no_fault f e = grind (arith, e)

same_fault : (f g : CallFault) → Some (call_fault_of f) ≡ Some (call_fault_of g) → call_line_of f ≡ call_line_of g → f ≡ g
same_fault f g e l =
    let number : call_fault_of f ≡ call_fault_of g = ap (λ o. unwrap_or o (call_fault_of f)) e in
    sym (read_back f) ∙ (rw (number, l) refl) ∙ read_back g

-- the rules leave no choice

same_world : (c c' d d' : List Instruction) (k k' : Contents) → c ≡ c' → d ≡ d' → k ≡ k' →
    ◌≡◌ {A = World} (record { caller = c; callee = d; contents = k }) (record { caller = c'; callee = d'; contents = k' })
same_world c c' d d' k k' e₁ e₂ e₃ = rw (e₁, e₂, e₃) refl

same_ran : (a a' b b' c c' d d' : ℕ) (o o' : Outcome) (n n' : ℕ) → a ≡ a' → b ≡ b' → c ≡ c' → d ≡ d' → o ≡ o' → n ≡ n' →
    ◌≡◌ {A = Ran} (record { caller_length = a; callee_length = b; block = c; frame = d; outcome = o; steps = n }) (record { caller_length = a'; callee_length = b'; block = c'; frame = d'; outcome = o'; steps = n' })
same_ran a a' b b' c c' d d' o o' n n' e₁ e₂ e₃ e₄ e₅ e₆ = rw (e₁, e₂, e₃, e₄, e₅, e₆) refl

module _ (z : Standing) (new new' : World) where
  same_run : (r q : Ran) → RunBy z new r → RunBy z new' q → (new ≡ new') × (r ≡ q)
  same_run r q a b =
      let caller = a.caller_code_is_at_the_front_and_the_rest_untouched ∙ sym b.caller_code_is_at_the_front_and_the_rest_untouched in
      let callee = a.callee_code_is_at_the_front_and_the_rest_untouched ∙ sym b.callee_code_is_at_the_front_and_the_rest_untouched in
      let run : run_of z new ≡ run_of z new' = ap (λ (c : List Instruction). runs c new.callee z.budget (running Caller 0 z.world.contents)) caller ∙ ap (λ (d : List Instruction). runs new'.caller d z.budget (running Caller 0 z.world.contents)) callee in
      let contents = a.contents_are_those_at_the_end ∙ ap (λ (x : Run). x.last.contents) run ∙ sym b.contents_are_those_at_the_end in
      let outcome = a.outcome_is_that_of_the_last_state ∙ ap (λ (x : Run). outcome_of new.caller new.callee x.last) run ∙ ap (λ (c : List Instruction). outcome_of c new.callee (run_of z new').last) caller ∙ ap (λ (d : List Instruction). outcome_of new'.caller d (run_of z new').last) callee ∙ sym b.outcome_is_that_of_the_last_state in
      let steps = a.steps_are_those_of_the_run ∙ ap (λ (x : Run). x.steps) run ∙ sym b.steps_are_those_of_the_run in (
        same_world _ _ _ _ _ _ caller callee contents,
        same_ran _ _ _ _ _ _ _ _ _ _ _ _
            (a.length_of_the_caller_code ∙ sym b.length_of_the_caller_code)
            (a.length_of_the_callee_code ∙ sym b.length_of_the_callee_code)
            (a.stack_bytes_of_the_caller ∙ sym b.stack_bytes_of_the_caller)
            (a.stack_bytes_of_the_callee ∙ sym b.stack_bytes_of_the_callee)
            outcome
            steps,
      )

  pub one_outcome : (x y : Result Ran CallFault) → CameOut z new x → CameOut z new' y → fault_in x ≡ fault_in y → line_in x ≡ line_in y → (new ≡ new') × (x ≡ y)
  one_outcome (Ok r) (Ok q) a b e l = let same = same_run r q a b in (same.0, ap Ok same.1)
  one_outcome (Ok r) (Err g) a b e l = absurd (none_is_no_fault (call_fault_of g) e)
  one_outcome (Err f) (Ok q) a b e l = absurd (none_is_no_fault (call_fault_of f) (sym e))
  one_outcome (Err f) (Err g) a b e l = (a ∙ sym b, ap Err (same_fault f g e l))

same_end : (h h' : List Heard) (s s' : Sides) (w w' : World) (x x' : Result Ran CallFault) → h ≡ h' → s ≡ s' → w ≡ w' → x ≡ x' →
    ◌≡◌ {A = End} (record { heard = h; sides = s; world = w; answer = x }) (record { heard = h'; sides = s'; world = w'; answer = x' })
same_end h h' s s' w w' x x' e₀ e₁ e₂ e₃ = rw (e₀, e₁, e₂, e₃) refl

pub one_end_for_each_setting : OneEndForEachSetting
one_end_for_each_setting s e f a b =
    let sides : e.sides ≡ f.sides = a.sides_are_placed_by_the_rules ∙ sym b.sides_are_placed_by_the_rules in
    let fault : fault_in e.answer ≡ fault_in f.answer =
    a.refused_with_the_first_fault
    ∙ ap (λ (z : Sides). first_of (placement_in s).core_results.fault (coding_fault (standing_in s z))) sides
    ∙ sym b.refused_with_the_first_fault in
    let line : line_in e.answer ≡ line_in f.answer = a.refusal_of_a_pile_has_the_blamed_line ∙ sym b.refusal_of_a_pile_has_the_blamed_line in
    let first : CameOut (standing_in s f.sides) e.world e.answer = subst (λ (z : Sides). CameOut (standing_in s z) e.world e.answer) sides a.came_out_by_the_rules_of_code_and_machine in
    let same = one_outcome (standing_in s f.sides) e.world f.world e.answer f.answer first b.came_out_by_the_rules_of_code_and_machine fault line in
    same_end _ _ _ _ _ _ _ _ (a.every_answer_before_was_by_the_rules_and_heard ∙ sym b.every_answer_before_was_by_the_rules_and_heard) sides same.0 same.1
