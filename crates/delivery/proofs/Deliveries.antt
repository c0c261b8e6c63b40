-- A call delivers every argument and every result.
use Rattle.std.proofs.Common.{◌≡◌, ℕ, ◌+◌, ◌-◌, ◌*◌, ◌^◌, ◌<◌, ◌≤◌, true, List, length, get_or, Some, sym, refl, ◌∙◌, subst, inl, inr, arith}
use Rattle.std.proofs.ByRecursion.{All-weaker}
use Rattle.std.proofs.lemmas.Bool.{cases_Bool}
use Rattle.std.specs.List.{AllByRecursion}
use Rattle.machine.specs.Laws.{effects}
use Rattle.machine.specs.Machine.{Contents, reg, with_reg}
use Rattle.machine.specs.declared.Instruction.{Instruction}
use Rattle.place.specs.Pieces.{Below}
use Rattle.place.specs.Holdings.{Holding}
use Rattle.place.specs.Registers.{has}
use Rattle.delivery.specs.Code.{home_bytes, frame_bytes, saved, written, before_call, after_call, before_body, after_body}
use Rattle.delivery.proofs.Ready.{AllPieces, Ready}
use Rattle.delivery.specs.Delivering.{ResultByte, Widened, Returned, Delivers}
use Rattle.delivery.proofs.Bodies.{written_below}
use Rattle.delivery.proofs.Filling.{clear_of}
use Rattle.delivery.proofs.Leading.{But, Beside}
use Rattle.delivery.proofs.Parts.{Begun, Ran, Replied, Resumed, clear_kept, accepted, sends, begins, runs, replies, resumes}
use Rattle.delivery.proofs.Places.{all_pieces_weaker, Clear, Misses, misses_beside, beside_part, outside}
use Rattle.delivery.proofs.Saving.{saved_kept, saved_every, saved_few}

-- a frame has room for the homes and the saved registers
frame_deep : (args results : List Holding) (rs : List ℕ) → home_bytes (length args + length results) + 4 * length rs ≤ frame_bytes args results rs
frame_deep args results rs = omega arith

-- with 16 arguments, 4 results and 28 saved registers it is largest
frame_small : (args results : List Holding) (rs : List ℕ) → length args ≤ 16 → length results ≤ 4 → length rs ≤ 28 → frame_bytes args results rs ≤ 272
frame_small args results rs p q r = omega arith

stack_split : (n b f : ℕ) → b + f ≤ n → n - (b + f) + f + b ≡ n
stack_split n b f h = omega arith

module _ (args results : List Holding) (kept : ℕ) (body : List Instruction) (b f sp link : ℕ) (x x₁ u p q x₂ y : Contents)
    (ready : Ready args results kept body b x) (deep : home_bytes (length args + length results) + 4 * length (saved kept body) ≤ f) (top : sp + f + b ≡ reg x 31)
    (begun : Begun args results kept body b f sp link x x₁ u p) (ran : Ran args results body sp p q) (replied : Replied args results kept body f sp x q x₂) (resumed : Resumed args results b f sp q x₂ y) where
  -- a register that no argument travels in comes to the body as it was
  arrives : (r : ℕ) → r ≤ 27 → AllPieces (Clear r) args → reg p r ≡ reg x r
  arrives r l h = begun.received.keeps.regs r ((λ e. omega arith), λ e. omega arith) ∙ (begun.keeps.regs r (λ e. omega arith) ∙ begun.sent.keeps.regs r ((λ e. omega arith), h))

  kept_register : (r : ℕ) → has kept r ≡ true → reg y r ≡ reg x r
  kept_register r k =
      let l : r ≤ 27 = ready.kept_registers_are_r0_to_r27 r k in
      let back : reg x₂ r ≡ reg x r =
      elim (cases_Bool (written r body)) [
        | inl w ↦ saved_every (λ d. reg x₂ d ≡ reg x d) kept body replied.restored r (omega arith) k w
        | inr w ↦
            replied.stays r (clear_kept results r l (ready.no_result_has_a_kept_register r k)) (λ e. omega arith)
            (ran.regs r w ∙ arrives r l (clear_kept args r l (ready.no_argument_has_a_kept_register r k)))
      ] in
      resumed.keeps.regs r (λ e. omega arith) ∙ back

  link_comes_back : reg x₂ 30 ≡ link
  link_comes_back =
      let unsaved : AllByRecursion (λ d. But d 30) (saved kept body) = All-weaker (λ r. (r < 28) × (has kept r ≡ true)) (λ d. But d 30) (λ d l e. omega arith) (saved kept body) (saved_kept kept body) in
      replied.keeps.regs 30 ((λ e. omega arith), clear_of 30 results (omega arith) ready.results_fit, unsaved)
      ∙ (ran.regs 30 (written_below body 30 (home_bytes (length args + length results)) (omega arith) (accepted ready))
      ∙ (begun.received.keeps.regs 30 ((λ e. omega arith), (λ e. omega arith)) ∙ begun.linked))

  other_memory : (i : ℕ) → ((sp ≤ i) × (i < reg x 31) → ⊥) → (ResultByte results (sp + f + (b + home_bytes (length args))) i → ⊥) → get_or y.mem i 0 ≡ get_or x.mem i 0
  other_memory i h n =
      let beside : Beside sp (f + b) i = outside sp (f + b) i (λ k. h (omega arith, omega arith)) in
      let block : Beside (sp + f) b i = beside_part sp (f + b) (sp + f) b i (omega arith) (omega arith) beside in
      resumed.keeps.mem i n
      ∙ (replied.keeps.mem i tt
      ∙ (ran.mem i (beside_part sp (f + b) sp (home_bytes (length args + length results)) i (omega arith) (omega arith) beside)
      ∙ (begun.received.keeps.mem i (beside_part sp (f + b) sp f i (omega arith) (omega arith) beside)
      ∙ (begun.keeps.mem i tt
      ∙ begun.sent.keeps.mem i (all_pieces_weaker (Below b) (Misses (sp + f) i) (λ g e. misses_beside (sp + f) b i g block e) args ready.block_ends_by_b)))))

  delivers : effects body p ≡ Some q → f ≡ frame_bytes args results (saved kept body) → Delivers args results kept body b x p q y
  delivers e same =
      let at : reg p 31 ≡ sp = begun.received.pointer in
      let home : sp + f + (b + home_bytes (length args)) ≡ reg x 31 + home_bytes (length args) = omega arith in
      record {
        body_begins_at_the_callee_homes = omega arith;
        body_runs_through = e;
        body_finds_each_argument_widened =
            subst (λ (a : ℕ). Widened args p.mem a x.mem (reg x 31)) (sym at) (subst (λ (c : ℕ). Widened args p.mem sp x.mem c) top begun.received.finds);
        caller_finds_each_result =
            subst (λ (c : ℕ). Returned results y.mem (reg x 31 + home_bytes (length args)) q.mem (c + home_bytes (length args))) (sym at)
            (subst (λ (a : ℕ). Returned results y.mem a q.mem (sp + home_bytes (length args))) home resumed.returns);
        kept_registers_are_as_before = kept_register;
        stack_pointer_is_as_before = resumed.pointer ∙ top;
        memory_is_as_large_as_before = resumed.keeps.size ∙ (replied.keeps.size ∙ (ran.size ∙ (begun.received.keeps.size ∙ (begun.keeps.size ∙ begun.sent.keeps.size))));
        other_memory_is_as_before = λ i h n. other_memory i (λ k. h (omega arith, omega arith)) (λ r. n (subst (λ (a : ℕ). ResultByte results a i) home r));
      }

-- a call that is ready delivers, with any link in r30: its code has effects from start to end, and gives the link back
abbrev pub CallDelivers : Type 0
CallDelivers =
    (args results : List Holding) (kept : ℕ) (body : List Instruction) (b link : ℕ) (x : Contents) → link < 2 ^ 32 → Ready args results kept body b x →
    (x₁ p q x₂ y : Contents)
    × (effects (before_call args b) x ≡ Some x₁)
    × (effects (before_body args results (saved kept body) (frame_bytes args results (saved kept body))) (with_reg x₁ 30 link) ≡ Some p)
    × (effects (after_body args results (saved kept body) (frame_bytes args results (saved kept body))) q ≡ Some x₂)
    × (reg x₂ 30 ≡ link)
    × (effects (after_call args results b) x₂ ≡ Some y)
    × Delivers args results kept body b x p q y

pub call_delivers : CallDelivers
call_delivers args results kept body b link x small ready =
    let f : ℕ = frame_bytes args results (saved kept body) in
    let deep = frame_deep args results (saved kept body) in
    let short = frame_small args results (saved kept body) ready.arguments_are_at_most_16 ready.results_are_at_most_4 (saved_few kept body) in
    let near : f + b < 2 ^ 15 = omega arith in
    let sp : ℕ = reg x 31 - (b + f) in
    let top : sp + f + b ≡ reg x 31 = stack_split (reg x 31) b f ready.stack_is_deep_enough in
    let one = sends args results kept body b f sp x ready deep near top in
    let x₁ : Contents = one.0 in
    let u : Contents = with_reg x₁ 30 link in
    let two = begins args results kept body b f sp x ready deep near top x₁ link small one.2 in
    let p : Contents = two.0 in
    let three = runs args results kept body b f sp x ready deep near top x₁ u p link two.2 in
    let q : Contents = three.0 in
    let four = replies args results kept body b f sp x ready deep near top x₁ u p link two.2 q three.2 in
    let x₂ : Contents = four.0 in
    let five = resumes args results kept body b f sp x ready deep near top x₁ u p link two.2 q x₂ three.2 four.2 in
    let y : Contents = five.0 in (
      x₁,
      p,
      q,
      x₂,
      y,
      one.1,
      two.1,
      four.1,
      link_comes_back args results kept body b f sp link x x₁ u p q x₂ y ready deep top two.2 three.2 four.2 five.2,
      five.1,
      delivers args results kept body b f sp link x x₁ u p q x₂ y ready deep top two.2 three.2 four.2 five.2 three.1 refl,
    )
