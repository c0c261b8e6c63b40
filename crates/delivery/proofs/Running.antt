-- A run of caller and callee delivers.
use Rattle.std.proofs.Common.{◌≡◌, ℕ, suc, ◌+◌, ◌-◌, ◌*◌, ◌^◌, ◌<◌, ◌≤◌, List, [], ◌∷◌, ◌++◌, length, Some, sym, ap, ◌∙◌, subst, arith}
use Rattle.std.proofs.lemmas.List.{length-append, append_assoc}
use Rattle.machine.proofs.Calls.{call_of_straight_lines_ends, call_step, holds_append}
use Rattle.machine.proofs.Straight.{straight_line_composes}
use Rattle.machine.specs.Laws.{effects, Holds, calling}
use Rattle.machine.specs.Machine.{Contents, counted, runs, running, with_reg}
use Rattle.machine.specs.declared.Instruction.{Instruction}
use Rattle.machine.specs.declared.Instruction.TheVariants.{Call, Ret, Halt}
use Rattle.machine.specs.declared.Side.TheVariants.{Caller, Callee}
use Rattle.place.specs.Holdings.{Holding}
use Rattle.place.specs.Pieces.{pieces}
use Rattle.place.specs.declared.pieces.Piece.{Piece}
use Rattle.place.specs.declared.pieces.Piece.TheVariants.{Register, Block}
use Rattle.place.specs.declared.pieces.Place.{Place}
use Rattle.place.specs.declared.pieces.Place.TheVariants.{Single, Double}
use Rattle.values.specs.declared.kinds.Kind.{Kind}
use Rattle.values.specs.declared.sizes.Size.{Size}
use Rattle.delivery.specs.Code.{home_size, settle, fill_pieces, each_home, fill_place, fill_all, saved, frame_bytes, before_call, after_call, before_body, after_body, caller_code, callee_code}
use Rattle.delivery.specs.Delivering.{Reaches, BodyRuns, Delivers, ended, index_of_body, steps_to_body}
use Rattle.delivery.proofs.Deliveries.{call_delivers}
use Rattle.delivery.proofs.Leading.{effects_append}
use Rattle.delivery.proofs.Ready.{Ready}

settle_short : (p : Piece) → length (settle p) ≤ 1
settle_short (Register d) = omega arith
settle_short (Block o w) = omega arith

-- a place is filled by at most 4 instructions
fill_short : (p : Place) (t : Kind) (w : Size) (h : ℕ) → length (fill_pieces t w (pieces p) h) ≤ 4
fill_short (Single low) t w h = let one = settle_short low in simp length-append (omega arith)
fill_short (Double low high) t w h = let one = settle_short low in let two = settle_short high in simp length-append (omega arith)

-- code with at most 4 instructions for a place has at most 4 for each of a list
pub each_short : (code : Holding → ℕ → List Instruction) → ((a : Holding) (h : ℕ) → length (code a h) ≤ 4) → (hs : List Holding) (h : ℕ) → length (each_home code hs h) ≤ 4 * length hs
each_short code short [] h = omega arith
each_short code short (a ∷ hs) h =
    let first = short a h in
    let rest = each_short code short hs (h + home_size) in
    simp length-append (omega arith)

pub fill_all_short : (hs : List Holding) (h : ℕ) → length (fill_all hs h) ≤ 4 * length hs
fill_all_short = each_short fill_place (λ a h. fill_short a.place a.kind a.width h)

-- the steps to the end of some code at the callee's front
abbrev steps_to : List Instruction → List Instruction → ℕ
steps_to before inner = length before + 1 + length inner

-- a run comes to the end of code at the callee's front
comes_to :
    (a b before after inner rest : List Instruction) (x x₁ p : Contents) → Holds a 0 (calling before after) → Holds b 0 (inner ++ rest) → length before + 1 < 2 ^ 32 →
    effects before x ≡ Some x₁ → effects inner (with_reg x₁ 30 (length before + 1)) ≡ Some p → Reaches a b (running Caller 0 x) (steps_to before inner) (length inner) p
comes_to a b before after inner rest x x₁ p h g small e₁ e₂ =
    let n : ℕ = length before in
    let m : ℕ = length inner in
    let first = holds_append before (Call ∷ (after ++ (Halt ∷ []))) a 0 h in
    let front = holds_append inner rest b 0 g in
    let entered : effects inner (with_reg x₁ 30 (0 + n + 1)) ≡ Some p = ap (λ (v : ℕ). effects inner (with_reg x₁ 30 v)) (omega arith) ∙ e₂ in
    let budget : steps_to before inner ≡ n + suc (m + 0) = omega arith in
    let total : n + (1 + (m + 0)) ≡ steps_to before inner = omega arith in
    let end : 0 + m ≡ m = omega arith in
    ap (λ (f : ℕ). runs a b f (running Caller 0 x)) budget
    ∙ straight_line_composes a b Caller before 0 (suc (m + 0)) x x₁ first.0 e₁
    ∙ ap (counted n) (call_step a b (0 + n) (m + 0) x₁ (omega arith) first.1.0
    ∙ ap (counted 1) (straight_line_composes a b Callee inner 0 0 (with_reg x₁ 30 (0 + n + 1)) p front.0 entered))
    ∙ ap (λ (k : ℕ). record { last = running Callee k p; steps = n + (1 + (m + 0)) }) end
    ∙ ap (λ (k : ℕ). record { last = running Callee m p; steps = k }) total

-- it goes through a body that stands between two pieces of straight-line code
goes_through :
    (a b before after inner body rest : List Instruction) (x x₁ p q : Contents) → Holds a 0 (calling before after) → Holds b 0 (inner ++ (body ++ rest)) → length before + 1 < 2 ^ 32 →
    effects before x ≡ Some x₁ → effects inner (with_reg x₁ 30 (length before + 1)) ≡ Some p → effects body p ≡ Some q →
    BodyRuns a b (running Caller 0 x) body (length inner) (length before + 1 + length inner) p q
goes_through a b before after inner body rest x x₁ p q h g small e₁ e₂ e₃ =
    let through : effects (inner ++ body) (with_reg x₁ 30 (length before + 1)) ≡ Some q = effects_append inner body (with_reg x₁ 30 (length before + 1)) p e₂ ∙ e₃ in
    let whole : Holds b 0 ((inner ++ body) ++ rest) = subst (Holds b 0) (sym (append_assoc inner body rest)) g in
    let there = holds_append body rest b (0 + length inner) (holds_append inner (body ++ rest) b 0 g).1 in
    let long : length (inner ++ body) ≡ length inner + length body = length-append inner body in
    let far : steps_to before (inner ++ body) ≡ steps_to before inner + length body = omega (arith, long) in
    record {
      body_lies_in_the_callee_list = subst (λ (k : ℕ). Holds b k body) (omega arith) there.0;
      run_comes_to_the_body = comes_to a b before after inner (body ++ rest) x x₁ p h g small e₁ e₂;
      run_leaves_the_body = subst (λ (k : ℕ). Reaches a b (running Caller 0 x) k (length inner + length body) q) far (subst (λ (k : ℕ). Reaches a b (running Caller 0 x) (steps_to before (inner ++ body)) k q) long (comes_to a b before after (inner ++ body) rest x x₁ q h whole small e₁ through));
    }

-- a call that is ready, in lists that hold its code, with a budget of a step for each instruction: the run ends after so
-- many steps, goes through the body, and delivers
pub run_delivers_through_the_body :
    (args results : List Holding) (kept : ℕ) (body : List Instruction) (b : ℕ) (x : Contents) → Ready args results kept body b x →
    (caller callee : List Instruction) → Holds caller 0 (caller_code args results b) → Holds callee 0 (callee_code args results kept body) →
    (budget : ℕ) → length (caller_code args results b) + length (callee_code args results kept body) ≤ budget →
    (p q y : Contents)
    × (runs caller callee budget (running Caller 0 x) ≡ ended y (length (caller_code args results b) + length (callee_code args results kept body)))
    × BodyRuns caller callee (running Caller 0 x) body (index_of_body args results kept body) (steps_to_body args results kept body b) p q
    × Delivers args results kept body b x p q y
run_delivers_through_the_body args results kept body b x ready caller callee holds holds' budget enough =
    let rs : List ℕ = saved kept body in
    let f : ℕ = frame_bytes args results rs in
    let link : ℕ = length (before_call args b) + 1 in
    let short = fill_all_short args b in
    let small : link < 2 ^ 32 = omega arith in
    let got = call_delivers args results kept body b link x small ready in
    let p : Contents = got.1 in
    let q : Contents = got.2 in
    let inner : List Instruction = before_body args results rs f ++ (body ++ after_body args results rs f) in
    let total : ℕ = length (caller_code args results b) + length (callee_code args results kept body) in
    let split : budget ≡ total + (budget - total) = omega arith in
    let through =
    effects_append (before_body args results rs f) (body ++ after_body args results rs f) (with_reg got.0 30 link) p got.6 ∙ (effects_append body (after_body args results rs f) p q got.10.body_runs_through ∙ got.7) in (
      p,
      q,
      got.4,
      ap (λ n. runs caller callee n (running Caller 0 x)) split
          ∙ call_of_straight_lines_ends caller callee (before_call args b) (after_call args results b) inner (budget - total) x got.0 got.3 got.4 holds holds' small got.5 through got.8 got.9,
      goes_through caller callee (before_call args b) (after_call args results b) (before_body args results rs f) body (after_body args results rs f ++ (Ret ∷ [])) x got.0 p q holds (subst (Holds callee 0) (append_assoc (before_body args results rs f) (body ++ after_body args results rs f) (Ret ∷ []) ∙ ap (λ (l : List Instruction). before_body args results rs f ++ l) (append_assoc body (after_body args results rs f) (Ret ∷ []))) holds') small got.5 got.6 got.10.body_runs_through,
      got.10,
    )
