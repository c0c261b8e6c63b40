-- The parts of a call that is ready, one after the other.
use Rattle.std.proofs.Common.{◌≡◌, ℕ, ◌+◌, ◌*◌, ◌^◌, ◌<◌, ◌≤◌, true, false, List, length, sym, ◌∙◌, inr, arith}
use Rattle.std.proofs.ByRecursion.{All-weaker}
use Rattle.std.proofs.lemmas.List.{get_or-set_same}
use Rattle.std.specs.List.{AllByRecursion}
use Rattle.machine.specs.Machine.{Contents, reg, with_reg}
use Rattle.machine.specs.declared.Instruction.{Instruction}
use Rattle.place.specs.Holdings.{Holding}
use Rattle.place.specs.Registers.{has}
use Rattle.delivery.specs.Code.{home_bytes, saved, written, before_call, after_call, before_body, after_body}
use Rattle.delivery.proofs.Ready.{AllPieces, Spares, Ready}
use Rattle.delivery.proofs.Accepting.{Accepted, no_fault_accepted}
use Rattle.delivery.proofs.Bodies.{written_below, body_runs}
use Rattle.delivery.proofs.Called.{Received, callee_before, Answered, callee_after}
use Rattle.delivery.proofs.Calling.{Sent, caller_before, Taken, caller_after}
use Rattle.delivery.proofs.Leading.{Leads, leads_weaker, Keeps, Every, But, Beside}
use Rattle.delivery.proofs.Places.{Carried, all_carried, all_pieces_weaker, Clear, spared_clear, Sound, all_sound, shielded_carried, shielded_but}
use Rattle.delivery.proofs.Saving.{SavedAt, saved_same, saved_kept}
use Rattle.delivery.proofs.Steps.{set_keeps}

-- from x over x₁ and u, which has the link in r30, to p where the body begins; sp is the callee's stack pointer
pub record Begun (args results : List Holding) (kept : ℕ) (body : List Instruction) (b f sp link : ℕ) (x x₁ u p : Contents) : Type 0 where
  pub sent : Sent args b (sp + f) x x₁
  pub linked : reg u 30 ≡ link
  pub keeps : Keeps (But 30) Every x₁ u
  pub received : Received args (saved kept body) (reg x) sp f (home_bytes (length args + length results)) x.mem (sp + f + b) u p

-- from p to q where the body ends
abbrev pub Ran : List Holding → List Holding → List Instruction → ℕ → Contents → Contents → Type 0
Ran args results body sp p q = Keeps (λ r. written r body ≡ false) (Beside sp (home_bytes (length args + length results))) p q

-- from q to x₂ where the callee returns
abbrev pub Replied : List Holding → List Holding → ℕ → List Instruction → ℕ → ℕ → Contents → Contents → Contents → Type 0
Replied args results kept body f sp x q x₂ = Answered results (saved kept body) (reg x) sp f (home_bytes (length args)) q x₂

-- from x₂ to y where the caller goes on
abbrev pub Resumed : List Holding → List Holding → ℕ → ℕ → ℕ → Contents → Contents → Contents → Type 0
Resumed args results b f sp q x₂ y = Taken results (sp + f) b (b + home_bytes (length args)) q.mem (sp + home_bytes (length args)) x₂ y

pub clear_kept : (hs : List Holding) (r : ℕ) → r ≤ 27 → AllPieces (Spares r) hs → AllPieces (Clear r) hs
clear_kept hs r l h = all_pieces_weaker (Spares r) (Clear r) (λ p s. spared_clear p r (λ e. omega arith) s) hs h

pub accepted : {args results : List Holding} {kept : ℕ} {body : List Instruction} {b : ℕ} {x : Contents} → Ready args results kept body b x → AllByRecursion (Accepted (home_bytes (length args + length results))) body
accepted {args} {results} {kept} {body} ready = no_fault_accepted body (home_bytes (length args + length results)) 0 ready.body_has_no_fault

module _ (args results : List Holding) (kept : ℕ) (body : List Instruction) (b f sp : ℕ) (x : Contents)
    (ready : Ready args results kept body b x) (deep : home_bytes (length args + length results) + 4 * length (saved kept body) ≤ f) (near : f + b < 2 ^ 15) (top : sp + f + b ≡ reg x 31) where
  saved_low : AllByRecursion (λ r. r < 28) (saved kept body)
  saved_low = All-weaker (λ r. (r < 28) × (has kept r ≡ true)) (λ r. r < 28) (λ r k. k.0) (saved kept body) (saved_kept kept body)

  pub sends : Leads (before_call args b) x (Sent args b (sp + f) x)
  sends =
      let within = ready.homes_are_within_memory in
      caller_before args b (sp + f) x ready.contents_are_sane top ready.arguments_fit ready.arguments_are_apart ready.block_ends_by_b (omega arith) (omega arith)

  pub begins : (x₁ : Contents) (link : ℕ) → link < 2 ^ 32 → Sent args b (sp + f) x x₁ → Leads (before_body args results (saved kept body) f) (with_reg x₁ 30 link) (Begun args results kept body b f sp link x x₁ (with_reg x₁ 30 link))
  begins x₁ link small sent =
      let u : Contents = with_reg x₁ 30 link in
      let k : Keeps (But 30) Every x₁ u = set_keeps x₁ 30 link sent.keeps.sane (omega arith) small in
      let size : length x₁.mem ≡ length x.mem = sent.keeps.size in
      let within = ready.homes_are_within_memory in
      let rs : List ℕ = saved kept body in
      let carry = all_pieces_weaker Sound (Carried x₁ (sp + f) u (sp + f)) (λ p q. shielded_carried p (But 30) Every (sp + f) x₁ u k (shielded_but p 30 (sp + f) (omega arith) q)) args (all_sound args ready.arguments_fit) in
      let values : AllByRecursion (λ r. reg u r ≡ reg x r) rs =
      All-weaker (λ r. (r < 28) × (has kept r ≡ true)) (λ r. reg u r ≡ reg x r)
      (λ r c. k.regs r (λ e. omega arith) ∙ sent.keeps.regs r ((λ e. omega arith), clear_kept args r (omega arith) (ready.no_argument_has_a_kept_register r c.1))) rs (saved_kept kept body) in
      leads_weaker (before_body args results rs f) u
      (callee_before args results rs (reg x) sp f b x.mem (sp + f + b) u k.sane (sym (k.regs 31 (λ e. omega arith) ∙ sent.pointer)) ready.arguments_fit ready.block_ends_by_b deep near (omega arith) saved_low values
      (all_carried args x₁ (sp + f) u (sp + f) x.mem (sp + f + b) carry sent.holds))
      λ p received. record { sent = sent; linked = get_or-set_same x₁.regs 30 link 0 (omega (arith, sent.keeps.sane.registers_are_32)); keeps = k; received = received }

  module _ (x₁ u p : Contents) (link : ℕ) (begun : Begun args results kept body b f sp link x x₁ u p) where
    begun_size : length p.mem ≡ length x.mem
    begun_size = begun.received.keeps.size ∙ (begun.keeps.size ∙ begun.sent.keeps.size)

    pub runs : Leads body p (Ran args results body sp p)
    runs =
        let within = ready.homes_are_within_memory in
        let size = begun_size in
        body_runs body (home_bytes (length args + length results)) sp p begun.received.keeps.sane begun.received.pointer (accepted ready) ready.body_is_sized (omega arith)

    pub replies : (q : Contents) → Ran args results body sp p q → Leads (after_body args results (saved kept body) f) q (Replied args results kept body f sp x q)
    replies q ran =
        let h : ℕ = home_bytes (length args + length results) in
        let rs : List ℕ = saved kept body in
        let size : length q.mem ≡ length x.mem = ran.size ∙ begun_size in
        let within = ready.homes_are_within_memory in
        let bits = ready.contents_are_sane.registers_have_32_bits in
        let bound : reg x 31 < 2 ^ 32 = bits 31 in
        let pointer : reg q 31 ≡ sp = ran.regs 31 (written_below body 31 h (omega arith) (accepted ready)) ∙ begun.received.pointer in
        let saves : SavedAt q.mem (sp + h) rs (reg x) = saved_same rs p.mem q.mem (sp + h) (reg x) (λ i c d. ran.mem i (inr c)) begun.received.saves in
        let spared : AllByRecursion (λ r. AllPieces (Spares r) results) rs =
        All-weaker (λ r. (r < 28) × (has kept r ≡ true)) (λ r. AllPieces (Spares r) results) (λ r c. ready.no_result_has_a_kept_register r c.1) rs (saved_kept kept body) in
        callee_after args results rs (reg x) sp f q ran.sane pointer (omega arith) ready.results_fit ready.results_are_apart ready.results_travel_in_registers deep (omega arith) (omega arith) saved_low spared bits saves

    pub resumes : (q x₂ : Contents) → Ran args results body sp p q → Replied args results kept body f sp x q x₂ → Leads (after_call args results b) x₂ (Resumed args results b f sp q x₂)
    resumes q x₂ ran replied =
        let within = ready.homes_are_within_memory in
        let bound : reg x 31 < 2 ^ 32 = ready.contents_are_sane.registers_have_32_bits 31 in
        let size : length x₂.mem ≡ length x.mem = replied.keeps.size ∙ (ran.size ∙ begun_size) in
        caller_after args results b (sp + f) (sp + f) q.mem (sp + home_bytes (length args)) x₂ replied.keeps.sane replied.pointer (omega arith) ready.results_fit ready.results_travel_in_registers (omega arith) (omega arith) replied.holds
