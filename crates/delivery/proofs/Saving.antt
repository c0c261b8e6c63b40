-- Registers are saved and loaded back.
use Rattle.std.proofs.Common.{◌≡◌, ℕ, zero, suc, ◌+◌, ◌*◌, ◌^◌, ◌<◌, ◌≤◌, Bool, true, false, cond, ◌&&◌, List, [], ◌∷◌, ◌++◌, length, get_or, sym, refl, ap, ◌∙◌, subst, inl, inr, add_assoc, arith}
use Rattle.std.proofs.ByRecursion.{All-append, All-weaker}
use Rattle.std.proofs.lemmas.List.{length-append}
use Rattle.std.proofs.lemmas.Bool.{cases_eq, and_parts, and_from, cond_both}
use Rattle.std.specs.List.{AllByRecursion}
use Rattle.machine.specs.Machine.{Contents, reg, word}
use Rattle.machine.specs.declared.Instruction.{Instruction}
use Rattle.machine.specs.declared.Instruction.TheVariants.{Load, Store}
use Rattle.machine.specs.declared.Width.TheVariants as Widths
use Rattle.place.specs.Registers.{has}
use Rattle.delivery.specs.Code.{offset, save_all, restore_all, written, saved_below, saved}
use Rattle.delivery.proofs.Ready.{Sane}
use Rattle.delivery.specs.Widening.{byte_of}
use Rattle.delivery.proofs.Leading.{Leads, leads_then, leads_weaker, Keeps, keeps_same, keeps_then, Every, But, Beside}
use Rattle.delivery.proofs.Memory.{word_byte, word_below, same_bytes}
use Rattle.delivery.proofs.Places.{beside_part}
use Rattle.delivery.proofs.Steps.{load_offset, store_offset}

-- words of m from a on have the values that V gives for these registers
abbrev pub SavedAt : List ℕ → ℕ → List ℕ → (ℕ → ℕ) → Type 0
SavedAt m a [] V = Unit {0}
SavedAt m a (r ∷ rs) V = ((i : ℕ) → i < 4 → get_or m (a + i) 0 ≡ byte_of (V r) i) × SavedAt m (a + 4) rs V

pub saved_same : (rs : List ℕ) (m n : List ℕ) (a : ℕ) (V : ℕ → ℕ) → ((i : ℕ) → a ≤ i → i < a + 4 * length rs → get_or n i 0 ≡ get_or m i 0) → SavedAt m a rs V → SavedAt n a rs V
saved_same [] m n a V e h = tt
saved_same (r ∷ rs) m n a V e h = ((λ i l. e (a + i) (omega arith) (omega arith) ∙ h.0 i l), saved_same rs m n (a + 4) V (λ i p q. e i (omega arith) (omega arith)) h.1)

pub save_all_lem :
    (rs : List ℕ) (sp h : ℕ) (V : ℕ → ℕ) (x : Contents) → Sane x → reg x 31 ≡ sp → AllByRecursion (λ r. r < 28) rs → AllByRecursion (λ r. reg x r ≡ V r) rs → h + 4 * length rs ≤ 2 ^ 15 → sp + h + 4 * length rs ≤ length x.mem →
    Leads (save_all rs h) x (λ y. SavedAt y.mem (sp + h) rs V × Keeps Every (Beside (sp + h) (4 * length rs)) x y)
save_all_lem [] sp h V x n s l v near room = (x, refl, (tt, keeps_same n))
save_all_lem (r ∷ rs) sp h V x n s l v near room =
    leads_then (Store r 31 (offset h) Widths.Four ∷ []) (save_all rs (h + 4)) x (store_offset sp r h Widths.Four x n s (omega arith) (omega arith) (omega arith)) λ z put.
    let size = put.1.size in
    let values = All-weaker (λ r. reg x r ≡ V r) (λ r. reg z r ≡ V r) (λ r e. put.1.regs r tt ∙ e) rs v.1 in
    leads_weaker (save_all rs (h + 4)) z (save_all_lem rs sp (h + 4) V z put.1.sane (put.1.regs 31 tt ∙ s) l.1 values (omega arith) (omega arith)) λ y rest. (
      ((λ i q. rest.1.mem (sp + h + i) (inl (omega arith)) ∙ (put.0 i q ∙ ap (λ u. byte_of u i) v.0)), subst (λ (a : ℕ). SavedAt y.mem a rs V) (sym (add_assoc sp h 4)) rest.0),
      keeps_then put.1 rest.1 (λ j q. (tt, tt))
          (λ j q. (beside_part (sp + h) (4 * length (r ∷ rs)) (sp + h) 4 j (omega arith) (omega arith) q, beside_part (sp + h) (4 * length (r ∷ rs)) (sp + (h + 4)) (4 * length rs) j (omega arith) (omega arith) q)),
    )

-- saved registers are loaded back, and registers that have their values keep them
pub restore_all_lem :
    (rs : List ℕ) (sp h : ℕ) (V : ℕ → ℕ) (x : Contents) → Sane x → reg x 31 ≡ sp → AllByRecursion (λ r. r < 28) rs → ((r : ℕ) → V r < 2 ^ 32) → h + 4 * length rs ≤ 2 ^ 15 → sp + h + 4 * length rs ≤ length x.mem → SavedAt x.mem (sp + h) rs V →
    Leads (restore_all rs h) x (λ y. AllByRecursion (λ r. reg y r ≡ V r) rs × ((r : ℕ) → reg x r ≡ V r → reg y r ≡ V r) × Keeps (λ r. AllByRecursion (λ d. But d r) rs) Every x y)
restore_all_lem [] sp h V x n s l b near room at = (x, refl, (tt, (λ r e. e), keeps_same n))
restore_all_lem (r ∷ rs) sp h V x n s l b near room at =
    leads_then (Load r 31 (offset h) Widths.Four false ∷ []) (restore_all rs (h + 4)) x (load_offset sp r h Widths.Four false x n s (omega arith) (omega arith) (omega arith)) λ z got.
    let size = got.1.size in
    let small = n.bytes_have_8_bits in
    let value : reg z r ≡ V r = got.0 ∙ same_bytes 4 (word x.mem (sp + h) 4) (V r) (word_below 4 x.mem (sp + h) small) (b r) (λ i q. word_byte 4 i x.mem (sp + h) small q ∙ at.0 i q) in
    let stays : (d : ℕ) → reg x d ≡ V d → reg z d ≡ V d = λ d e. elim (cases_eq d r) [ inl q ↦ subst (λ (c : ℕ). reg z c ≡ V c) (sym q) value | inr q ↦ got.1.regs d q ∙ e ] in
    let there : SavedAt z.mem (sp + (h + 4)) rs V =
    saved_same rs x.mem z.mem (sp + (h + 4)) V (λ i p q. got.1.mem i tt) (subst (λ (a : ℕ). SavedAt x.mem a rs V) (add_assoc sp h 4) at.1) in
    leads_weaker (restore_all rs (h + 4)) z (restore_all_lem rs sp (h + 4) V z got.1.sane (got.1.regs 31 (λ q. omega arith) ∙ s) l.1 b (omega arith) (omega arith) there) λ y rest.
    ((rest.1 r value, rest.0), (λ d e. rest.1 d (stays d e)), keeps_then got.1 rest.2 (λ c q. q) (λ a q. (tt, tt)))

-- a saved register is below n, and kept
below_kept : (n kept : ℕ) (body : List Instruction) → AllByRecursion (λ r. (r < n) × (has kept r ≡ true)) (saved_below n kept body)
below_kept zero kept body = tt
below_kept (suc k) kept body =
    let P : ℕ → Type 0 = λ r. (r < suc k) × (has kept r ≡ true) in
    let test : Bool = has kept k && written k body in
    All-append P (saved_below k kept body) (cond test (k ∷ []) [])
    (All-weaker (λ r. (r < k) × (has kept r ≡ true)) P (λ r h. (omega arith, h.1)) (saved_below k kept body) (below_kept k kept body))
    (cond_both test (k ∷ []) [] (AllByRecursion P) (λ e. ((omega arith, (and_parts (has kept k) (written k body) e).0), tt)) (λ e. tt))

all_parts : {X : Type 0} (P : X → Type 0) (xs ys : List X) → AllByRecursion P (xs ++ ys) → AllByRecursion P xs × AllByRecursion P ys
all_parts P [] ys h = (tt, h)
all_parts P (x ∷ xs) ys h = let rest = all_parts P xs ys h.1 in ((h.0, rest.0), rest.1)

-- every kept register below n that the body writes is saved
below_every : (P : ℕ → Type 0) (n kept : ℕ) (body : List Instruction) → AllByRecursion P (saved_below n kept body) → (r : ℕ) → r < n → has kept r ≡ true → written r body ≡ true → P r
below_every P zero kept body h r l k w = absurd (omega arith)
below_every P (suc j) kept body h r l k w =
    let test : Bool = has kept j && written j body in
    let parts = all_parts P (saved_below j kept body) (cond test (j ∷ []) []) h in
    elim (cases_eq r j) [
      | inl e ↦
          let both : test ≡ true = subst (λ (c : ℕ). (has kept c && written c body) ≡ true) e (and_from (has kept r) (written r body) k w) in
          let last : AllByRecursion P (j ∷ []) = subst (λ (b : Bool). AllByRecursion P (cond b (j ∷ []) [])) both parts.1 in
          subst P (sym e) last.0
      | inr d ↦ below_every P j kept body parts.0 r (omega arith) k w
    ]

below_few : (n kept : ℕ) (body : List Instruction) → length (saved_below n kept body) ≤ n
below_few zero kept body = omega arith
below_few (suc k) kept body =
    let rest = below_few k kept body in
    let test : Bool = has kept k && written k body in
    let one : length (cond test (k ∷ []) []) ≤ 1 = cond_both test (k ∷ []) [] (λ rs. length rs ≤ 1) (λ e. omega arith) (λ e. omega arith) in
    simp length-append (omega arith)

-- the same of the registers that the callee saves, those below 28
pub saved_kept : (kept : ℕ) (body : List Instruction) → AllByRecursion (λ r. (r < 28) × (has kept r ≡ true)) (saved kept body)
unfolding saved
saved_kept kept body = below_kept 28 kept body

pub saved_every : (P : ℕ → Type 0) (kept : ℕ) (body : List Instruction) → AllByRecursion P (saved kept body) → (r : ℕ) → r < 28 → has kept r ≡ true → written r body ≡ true → P r
unfolding saved
saved_every P kept body h r l k w = below_every P 28 kept body h r l k w

pub saved_few : (kept : ℕ) (body : List Instruction) → length (saved kept body) ≤ 28
unfolding saved
saved_few kept body = below_few 28 kept body
