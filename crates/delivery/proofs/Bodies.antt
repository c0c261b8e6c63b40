-- An accepted body is never stuck, and changes only registers that it writes and home bytes.
use Rattle.std.proofs.Common.{◌≡◌, ℕ, ◌+◌, ◌%◌, ◌^◌, ◌<◌, ◌≤◌, Bool, true, false, eqb, ltb, List, [], ◌∷◌, length, ℤ, pos, negsuc, sym, refl, ◌∙◌, subst, arith, w32, of_z}
use Rattle.std.proofs.lemmas.Bool.{eqb-false, ne_eqb, lt-ltb, or_parts, or_from}
use Rattle.std.specs.List.{AllByRecursion}
use Rattle.machine.specs.Machine.{Contents, reg, bytes_of, sign_of}
use Rattle.machine.specs.declared.Instruction.{Instruction}
use Rattle.machine.specs.declared.Instruction.TheVariants.{Set, Mov, Add, Addi, Sign, Load, Store, Call, Ret, Halt}
use Rattle.machine.specs.declared.Width.{Width}
use Rattle.delivery.specs.Code.{writes, written}
use Rattle.delivery.proofs.Ready.{Sane}
use Rattle.delivery.specs.Delivering.{Sized}
use Rattle.delivery.proofs.Accepting.{WithinHomes, Accepted}
use Rattle.delivery.proofs.Leading.{Leads, leads_then, leads_weaker, Keeps, keeps_same, keeps_then, keeps_weaker, Every, But, Beside}
use Rattle.delivery.proofs.Places.{beside_part}
use Rattle.delivery.proofs.Steps.{set_step, load_step, store_step}
use Rattle.delivery.proofs.Widths.{sign_below}

-- an instruction that sets register d changes no other
sets : (i : Instruction) (x : Contents) (d v : ℕ) (N : ℕ → Type 0) → Leads (i ∷ []) x (λ y. (reg y d ≡ v) × Keeps (But d) Every x y) → Leads (i ∷ []) x (Keeps (λ r. eqb d r ≡ false) N x)
sets i x d v N l = leads_weaker (i ∷ []) x l λ y got. keeps_weaker got.1 (λ r e same. eqb-false d r e (sym same)) (λ a n. tt)

body_load :
    (i : ℤ) (d b : ℕ) (w : Width) (g : Bool) (homes sp : ℕ) (x : Contents) → Sane x → reg x 31 ≡ sp → d < 30 → b ≡ 31 → WithinHomes homes i w → sp + homes ≤ length x.mem →
    Leads (Load d b i w g ∷ []) x (Keeps (λ r. eqb d r ≡ false) (Beside sp homes) x)
body_load (pos o) d b w g homes sp x n s p q h room =
    subst (λ (c : ℕ). Leads (Load d c (pos o) w g ∷ []) x (Keeps (λ r. eqb d r ≡ false) (Beside sp homes) x)) (sym q)
    (sets (Load d 31 (pos o) w g) x d _ (Beside sp homes) (load_step sp d o w g x n s (omega arith) (omega arith)))
body_load (negsuc o) d b w g homes sp x n s p q h room = absurd h

body_store :
    (i : ℤ) (d b : ℕ) (w : Width) (homes sp : ℕ) (x : Contents) → Sane x → reg x 31 ≡ sp → d < 32 → b ≡ 31 → WithinHomes homes i w → sp + homes ≤ length x.mem →
    Leads (Store d b i w ∷ []) x (Keeps Every (Beside sp homes) x)
body_store (pos o) d b w homes sp x n s p q h room =
    subst (λ (c : ℕ). Leads (Store d c (pos o) w ∷ []) x (Keeps Every (Beside sp homes) x)) (sym q)
    (leads_weaker (Store d 31 (pos o) w ∷ []) x (store_step sp d o w x n s p (omega arith)) λ y put.
    keeps_weaker put.1 (λ r k. k) (λ a k. beside_part sp homes (sp + o) (bytes_of w) a (omega arith) (omega arith) k))
body_store (negsuc o) d b w homes sp x n s p q h room = absurd h

body_step :
    (i : Instruction) (homes sp : ℕ) (x : Contents) → Sane x → reg x 31 ≡ sp → Accepted homes i → Sized i → sp + homes ≤ length x.mem →
    Leads (i ∷ []) x (Keeps (λ r. writes r i ≡ false) (Beside sp homes) x)
body_step (Set d v) homes sp x n s a z room =
    let t : ltb d 32 ≡ true = lt-ltb d 32 (omega arith) in
    sets (Set d v) x d v (Beside sp homes) (set_step (Set d v) x d v n (omega arith) z (rw t))
body_step (Mov d c) homes sp x n s a z room =
    let t : ltb d 32 ≡ true = lt-ltb d 32 (omega arith) in
    let u : ltb c 32 ≡ true = lt-ltb c 32 a.1 in
    sets (Mov d c) x d (reg x c) (Beside sp homes) (set_step (Mov d c) x d (reg x c) n (omega arith) (n.registers_have_32_bits c) (rw (t, u)))
body_step (Add d c e) homes sp x n s a z room =
    let t : ltb d 32 ≡ true = lt-ltb d 32 (omega arith) in
    let u : ltb c 32 ≡ true = lt-ltb c 32 a.1 in
    let o : ltb e 32 ≡ true = lt-ltb e 32 a.2 in
    let v : ℕ = (reg x c + reg x e) % 2 ^ 32 in
    sets (Add d c e) x d v (Beside sp homes) (set_step (Add d c e) x d v n (omega arith) (omega arith) (rw (t, u, o)))
body_step (Addi d c i) homes sp x n s a z room =
    let t : ltb d 32 ≡ true = lt-ltb d 32 (omega arith) in
    let u : ltb c 32 ≡ true = lt-ltb c 32 a.1 in
    let v : ℕ = (reg x c + of_z w32 i) % 2 ^ 32 in
    sets (Addi d c i) x d v (Beside sp homes) (set_step (Addi d c i) x d v n (omega arith) (omega arith) (rw (t, u)))
body_step (Sign d c) homes sp x n s a z room =
    let t : ltb d 32 ≡ true = lt-ltb d 32 (omega arith) in
    let u : ltb c 32 ≡ true = lt-ltb c 32 a.1 in
    sets (Sign d c) x d (sign_of (reg x c)) (Beside sp homes) (set_step (Sign d c) x d (sign_of (reg x c)) n (omega arith) (sign_below (reg x c)) (rw (t, u)))
body_step (Load d b i w g) homes sp x n s a z room = body_load i d b w g homes sp x n s a.0 a.1 a.2 room
body_step (Store d b i w) homes sp x n s a z room =
    leads_weaker (Store d b i w ∷ []) x (body_store i d b w homes sp x n s a.0 a.1 a.2 room) λ y put. keeps_weaker put (λ r k. tt) (λ j k. k)
body_step Call homes sp x n s a z room = absurd a
body_step Ret homes sp x n s a z room = absurd a
body_step Halt homes sp x n s a z room = absurd a

-- an instruction of a body does not write r30 and r31
writes_below : (i : Instruction) (r homes : ℕ) → 29 < r → Accepted homes i → writes r i ≡ false
writes_below (Set d v) r homes l a = ne_eqb d r (λ e. omega arith)
writes_below (Mov d c) r homes l a = ne_eqb d r (λ e. omega arith)
writes_below (Add d c e) r homes l a = ne_eqb d r (λ e. omega arith)
writes_below (Addi d c i) r homes l a = ne_eqb d r (λ e. omega arith)
writes_below (Sign d c) r homes l a = ne_eqb d r (λ e. omega arith)
writes_below (Load d b i w g) r homes l a = ne_eqb d r (λ e. omega arith)
writes_below (Store d b i w) r homes l a = refl
writes_below Call r homes l a = refl
writes_below Ret r homes l a = refl
writes_below Halt r homes l a = refl

pub written_below : (is : List Instruction) (r homes : ℕ) → 29 < r → AllByRecursion (Accepted homes) is → written r is ≡ false
written_below [] r homes l a = refl
written_below (i ∷ is) r homes l a = or_from (writes r i) (written r is) (writes_below i r homes l a.0) (written_below is r homes l a.1)

pub body_runs :
    (is : List Instruction) (homes sp : ℕ) (x : Contents) → Sane x → reg x 31 ≡ sp → AllByRecursion (Accepted homes) is → AllByRecursion Sized is → sp + homes ≤ length x.mem →
    Leads is x (Keeps (λ r. written r is ≡ false) (Beside sp homes) x)
body_runs [] homes sp x n s a z room = (x, refl, keeps_same n)
body_runs (i ∷ is) homes sp x n s a z room =
    leads_then (i ∷ []) is x (body_step i homes sp x n s a.0 z.0 room) λ y first.
    let size = first.size in
    leads_weaker is y (body_runs is homes sp y first.sane (first.regs 31 (writes_below i 31 homes (omega arith) a.0) ∙ s) a.1 z.1 (omega arith)) λ u rest.
    keeps_then first rest (λ r h. or_parts (writes r i) (written r is) h) (λ j h. (h, h))
