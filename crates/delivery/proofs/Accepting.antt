-- A body with no fault is accepted.
use Rattle.std.proofs.Common.{◌≡◌, ℕ, ◌+◌, ◌<◌, ◌≤◌, Bool, true, cond, ◌&&◌, eqb, ltb, List, [], ◌∷◌, ℤ, pos, negsuc, Some, None, Option, sym, ◌∙◌, inl, inr, true≢false, arith}
use Rattle.std.proofs.lemmas.Bool.{cases_Bool, and_parts, cond-false, cond-true, ltb-true, leb-true, eqb-true}
use Rattle.std.specs.List.{AllByRecursion}
use Rattle.machine.specs.Machine.{bytes_of}
use Rattle.machine.specs.declared.Instruction.{Instruction}
use Rattle.machine.specs.declared.Instruction.TheVariants.{Set, Mov, Add, Addi, Sign, Load, Store, Call, Ret, Halt}
use Rattle.machine.specs.declared.Width.{Width}
use Rattle.delivery.specs.Bodies.{within_homes, accepts, body_fault}

-- an offset from the stack pointer of w bytes within the homes
abbrev pub WithinHomes : ℕ → ℤ → Width → Type 0
WithinHomes homes (pos k) w = k + bytes_of w ≤ homes
WithinHomes homes (negsuc k) w = ⊥

-- an instruction that a body may have: it writes r0 to r29, reads registers, and moves bytes of the homes alone
abbrev pub Accepted : ℕ → Instruction → Type 0
Accepted homes (Set d n) = d < 30
Accepted homes (Mov d s) = (d < 30) × (s < 32)
Accepted homes (Add d s t) = (d < 30) × (s < 32) × (t < 32)
Accepted homes (Addi d s i) = (d < 30) × (s < 32)
Accepted homes (Sign d s) = (d < 30) × (s < 32)
Accepted homes (Load d b i w s) = (d < 30) × (b ≡ 31) × WithinHomes homes i w
Accepted homes (Store s b i w) = (s < 32) × (b ≡ 31) × WithinHomes homes i w
Accepted homes Call = ⊥
Accepted homes Ret = ⊥
Accepted homes Halt = ⊥

within_homes_lem : (i : ℤ) (homes : ℕ) (w : Width) → within_homes homes i w ≡ true → WithinHomes homes i w
within_homes_lem (pos k) homes w e = leb-true (k + bytes_of w) homes e
within_homes_lem (negsuc k) homes w e = true≢false (sym e)

both_below : (d c s t : ℕ) → (ltb d c && ltb s t) ≡ true → (d < c) × (s < t)
both_below d c s t e = let parts = and_parts (ltb d c) (ltb s t) e in (ltb-true d c parts.0, ltb-true s t parts.1)

-- a register, the stack pointer and an offset
moves : (d c b : ℕ) (i : ℤ) (homes : ℕ) (w : Width) → (ltb d c && (eqb b 31 && within_homes homes i w)) ≡ true → (d < c) × (b ≡ 31) × WithinHomes homes i w
moves d c b i homes w e =
    let parts = and_parts (ltb d c) (eqb b 31 && within_homes homes i w) e in
    let rest = and_parts (eqb b 31) (within_homes homes i w) parts.1 in
    (ltb-true d c parts.0, eqb-true b 31 rest.0, within_homes_lem i homes w rest.1)

is_accepted : (i : Instruction) (homes : ℕ) → accepts homes i ≡ true → Accepted homes i
is_accepted (Set d n) homes e = ltb-true d 30 e
is_accepted (Mov d s) homes e = both_below d 30 s 32 e
is_accepted (Add d s t) homes e =
    let parts = and_parts (ltb d 30) (ltb s 32 && ltb t 32) e in
    let rest = both_below s 32 t 32 parts.1 in
    (ltb-true d 30 parts.0, rest.0, rest.1)
is_accepted (Addi d s i) homes e = both_below d 30 s 32 e
is_accepted (Sign d s) homes e = both_below d 30 s 32 e
is_accepted (Load d b i w s) homes e = moves d 30 b i homes w e
is_accepted (Store s b i w) homes e = moves s 32 b i homes w e
is_accepted Call homes e = true≢false (sym e)
is_accepted Ret homes e = true≢false (sym e)
is_accepted Halt homes e = true≢false (sym e)

-- a search that finds no fault goes on behind an instruction without one
goes_on : (t : Bool) (o : Option ℕ) (i : ℕ) → cond t o (Some i) ≡ None → (t ≡ true) × (o ≡ None)
goes_on t o i e =
    elim (cases_Bool t) [
      | inl h ↦ (h, sym (cond-true t o (Some i) h) ∙ e)
      | inr h ↦
          let some : Some i ≡ None = sym (cond-false t o (Some i) h) ∙ e in
          let never : ◌≡◌ {A = ℕ} 0 1 = cc in
          absurd (omega arith)
    ]

-- a body with no fault, from any index on
pub no_fault_accepted : (is : List Instruction) (homes i : ℕ) → body_fault homes is i ≡ None → AllByRecursion (Accepted homes) is
no_fault_accepted [] homes i e = tt
no_fault_accepted (x ∷ xs) homes i e =
    let found = goes_on (ltb i 256 && accepts homes x) (body_fault homes xs (i + 1)) i e in
    (is_accepted x homes (and_parts (ltb i 256) (accepts homes x) found.0).1, no_fault_accepted xs homes (i + 1) found.1)
