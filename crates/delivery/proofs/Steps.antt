-- What one instruction leads to.
use Rattle.std.proofs.Common.{◌≡◌, ℕ, zero, suc, ◌+◌, ◌%◌, ◌^◌, ◌<◌, ◌≤◌, Bool, true, ltb, leb, [], ◌∷◌, length, get_or, set, ℤ, pos, neg_ℤ, Some, sym, refl, ap, ◌∙◌, subst, inl, inr, mod-eq_of_lt, arith, w32, of_z}
use Rattle.std.proofs.lemmas.List.{get_or-set_same, get_or-set_other, length-set}
use Rattle.std.proofs.lemmas.Bool.{cases_eq, lt-ltb, le-leb}
use Rattle.machine.proofs.Frames.{length_stored, stored_other}
use Rattle.machine.specs.Laws.{and_then, effects}
use Rattle.machine.specs.Machine.{Contents, effect, reg, with_reg, bytes_of, stored, loaded}
use Rattle.machine.specs.declared.Instruction.{Instruction}
use Rattle.machine.specs.declared.Instruction.TheVariants.{Load, Store}
use Rattle.machine.specs.declared.Width.{Width}
use Rattle.delivery.specs.Code.{offset, down, up}
use Rattle.delivery.proofs.Ready.{Sane}
use Rattle.delivery.specs.Widening.{byte_of}
use Rattle.delivery.proofs.Leading.{Leads, Keeps, Every, But, Beside}
use Rattle.delivery.proofs.Memory.{stored_byte, stored_bytes}
use Rattle.delivery.proofs.Widths.{loaded_below}

pub set_keeps : (x : Contents) (d v : ℕ) → Sane x → d < 32 → v < 2 ^ 32 → Keeps (But d) Every x (with_reg x d v)
set_keeps x d v s h l =
    let count : length (set x.regs d v) ≡ 32 = length-set x.regs d v ∙ s.registers_are_32 in
    let within : d < length x.regs = omega (arith, s.registers_are_32) in
    record {
      regs = λ r n. get_or-set_other x.regs d r v 0 n;
      mem = λ a n. refl;
      size = refl;
      sane = record {
        registers_are_32 = count;
        registers_have_32_bits = λ r. elim (cases_eq r d) [
          | inl e ↦ let got : get_or (set x.regs d v) r 0 ≡ v = ap (λ n. get_or (set x.regs d v) n 0) e ∙ get_or-set_same x.regs d v 0 within in omega arith
          | inr n ↦ let same : get_or (set x.regs d v) r 0 ≡ reg x r = get_or-set_other x.regs d r v 0 n in omega (arith, s.registers_have_32_bits r)
        ];
        bytes_have_8_bits = s.bytes_have_8_bits;
      };
    }

-- an offset of 15 bits is whole
offset_whole : (n : ℕ) → n < 2 ^ 15 → offset n ≡ pos n
offset_whole n h = ap pos (mod-eq_of_lt h)

-- an instruction that sets a register
pub set_step : (i : Instruction) (x : Contents) (d v : ℕ) → Sane x → d < 32 → v < 2 ^ 32 → effect i x ≡ Some (with_reg x d v) → Leads (i ∷ []) x (λ y. (reg y d ≡ v) × Keeps (But d) Every x y)
set_step i x d v s h l e =
    let within : d < length x.regs = omega (arith, s.registers_are_32) in
    (with_reg x d v, ap (λ o. and_then o (effects [])) e, (get_or-set_same x.regs d v 0 within, set_keeps x d v s h l))

-- a load at offset o from the stack pointer puts what lies at a into register d
abbrev Loads : ℤ → ℕ → ℕ → Width → Bool → Contents → Type 0
Loads o d a w b x = Leads (Load d 31 o w b ∷ []) x (λ y. (reg y d ≡ loaded x.mem a w b) × Keeps (But d) Every x y)

-- a load from above the stack pointer
pub load_step : (sp d h : ℕ) (w : Width) (b : Bool) (x : Contents) → Sane x → reg x 31 ≡ sp → d < 32 → sp + h + bytes_of w ≤ length x.mem → Loads (pos h) d (sp + h) w b x
load_step sp d h w b x s e l room =
    let t : ltb d 32 ≡ true = lt-ltb d 32 l in
    let u : leb (sp + h + bytes_of w) (length x.mem) ≡ true = le-leb (sp + h + bytes_of w) (length x.mem) room in
    let v : ℕ = loaded x.mem (sp + h) w b in
    let made : effect (Load d 31 (pos h) w b) x ≡ Some (with_reg x d v) = rw (t, e, u) in
    set_step (Load d 31 (pos h) w b) x d v s l (loaded_below w b x.mem (sp + h) s.bytes_have_8_bits) made

-- the same, by an offset in 15 bits
pub load_offset : (sp d h : ℕ) (w : Width) (b : Bool) (x : Contents) → Sane x → reg x 31 ≡ sp → d < 32 → h < 2 ^ 15 → sp + h + bytes_of w ≤ length x.mem → Loads (offset h) d (sp + h) w b x
load_offset sp d h w b x s e l near room = subst (λ (o : ℤ). Loads o d (sp + h) w b x) (sym (offset_whole h near)) (load_step sp d h w b x s e l room)

store_keeps : (x : Contents) (a k v : ℕ) → Sane x → a + k ≤ length x.mem → Keeps Every (Beside a k) x (record { regs = x.regs; mem = stored x.mem a k v })
store_keeps x a k v s room =
    record {
      regs = λ r n. refl;
      mem = λ j n. stored_other k x.mem a v j n;
      size = length_stored k x.mem a v;
      sane = record {
        registers_are_32 = s.registers_are_32;
        registers_have_32_bits = s.registers_have_32_bits;
        bytes_have_8_bits = stored_bytes k x.mem a v s.bytes_have_8_bits room;
      };
    }

-- a store at offset o from the stack pointer puts bytes of register r to a
abbrev Stores : ℤ → ℕ → ℕ → Width → Contents → Type 0
Stores o r a w x = Leads (Store r 31 o w ∷ []) x (λ y. ((i : ℕ) → i < bytes_of w → get_or y.mem (a + i) 0 ≡ byte_of (reg x r) i) × Keeps Every (Beside a (bytes_of w)) x y)

-- a store above the stack pointer
pub store_step : (sp r h : ℕ) (w : Width) (x : Contents) → Sane x → reg x 31 ≡ sp → r < 32 → sp + h + bytes_of w ≤ length x.mem → Stores (pos h) r (sp + h) w x
store_step sp r h w x s e l room =
    let t : ltb r 32 ≡ true = lt-ltb r 32 l in
    let u : leb (sp + h + bytes_of w) (length x.mem) ≡ true = le-leb (sp + h + bytes_of w) (length x.mem) room in
    let y : Contents = record { regs = x.regs; mem = stored x.mem (sp + h) (bytes_of w) (reg x r) } in
    let made : effect (Store r 31 (pos h) w) x ≡ Some y = rw (t, e, u) in
    (y, ap (λ o. and_then o (effects [])) made, (λ i k. stored_byte (bytes_of w) i x.mem (sp + h) (reg x r) k room, store_keeps x (sp + h) (bytes_of w) (reg x r) s room))

-- the same, by an offset in 15 bits
pub store_offset : (sp r h : ℕ) (w : Width) (x : Contents) → Sane x → reg x 31 ≡ sp → r < 32 → h < 2 ^ 15 → sp + h + bytes_of w ≤ length x.mem → Stores (offset h) r (sp + h) w x
store_offset sp r h w x s e l near room = subst (λ (o : ℤ). Stores o r (sp + h) w x) (sym (offset_whole h near)) (store_step sp r h w x s e l room)

-- an ADDI that does not wrap
lowered : (n sp v : ℕ) → sp + n ≡ v → v < 2 ^ 32 → (v + of_z w32 (neg_ℤ (pos n))) % 2 ^ 32 ≡ sp
lowered zero sp v h l = omega arith
lowered (suc n) sp v h l = omega arith

raised : (n sp : ℕ) → sp + n < 2 ^ 32 → (sp + of_z w32 (pos n)) % 2 ^ 32 ≡ sp + n
raised n sp h = omega arith

-- the stack pointer goes down by n bytes
pub down_step : (n sp : ℕ) (x : Contents) → Sane x → n < 2 ^ 15 → sp + n ≡ reg x 31 → Leads (down n ∷ []) x (λ y. (reg y 31 ≡ sp) × Keeps (But 31) Every x y)
down_step n sp x s near e =
    let small = s.registers_have_32_bits 31 in
    let sum : (reg x 31 + of_z w32 (neg_ℤ (offset n))) % 2 ^ 32 ≡ sp = ap (λ o. (reg x 31 + of_z w32 (neg_ℤ o)) % 2 ^ 32) (offset_whole n near) ∙ lowered n sp (reg x 31) e small in
    let made : effect (down n) x ≡ Some (with_reg x 31 sp) = ap (λ v. Some (with_reg x 31 v)) sum in
    set_step (down n) x 31 sp s (omega arith) (omega arith) made

-- the stack pointer goes up by n bytes
pub up_step : (n sp : ℕ) (x : Contents) → Sane x → n < 2 ^ 15 → reg x 31 ≡ sp → sp + n < 2 ^ 32 → Leads (up n ∷ []) x (λ y. (reg y 31 ≡ sp + n) × Keeps (But 31) Every x y)
up_step n sp x s near e l =
    let sum : (reg x 31 + of_z w32 (offset n)) % 2 ^ 32 ≡ sp + n = ap (λ o. (reg x 31 + of_z w32 o) % 2 ^ 32) (offset_whole n near) ∙ (ap (λ v. (v + of_z w32 (pos n)) % 2 ^ 32) e ∙ raised n sp l) in
    let made : effect (up n) x ≡ Some (with_reg x 31 (sp + n)) = ap (λ v. Some (with_reg x 31 v)) sum in
    set_step (up n) x 31 (sp + n) s (omega arith) l made
