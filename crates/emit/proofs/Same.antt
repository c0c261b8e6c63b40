-- Equal places and equal stack have equal code.
use Rattle.std.proofs.Common.{◌≡◌, ℕ, List, ◌++◌}
use Rattle.machine.specs.Laws.{called}
use Rattle.machine.specs.declared.Instruction.{Instruction}
use Rattle.place.specs.Holdings.{Holding}
use Rattle.delivery.specs.Code.{saved, frame_bytes, before_body, after_body, caller_code, callee_code}

pub same_caller : (a a' r r' : List Holding) (b b' : ℕ) → a ≡ a' → r ≡ r' → b ≡ b' → caller_code a r b ≡ caller_code a' r' b'
same_caller a a' r r' b b' e f h = cc

-- the callee's code with so many bytes of stack
abbrev pub framed_code : List Holding → List Holding → ℕ → List Instruction → ℕ → List Instruction
framed_code a r kept body f = called (before_body a r (saved kept body) f ++ (body ++ after_body a r (saved kept body) f))

pub same_callee : (a a' r r' : List Holding) (kept : ℕ) (body : List Instruction) (f : ℕ) → a ≡ a' → r ≡ r' → f ≡ frame_bytes a' r' (saved kept body) → framed_code a r kept body f ≡ callee_code a' r' kept body
same_callee a a' r r' kept body f e h i = cc
