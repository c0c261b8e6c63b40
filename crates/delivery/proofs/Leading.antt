-- What code leads to, and what it keeps.
use Rattle.std.proofs.Common.{◌≡◌, ℕ, ◌+◌, ◌<◌, ◌≤◌, ◌⊎◌, List, [], ◌∷◌, ◌++◌, length, get_or, Some, refl, ap, ◌∙◌}
use Rattle.machine.proofs.Straight.{split}
use Rattle.machine.specs.Laws.{and_then, effects}
use Rattle.machine.specs.Machine.{Contents, effect, reg}
use Rattle.machine.specs.declared.Instruction.{Instruction}
use Rattle.delivery.proofs.Ready.{Sane}

-- code after code
pub effects_append : (is js : List Instruction) (x y : Contents) → effects is x ≡ Some y → effects (is ++ js) x ≡ effects js y
effects_append [] js x y e = let same : x ≡ y = cc in ap (effects js) same
effects_append (i ∷ is) js x y e =
    let f = split (effect i x) (effects is) y e in
    ap (λ o. and_then o (effects (is ++ js))) f.1 ∙ effects_append is js f.0 y f.2

-- the code has effects from x, and P holds of the contents after it
abbrev pub Leads : List Instruction → Contents → (Contents → Type 0) → Type 0
Leads code x P = (y : Contents) × (effects code x ≡ Some y) × P y

pub leads_then : {P Q : Contents → Type 0} (is js : List Instruction) (x : Contents) → Leads is x P → ((y : Contents) → P y → Leads js y Q) → Leads (is ++ js) x Q
leads_then is js x l f =
    let g = f l.0 l.2 in
    (g.0, effects_append is js x l.0 l.1 ∙ g.1, g.2)

pub leads_weaker : {P Q : Contents → Type 0} (is : List Instruction) (x : Contents) → Leads is x P → ((y : Contents) → P y → Q y) → Leads is x Q
leads_weaker is x l f = (l.0, l.1, f l.0 l.2)

-- nothing more to do
pub leads_end : {P : Contents → Type 0} (is : List Instruction) (x : Contents) → Leads is x P → Leads (is ++ []) x P
leads_end is x l = (l.0, effects_append is [] x l.0 l.1, l.2)

-- from x to y registers in K and bytes in N stay, and y is sane
pub record Keeps (K N : ℕ → Type 0) (x y : Contents) : Type 0 where
  pub regs : (r : ℕ) → K r → reg y r ≡ reg x r
  pub mem : (a : ℕ) → N a → get_or y.mem a 0 ≡ get_or x.mem a 0
  pub size : length y.mem ≡ length x.mem
  pub sane : Sane y

pub keeps_same : {K N : ℕ → Type 0} {x : Contents} → Sane x → Keeps K N x x
keeps_same s = record { regs = λ r k. refl; mem = λ a n. refl; size = refl; sane = s }

pub keeps_weaker : {K N K' N' : ℕ → Type 0} {x y : Contents} → Keeps K N x y → ((r : ℕ) → K' r → K r) → ((a : ℕ) → N' a → N a) → Keeps K' N' x y
keeps_weaker f p q = record { regs = λ r k. f.regs r (p r k); mem = λ a n. f.mem a (q a n); size = f.size; sane = f.sane }

-- what both keep
pub keeps_then : {K N K₁ N₁ K₂ N₂ : ℕ → Type 0} {x y z : Contents} → Keeps K₁ N₁ x y → Keeps K₂ N₂ y z → ((r : ℕ) → K r → K₁ r × K₂ r) → ((a : ℕ) → N a → N₁ a × N₂ a) → Keeps K N x z
keeps_then f g p q =
    record {
      regs = λ r k. g.regs r (p r k).1 ∙ f.regs r (p r k).0;
      mem = λ a n. g.mem a (q a n).1 ∙ f.mem a (q a n).0;
      size = g.size ∙ f.size;
      sane = g.sane;
    }

-- every register, or every byte
abbrev pub Every : ℕ → Type 0
Every r = Unit {0}

-- every register but one
abbrev pub But : ℕ → ℕ → Type 0
But d r = r ≡ d → ⊥

-- a byte beside k bytes from a on
abbrev pub Beside : ℕ → ℕ → ℕ → Type 0
Beside a k j = (j < a) ⊎ (a + k ≤ j)
