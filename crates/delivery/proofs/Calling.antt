-- The caller up to the call, and after it.
use Rattle.std.proofs.Common.{◌≡◌, map, ℕ, ◌+◌, ◌^◌, ◌<◌, ◌≤◌, List, [], ◌∷◌, length, get_or, ◌∙◌, arith}
use Rattle.std.specs.List.{AllByRecursion}
use Rattle.machine.specs.Machine.{Contents, reg}
use Rattle.place.specs.Pieces.{Below, EachApart}
use Rattle.place.specs.Holdings.{Holding}
use Rattle.delivery.specs.Code.{home_bytes, fill_all, store_all, down, up, before_call, after_call}
use Rattle.delivery.proofs.Ready.{Sane, Fits, AllPieces, InRegister}
use Rattle.delivery.specs.Delivering.{Returned, ResultByte}
use Rattle.delivery.proofs.Filling.{clear_of, fill_all_lem}
use Rattle.delivery.proofs.Leading.{Leads, leads_then, leads_weaker, Keeps, keeps_then, But}
use Rattle.delivery.proofs.Places.{AllHave, Misses, Clear}
use Rattle.delivery.proofs.Steps.{down_step, up_step}
use Rattle.delivery.proofs.Storing.{store_all_lem}

-- the arguments are in their places, and the block lies at sp
pub record Sent (args : List Holding) (b sp : ℕ) (x y : Contents) : Type 0 where
  pub pointer : reg y 31 ≡ sp
  pub holds : AllHave y sp args x.mem (sp + b)
  pub keeps : Keeps (λ r. But 31 r × AllPieces (Clear r) args) (λ a. AllPieces (Misses sp a) args) x y

pub caller_before :
    (args : List Holding) (b sp : ℕ) (x : Contents) →
    Sane x → sp + b ≡ reg x 31 → AllByRecursion Fits args → EachApart (map (λ x. x.place) args) → AllPieces (Below b) args → b + home_bytes (length args) < 2 ^ 15 → sp + b + home_bytes (length args) ≤ length x.mem → Leads (before_call args b) x (Sent args b sp x)
caller_before args b sp x n s f apart ends near room =
    leads_then (down b ∷ []) (fill_all args b) x (down_step b sp x n (omega arith) s) λ z low.
    let size = low.1.size in
    leads_weaker (fill_all args b) z (fill_all_lem args b b sp x.mem z low.1.sane low.0 f apart ends (omega arith) (omega arith) (omega arith) (λ i l. low.1.mem i tt)) λ y got.
    record {
      pointer = got.1.regs 31 (clear_of 31 args (omega arith) f) ∙ low.0;
      holds = got.0;
      keeps = keeps_then low.1 got.1 (λ r h. h) (λ a h. (tt, h));
    }

-- the results are in their homes, and the stack pointer is b higher
pub record Taken (results : List Holding) (sp b h : ℕ) (m : List ℕ) (c : ℕ) (x y : Contents) : Type 0 where
  pub pointer : reg y 31 ≡ sp + b
  pub returns : Returned results y.mem (sp + h) m c
  pub keeps : Keeps (But 31) (λ i. ResultByte results (sp + h) i → ⊥) x y

returned_same : (hs : List Holding) (n l : List ℕ) (a : ℕ) (m : List ℕ) (c : ℕ) → ((i : ℕ) → get_or l i 0 ≡ get_or n i 0) → Returned hs n a m c → Returned hs l a m c
returned_same [] n l a m c e h = tt
returned_same (g ∷ hs) n l a m c e h = ((λ j q. e (a + j) ∙ h.0 j q), returned_same hs n l (a + 8) m (c + 8) e h.1)

pub caller_after :
    (args results : List Holding) (b sp sp' : ℕ) (m : List ℕ) (c : ℕ) (x : Contents) →
    Sane x → reg x 31 ≡ sp → sp + b < 2 ^ 32 → AllByRecursion Fits results → AllPieces InRegister results → b + home_bytes (length args) + home_bytes (length results) < 2 ^ 15 → sp + (b + home_bytes (length args)) + home_bytes (length results) ≤ length x.mem → AllHave x sp' results m c →
    Leads (after_call args results b) x (Taken results sp b (b + home_bytes (length args)) m c x)
caller_after args results b sp sp' m c x n s small f only near room has =
    let h : ℕ = b + home_bytes (length args) in
    leads_then (store_all results h) (up b ∷ []) x (store_all_lem results sp h sp' m c x n s f only (omega arith) room has) λ z got.
    leads_weaker (up b ∷ []) z (up_step b sp z got.1.sane (omega arith) (got.1.regs 31 tt ∙ s) small) λ y high.
    record {
      pointer = high.0;
      returns = returned_same results z.mem y.mem (sp + h) m c (λ i. high.1.mem i tt) got.0;
      keeps = keeps_then got.1 high.1 (λ r q. (tt, q)) (λ i q. (q, tt));
    }
