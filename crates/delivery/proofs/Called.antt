-- The callee up to the body, and after it.
use Rattle.std.proofs.Common.{◌≡◌, map, ℕ, ◌+◌, ◌*◌, ◌^◌, ◌<◌, ◌≤◌, List, [], ◌∷◌, ◌++◌, length, refl, ◌∙◌, subst, inr, add-zero, arith}
use Rattle.std.proofs.ByRecursion.{All-weaker}
use Rattle.std.specs.List.{AllByRecursion}
use Rattle.machine.specs.Machine.{Contents, reg}
use Rattle.place.specs.Pieces.{Below, EachApart}
use Rattle.place.specs.Holdings.{Holding}
use Rattle.place.specs.declared.pieces.Piece.{Piece}
use Rattle.place.specs.declared.pieces.Piece.TheVariants.{Register, Block}
use Rattle.delivery.specs.Code.{home_bytes, fill_all, copy_all, save_all, restore_all, down, up, before_body, after_body}
use Rattle.delivery.proofs.Ready.{Sane, Fits, AllPieces, InRegister, Spares}
use Rattle.delivery.specs.Delivering.{Widened}
use Rattle.delivery.proofs.Copying.{copy_all_lem}
use Rattle.delivery.proofs.Filling.{clear_of, fill_all_lem}
use Rattle.delivery.proofs.Leading.{Leads, leads_then, leads_weaker, Keeps, keeps_then, Every, But, Beside}
use Rattle.delivery.proofs.Places.{AllHave, Carried, all_carried, all_pieces_weaker, all_pieces_both, Misses, Clear, Shielded, shielded_carried, shielded_but, shielded_spared, all_spared, Sound, all_sound, register_carried, register_missed, register_ends, beside_part}
use Rattle.delivery.proofs.Saving.{SavedAt, saved_same, save_all_lem, restore_all_lem}
use Rattle.delivery.proofs.Steps.{down_step, up_step}

-- the arguments are in the callee's homes, and the values V of registers rs are saved behind h bytes of homes
pub record Received (args : List Holding) (rs : List ℕ) (V : ℕ → ℕ) (sp f h : ℕ) (m : List ℕ) (c : ℕ) (x y : Contents) : Type 0 where
  pub pointer : reg y 31 ≡ sp
  pub finds : Widened args y.mem sp m c
  pub saves : SavedAt y.mem (sp + h) rs V
  pub keeps : Keeps (λ r. But 28 r × But 31 r) (Beside sp f) x y

-- saving below the block leaves every piece alone
saved_below_lem : (p : Piece) (sp f h k : ℕ) → h + k ≤ f → Shielded Every (Beside (sp + h) k) (sp + f) p
saved_below_lem (Register d) sp f h k l = tt
saved_below_lem (Block o w) sp f h k l = λ i q. inr (omega arith)

-- registers of r0 to r27 that are kept have the same values
values_kept : (rs : List ℕ) (V : ℕ → ℕ) (x y : Contents) → ((r : ℕ) → r < 28 → reg y r ≡ reg x r) → AllByRecursion (λ r. r < 28) rs → AllByRecursion (λ r. reg x r ≡ V r) rs → AllByRecursion (λ r. reg y r ≡ V r) rs
values_kept [] V x y k a b = tt
values_kept (r ∷ rs) V x y k a b = (k r a.0 ∙ b.0, values_kept rs V x y k a.1 b.1)

pub callee_before :
    (args results : List Holding) (rs : List ℕ) (V : ℕ → ℕ) (sp f b : ℕ) (m : List ℕ) (c : ℕ) (x : Contents) →
    Sane x → sp + f ≡ reg x 31 → AllByRecursion Fits args → AllPieces (Below b) args → home_bytes (length args + length results) + 4 * length rs ≤ f → f + b < 2 ^ 15 → sp + f + b ≤ length x.mem →
    AllByRecursion (λ r. r < 28) rs → AllByRecursion (λ r. reg x r ≡ V r) rs → AllHave x (sp + f) args m c →
    Leads (before_body args results rs f) x (Received args rs V sp f (home_bytes (length args + length results)) m c x)
callee_before args results rs V sp f b m c x n s w ends deep near room small values has =
    let h : ℕ = home_bytes (length args + length results) in
    let sounds = all_sound args w in
    leads_then (down f ∷ []) (save_all rs h ++ copy_all f args 0) x (down_step f sp x n (omega arith) s) λ z low.
    let size = low.1.size in
    let carry = all_pieces_weaker Sound (Carried x (sp + f) z (sp + f)) (λ p q. shielded_carried p (But 31) Every (sp + f) x z low.1 (shielded_but p 31 (sp + f) (omega arith) q)) args sounds in
    let kept = values_kept rs V x z (λ r l. low.1.regs r (λ e. omega arith)) small values in
    leads_then (save_all rs h) (copy_all f args 0) z (save_all_lem rs sp h V z low.1.sane low.0 small kept (omega arith) (omega arith)) λ u put.
    let size' = put.1.size in
    let pointer : reg u 31 ≡ sp = put.1.regs 31 tt ∙ low.0 in
    let carry' = all_pieces_weaker Sound (Carried z (sp + f) u (sp + f)) (λ p q. shielded_carried p Every (Beside (sp + h) (4 * length rs)) (sp + f) z u put.1 (saved_below_lem p sp f h (4 * length rs) deep)) args sounds in
    let there = all_carried args z (sp + f) u (sp + f) m c carry' (all_carried args x (sp + f) z (sp + f) m c carry has) in
    leads_weaker (copy_all f args 0) u (copy_all_lem args sp f 0 b m c u put.1.sane pointer w ends (omega arith) near (omega arith) there) λ y copy.
    record {
      pointer = copy.1.regs 31 (λ e. omega arith) ∙ pointer;
      finds = subst (λ (a : ℕ). Widened args y.mem a m c) (add-zero sp) copy.0;
      saves = saved_same rs u.mem y.mem (sp + h) V (λ i p q. copy.1.mem i (inr (omega arith))) put.0;
      keeps = keeps_then low.1 (keeps_then {K = But 28} {N = Beside sp f} put.1 copy.1 (λ r q. (tt, q))
          (λ a q. (beside_part sp f (sp + h) (4 * length rs) a (omega arith) (omega arith) q, beside_part sp f (sp + 0) (home_bytes (length args)) a (omega arith) (omega arith) q)))
          (λ r q. (q.1, q.0)) (λ a q. (tt, q));
    }

-- the results are in their places, registers rs have their values V again, and the stack pointer is f higher
pub record Answered (results : List Holding) (rs : List ℕ) (V : ℕ → ℕ) (sp f h : ℕ) (x y : Contents) : Type 0 where
  pub pointer : reg y 31 ≡ sp + f
  pub holds : AllHave y (sp + f) results x.mem (sp + h)
  pub restored : AllByRecursion (λ r. reg y r ≡ V r) rs
  pub stays : (r : ℕ) → AllPieces (Clear r) results → But 31 r → reg x r ≡ V r → reg y r ≡ V r
  pub keeps : Keeps (λ r. But 31 r × AllPieces (Clear r) results × AllByRecursion (λ d. But d r) rs) Every x y

pub callee_after :
    (args results : List Holding) (rs : List ℕ) (V : ℕ → ℕ) (sp f : ℕ) (x : Contents) →
    Sane x → reg x 31 ≡ sp → sp + f < 2 ^ 32 → AllByRecursion Fits results → EachApart (map (λ x. x.place) results) → AllPieces InRegister results → home_bytes (length args + length results) + 4 * length rs ≤ f → f < 2 ^ 15 → sp + f ≤ length x.mem →
    AllByRecursion (λ r. r < 28) rs → AllByRecursion (λ r. AllPieces (Spares r) results) rs → ((r : ℕ) → V r < 2 ^ 32) → SavedAt x.mem (sp + home_bytes (length args + length results)) rs V →
    Leads (after_body args results rs f) x (Answered results rs V sp f (home_bytes (length args)) x)
callee_after args results rs V sp f x n s top w apart only deep near room small spared below at =
    let home : ℕ = home_bytes (length args) in
    let h : ℕ = home_bytes (length args + length results) in
    let sounds = all_sound results w in
    let ends : AllPieces (Below 0) results = all_pieces_weaker InRegister (Below 0) (λ p i. register_ends p 0 i) results only in
    let missed : (a : ℕ) → AllPieces (Misses sp a) results = λ a. all_pieces_weaker InRegister (Misses sp a) (λ p i. register_missed p sp a i) results only in
    leads_then (fill_all results home) (restore_all rs h ++ (up f ∷ [])) x (fill_all_lem results 0 home sp x.mem x n s w apart ends (omega arith) (omega arith) (omega arith) (λ i l. refl)) λ z got.
    let size = got.1.size in
    let pointer : reg z 31 ≡ sp = got.1.regs 31 (clear_of 31 results (omega arith) w) ∙ s in
    let there = saved_same rs x.mem z.mem (sp + h) V (λ i p q. got.1.mem i (missed i)) at in
    leads_then (restore_all rs h) (up f ∷ []) z (restore_all_lem rs sp h V z got.1.sane pointer small below (omega arith) (omega arith) there) λ u back.
    let unsaved = All-weaker (λ r. r < 28) (λ d. But d 31) (λ d l e. omega arith) rs small in
    let carry = all_pieces_weaker (λ p. AllByRecursion (λ r. Spares r p) rs) (Carried z sp u sp) (λ p q. shielded_carried p (λ r. AllByRecursion (λ d. But d r) rs) Every sp z u back.2 (shielded_spared p rs sp q)) results (all_spared rs results sounds spared) in
    leads_weaker (up f ∷ []) u (up_step f sp u back.2.sane near (back.2.regs 31 unsaved ∙ pointer) top) λ y high.
    let same : (r : ℕ) → r < 28 → reg y r ≡ reg u r = λ r l. high.1.regs r (λ e. omega arith) in
    let carry' = all_pieces_both Sound InRegister (Carried u sp y (sp + f)) (λ p q i. register_carried p u sp y (sp + f) same q i) results sounds only in
    record {
      pointer = high.0;
      holds = all_carried results u sp y (sp + f) x.mem (sp + home) carry' (all_carried results z sp u sp x.mem (sp + home) carry got.0);
      restored = values_kept rs V u y same small back.0;
      stays = λ r c d e. high.1.regs r d ∙ back.1 r (got.1.regs r c ∙ e);
      keeps = keeps_then got.1 (keeps_then {K = λ r. But 31 r × AllByRecursion (λ d. But d r) rs} {N = Every} back.2 high.1 (λ r q. (q.1, q.0)) (λ a q. (tt, tt))) (λ r q. (q.1, (q.0, q.2))) (λ a q. (missed a, tt));
    }
