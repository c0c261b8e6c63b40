use Rattle.std.proofs.Common.{◌≡◌, ℕ, ◌+◌, ◌*◌, [], ◌∷◌, ◌++◌, map, length, sym, refl, ap, arith}
use Rattle.std.proofs.lemmas.List.{length-map}
use Rattle.machine.specs.declared.Instruction.TheVariants.{Call, Halt}
use Rattle.allocation.specs.States.{state, holding}
use Rattle.delivery.specs.Code.{caller_code, fill_all, store_all, down, up, home_bytes}
use Rattle.emit.specs.Coding.{block_bytes}
use Rattle.emit.proofs.Emits.{appends_then, appends_same, appends_put}
use Rattle.emit.proofs.Same.{same_caller}
use Rattle.emit.proofs.caller.CallerSideCode.put.Goals as goal

pub returns : goal.returns
returns g c =
    let b = c.args.frame.bytes in
    let a = state g.P.Stage c.args.self.now.arguments.now in
    let r = state g.Q.Stage c.args.self.now.results.now in
    let hs = map holding c.held-arguments.result.now in
    let ks = map holding c.held.result.now in
    let fills = fill_all hs b in
    let stores = store_all ks (b + home_bytes (length hs)) in
    let long : b + 8 * length c.held-arguments.result.now ≡ b + home_bytes (length hs) = ap (λ (n : ℕ). b + 8 * n) (sym (length-map c.held-arguments.result.now holding)) in
    let stored = appends_same _ stores _ _ (ap (store_all ks) long) c.put_each-2.ensures.code_for_each_place in
    let rest = (stores ++ (up b ∷ [])) ++ (Halt ∷ []) in
    record {
      the_whole_code =
          appends_same (caller_code hs ks b) (caller_code a.held r.held (block_bytes a)) _ _ (same_caller hs a.held ks r.held b (block_bytes a) c.held-arguments.ensures.granted_since_opened_in_order c.held.ensures.granted_since_opened_in_order c.requires.its_stack_bytes)
          (appends_put (down b) _ (fills ++ (Call ∷ rest)) _ _ _ c.stack_down.ensures.takes_the_bytes c.put.ensures.one_record_more
          (appends_then fills (Call ∷ rest) _ _ _ c.put_each.ensures.code_for_each_place
          (appends_put Call _ rest _ _ _ refl c.put-2.ensures.one_record_more
          (appends_then (stores ++ (up b ∷ [])) (Halt ∷ []) _ _ _
          (appends_then stores (up b ∷ []) _ _ _ stored (appends_same _ _ _ _ (ap (λ x. x ∷ []) c.stack_up.ensures.gives_the_bytes_back) c.put-3.ensures.one_record_more))
          c.put-4.ensures.one_record_more))));
      few_places =
          omega (arith, length-map c.held-arguments.result.now holding, length-map c.held.result.now holding, ap length c.held-arguments.ensures.granted_since_opened_in_order, ap length c.held.ensures.granted_since_opened_in_order, c.held-arguments.ensures.at_most_sixteen, c.held.ensures.at_most_sixteen);
    }
