use Rattle.std.proofs.Common.{◌≡◌, ℕ, ◌+◌, ◌*◌, [], ◌∷◌, ◌++◌, map, length, List, ap, ◌∙◌, arith}
use Rattle.std.proofs.lemmas.List.{length-map}
use Rattle.machine.specs.declared.Instruction.TheVariants.{Ret}
use Rattle.allocation.specs.States.{state, holding}
use Rattle.delivery.specs.Code.{saved, callee_code, save_all, restore_all, copy_all, fill_all, down, up, home_bytes, before_body, after_body}
use Rattle.emit.proofs.Emits.{appends_then, appends_same, appends_put}
use Rattle.emit.proofs.Same.{framed_code, same_callee}
use Rattle.emit.proofs.Tested.{allowed_short}
use Rattle.emit.proofs.callee.CalleeSideCode.put.Goals as goal

pub put_all-requires-clause-short : goal.put_all-requires-clause-short
put_all-requires-clause-short g c = allowed_short _ _ c.args.self.now.body.now c.requires.allowed

pub returns : goal.returns
returns g c =
    let f = c.args.frame.bytes in
    let a = state g.P.Stage c.args.self.now.arguments.now in
    let r = state g.Q.Stage c.args.self.now.results.now in
    let kept = c.args.self.now.kept.bits in
    let body = c.args.self.now.body.now in
    let hs = map holding c.held-arguments.result.now in
    let ks = map holding c.held.result.now in
    let e = c.held-arguments.ensures.granted_since_opened_in_order in
    let h = c.held.ensures.granted_since_opened_in_order in
    let rs = saved kept body in
    let n : length hs ≡ length c.held-arguments.result.now = length-map c.held-arguments.result.now holding in
    let homes : 8 * length c.held-arguments.result.now ≡ home_bytes (length hs) = omega (arith, n) in
    let words : c.from-words.result ≡ home_bytes (length hs + length ks) = omega (arith, c.from-words.ensures, c.home_bytes.ensures.eight_for_each_place, ap length e, ap length h) in
    let saves = save_all rs (home_bytes (length hs + length ks)) in
    let copies = copy_all f hs 0 in
    let fills = fill_all ks (home_bytes (length hs)) in
    let loads = restore_all rs (home_bytes (length hs + length ks)) in
    let registers = c.requires.its_saved_registers in
    let saved_words = appends_same _ saves _ _ (ap (λ (l : List ℕ). save_all l c.from-words.result) registers ∙ ap (save_all rs) words) c.put_saved.ensures.code_for_each_register in
    let filled = appends_same _ fills _ _ (ap (fill_all ks) homes) c.put_each-2.ensures.code_for_each_place in
    let loaded = appends_same _ loads _ _ (ap (λ (l : List ℕ). restore_all l c.from-words.result) registers ∙ ap (restore_all rs) words) c.put_saved-2.ensures.code_for_each_register in
    let before = before_body hs ks rs f in
    let after = after_body hs ks rs f in
    record {
      the_whole_code =
          appends_same (framed_code hs ks kept body f) (callee_code a.held r.held kept body) _ _ (same_callee hs a.held ks r.held kept body f e h c.requires.its_stack_bytes)
          (appends_then (before ++ (body ++ after)) (Ret ∷ []) _ _ _
          (appends_then before (body ++ after) _ _ _
          (appends_put (down f) _ (saves ++ copies) _ _ _ c.stack_down.ensures.takes_the_bytes c.put.ensures.one_record_more
          (appends_then saves copies _ _ _ saved_words c.put_each.ensures.code_for_each_place))
          (appends_then body after _ _ _ c.put_all.ensures.each_record
          (appends_then fills (loads ++ (up f ∷ [])) _ _ _ filled
          (appends_then loads (up f ∷ []) _ _ _ loaded
          (appends_same _ _ _ _ (ap (λ x. x ∷ []) c.stack_up.ensures.gives_the_bytes_back) c.put-2.ensures.one_record_more)))))
          c.put-3.ensures.one_record_more);
      few_places = omega (arith, n, length-map c.held.result.now holding, ap length e, ap length h, c.held-arguments.ensures.at_most_sixteen, c.held.ensures.at_most_sixteen);
    }
