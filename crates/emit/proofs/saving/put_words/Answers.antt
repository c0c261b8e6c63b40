use Rattle.std.proofs.Common.{◌≡◌, ℕ, ◌+◌, ◌*◌, length, refl, ◌∙◌, ap, arith, rules, tests}
use Rattle.std.proofs.lemmas.Iterator.{YieldsList-from_range}
use Rattle.std.proofs.lemmas.Iterator.Consumers.{YieldsList-at, YieldsList-from_filter, YieldsList-from_enumerate}
use Rattle.std.proofs.lemmas.List.{length_push}
use Rattle.delivery.specs.Code.{each_word}
use Rattle.place.specs.Registers.{has}
use Rattle.emit.specs.Registers.{members, word_code}
use Rattle.emit.proofs.Emits.{words_kept, none_left}
use Rattle.emit.proofs.Saved.{few_members, numbered, all_numbered}
use Rattle.emit.proofs.saving.put_words.Goals as goal

pub overflow_cast-i : goal.overflow_cast-i
unfolding members
overflow_cast-i c =
    let turn = numbered c.args.saved.bits (YieldsList-at c.into_iter-i-iterator.ensures.into_iter_gives (YieldsList-from_enumerate (YieldsList-at c.enumerate-i-items.ensures.source (YieldsList-from_filter _ (has c.args.saved.bits) (YieldsList-at c.filter.ensures.source (YieldsList-from_range 0 28 28 refl refl)) c.filter.ensures.closure (λ x r q k. search (rules, tests)))) c.enumerate-i-items.ensures.count)) c.loop-i.yielded _ c.loop-i.yielded_by _ _ c.next.ensures.steps (c.in-Some.i, c.in-Some.r) c.in-Some.is in
    let few = few_members c.args.saved.bits in
    omega (arith, turn, few)

pub overflow_mul-i : goal.overflow_mul-i
unfolding members
overflow_mul-i c =
    let turn = numbered c.args.saved.bits (YieldsList-at c.into_iter-i-iterator.ensures.into_iter_gives (YieldsList-from_enumerate (YieldsList-at c.enumerate-i-items.ensures.source (YieldsList-from_filter _ (has c.args.saved.bits) (YieldsList-at c.filter.ensures.source (YieldsList-from_range 0 28 28 refl refl)) c.filter.ensures.closure (λ x r q k. search (rules, tests)))) c.enumerate-i-items.ensures.count)) c.loop-i.yielded _ c.loop-i.yielded_by _ _ c.next.ensures.steps (c.in-Some.i, c.in-Some.r) c.in-Some.is in
    let few = few_members c.args.saved.bits in
    omega (arith, turn, few)

pub overflow_add-home : goal.overflow_add-home
unfolding members
overflow_add-home c =
    let turn = numbered c.args.saved.bits (YieldsList-at c.into_iter-i-iterator.ensures.into_iter_gives (YieldsList-from_enumerate (YieldsList-at c.enumerate-i-items.ensures.source (YieldsList-from_filter _ (has c.args.saved.bits) (YieldsList-at c.filter.ensures.source (YieldsList-from_range 0 28 28 refl refl)) c.filter.ensures.closure (λ x r q k. search (rules, tests)))) c.enumerate-i-items.ensures.count)) c.loop-i.yielded _ c.loop-i.yielded_by _ _ c.next.ensures.steps (c.in-Some.i, c.in-Some.r) c.in-Some.is in
    let few = few_members c.args.saved.bits in
    omega (arith, turn, few)

pub put-requires : goal.put-requires
unfolding members
put-requires c =
    let turn = numbered c.args.saved.bits (YieldsList-at c.into_iter-i-iterator.ensures.into_iter_gives (YieldsList-from_enumerate (YieldsList-at c.enumerate-i-items.ensures.source (YieldsList-from_filter _ (has c.args.saved.bits) (YieldsList-at c.filter.ensures.source (YieldsList-from_range 0 28 28 refl refl)) c.filter.ensures.closure (λ x r q k. search (rules, tests)))) c.enumerate-i-items.ensures.count)) c.loop-i.yielded _ c.loop-i.yielded_by _ _ c.next.ensures.steps (c.in-Some.i, c.in-Some.r) c.in-Some.is in
    let few = few_members c.args.saved.bits in
    record { room = omega (arith, turn.0, few, c.loop-i.invariant.few) }

pub loop-i-preserved : goal.loop-i-preserved
unfolding members
loop-i-preserved c =
    let turn = numbered c.args.saved.bits (YieldsList-at c.into_iter-i-iterator.ensures.into_iter_gives (YieldsList-from_enumerate (YieldsList-at c.enumerate-i-items.ensures.source (YieldsList-from_filter _ (has c.args.saved.bits) (YieldsList-at c.filter.ensures.source (YieldsList-from_range 0 28 28 refl refl)) c.filter.ensures.closure (λ x r q k. search (rules, tests)))) c.enumerate-i-items.ensures.count)) c.loop-i.yielded _ c.loop-i.yielded_by _ _ c.next.ensures.steps (c.in-Some.i, c.in-Some.r) c.in-Some.is in
    let code : c.instruction.result ≡ word_code c.args.way c.in-Some.r (c.args.home + 4 * length c.loop-i.yielded) = c.instruction.ensures.whole_register_to_or_from_its_word ∙ ap (λ (n : ℕ). word_code c.args.way c.in-Some.r (c.args.home + 4 * n)) turn.1 in
    rw (length_push c.loop-i.yielded (c.in-Some.i, c.in-Some.r)) (words_kept _ _ _ _ _ _ c.loop-i.invariant _ _ _ turn.0 turn.2 code c.put.ensures.one_record_more)

pub returns : goal.returns
unfolding members
returns c =
    let end = all_numbered c.args.saved.bits (YieldsList-at c.into_iter-i-iterator.ensures.into_iter_gives (YieldsList-from_enumerate (YieldsList-at c.enumerate-i-items.ensures.source (YieldsList-from_filter _ (has c.args.saved.bits) (YieldsList-at c.filter.ensures.source (YieldsList-from_range 0 28 28 refl refl)) c.filter.ensures.closure (λ x r q k. search (rules, tests)))) c.enumerate-i-items.ensures.count)) c.loop-i.yielded _ c.loop-i.yielded_by _ _ c.next.ensures.steps c.in-None.is in
    record {
      code_for_each_register = none_left _ (length c.loop-i.yielded) _ _ _ (λ rs. each_word (word_code c.args.way) rs (c.args.home + 4 * length c.loop-i.yielded)) (members c.args.saved.bits) refl (omega arith) c.loop-i.invariant;
      few = omega (arith, end, few_members c.args.saved.bits, c.loop-i.invariant.few);
    }
