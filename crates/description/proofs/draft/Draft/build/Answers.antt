use Rattle.std.proofs.Common.{◌≡◌, ◌≤◌, ◌∷◌, length, arith}
use Rattle.std.proofs.lemmas.Grind.{common_steps}
use Rattle.description.proofs.Building.{building_begins, building_goes_on, below_free, below_taken, room_for_it, is_there}
use Rattle.description.proofs.draft.Draft.build.Goals as goal

pub loop-plan-init : goal.loop-plan-init
loop-plan-init c =
    let few : length c.args.self.planned.items ≤ 24 = grind (arith, common_steps) in
    (tt, tt, λ all names m. rw c.into_iter-plan-iterator.ensures.into_iter_gives.0 (building_begins _ all names _ few c.new-stages.ensures.no_stage_yet m))

pub loop-plan-preserved : goal.loop-plan-preserved
loop-plan-preserved c =
    let step : c.loop-plan.plan-iterator ≡ c.in-Some.field-0 ∷ c.next.new.self = grind (arith, common_steps) in (
      tt,
      tt,
      λ all names m.
          let h = rw step at c.loop-plan.invariant.2 all names m in
          let taken = rw (c.as_slice.ensures.value, c.unwrap-first.ensures) at c.take_all.ensures.free_stages_or_none h.before h.named h.stages_are_built in
          let below = below_taken _ _ _ _ _ h _ _ taken.1 in
          let line = c.count.ensures.as_many_as_stages h.before h.named h.stages_are_built in
          let made = rw line at c.in_ok-pile.ensures.made_of_the_stages_below _ _ in
          building_goes_on _ _ _ _ _ h _ (c.push.ensures.one_stage_more h.before _ _ taken.2 (made below)),
    )

pub unwrap-first-requires : goal.unwrap-first-requires
unwrap-first-requires c =
    let step : c.loop-plan.plan-iterator ≡ c.in-Some.field-0 ∷ c.next.new.self = grind (arith, common_steps) in
    let h = rw step at c.loop-plan.invariant.2 _ _ c.requires.says_something.1.plans_make_the_stages in
    let taken = rw c.as_slice.ensures.value at c.take_all.ensures.free_stages_or_none h.before h.named h.stages_are_built in
    is_there _ _ c.take_all.result (below_free _ _ _ _ _ h) taken

pub build-requires : goal.build-requires
build-requires c =
    let step : c.loop-plan.plan-iterator ≡ c.in-Some.field-0 ∷ c.next.new.self = grind (arith, common_steps) in
    let h = rw step at c.loop-plan.invariant.2 _ _ c.requires.says_something.1.plans_make_the_stages in
    let taken = rw (c.as_slice.ensures.value, c.unwrap-first.ensures) at c.take_all.ensures.free_stages_or_none h.before h.named h.stages_are_built in
    let below = below_taken _ _ _ _ _ h _ _ taken.1 in
    record { the_stages_below_are_there = (_, _, below) }

pub push-requires : goal.push-requires
push-requires c =
    let step : c.loop-plan.plan-iterator ≡ c.in-Some.field-0 ∷ c.next.new.self = grind (arith, common_steps) in
    let h = rw step at c.loop-plan.invariant.2 _ _ c.requires.says_something.1.plans_make_the_stages in
    let taken = rw (c.as_slice.ensures.value, c.unwrap-first.ensures) at c.take_all.ensures.free_stages_or_none h.before h.named h.stages_are_built in
    record { room_for_one_more = omega (arith, taken.2.as_many, room_for_it _ _ _ _ _ h) }
