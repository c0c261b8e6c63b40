use Rattle.histories.proofs.After.{lawful_after, lawful_ever}
use Rattle.std.proofs.Common.{sym, ap, ◌∙◌}
use Rattle.std.proofs.lemmas.List.{at_drop_all}
use Rattle.allocation.specs.States.{State, state}
use Rattle.histories.proofs.Leaving.{became_profile}
use Rattle.histories.specs.Events.{became, used_of}
use Rattle.histories.proofs.plays.play.Goals as goal

pub returns-clause-lawful_at_every_moment : goal.returns-clause-lawful_at_every_moment
returns-clause-lawful_at_every_moment g c = lawful_ever (used_of g.P.Stage c.args.used) (g.met.P.Stage.lawful c.args.used.pile)

pub returns-clause-lawful_after_every_past : goal.returns-clause-lawful_after_every_past
returns-clause-lawful_after_every_past g c past = lawful_after (record { profile = g.P.Stage.profile c.args.used.pile; past = past }) (g.met.P.Stage.lawful c.args.used.pile)

pub returns-clause-profile_stays : goal.returns-clause-profile_stays
returns-clause-profile_stays g c =
    let last = sym (at_drop_all (became (state g.P.Stage c.loop-event.allocation)) c.args.used.past.now c.loop-event.event-index c.loop-event-test.false) ∙ c.loop-event.invariant.0 in
    ap (λ (s : State). s.profile) last ∙ became_profile c.args.used.past.now (g.P.Stage.profile c.args.used.pile)
