use Rattle.std.proofs.Common.{[], sym, refl, ap, ◌∙◌}
use Rattle.histories.proofs.Hearing.{reopened_heard}
use Rattle.histories.proofs.Leaving.{freshly}
use Rattle.histories.proofs.Twins.{equal_answers}
use Rattle.histories.specs.Events.{used_of}
use Rattle.histories.specs.Histories.{answers}
use Rattle.histories.proofs.plays.place_alike.Goals as goal

pub returns : goal.returns
returns g c =
    let one = used_of g.P.Stage c.args.first in
    let other = used_of g.Q.Stage c.args.second in
    let since = c.args.since.now in
    let fresh = freshly one _ _ _ c.play.ensures.becomes_by_the_rules c.freeze.ensures.pile_and_held_places_stay c.reopen-one.ensures.newly_opened in
    let fresh' = freshly other _ _ _ c.play-2.ensures.becomes_by_the_rules c.freeze-2.ensures.pile_and_held_places_stay c.reopen-other.ensures.newly_opened in
    let first = ap (λ s. answers s since) fresh in
    let second = ap (λ s. answers s since) fresh' in
    let equal = equal_answers one.profile other.profile in
    let so = c.place_each.ensures.whether_the_answers_are_equal in
    record {
      every_answer_of_the_first_is_heard = reopened_heard g.L.Listener.hears one since _ _ _ _ fresh c.play.ensures.every_answer_is_heard c.place_each.ensures.answers_of_one_are_heard;
      every_answer_of_the_second_is_heard = reopened_heard g.M.Listener.hears other since _ _ _ _ fresh' c.play-2.ensures.every_answer_is_heard c.place_each.ensures.answers_of_the_other_are_heard;
      whether_the_answers_since_are_equal = (λ yes. sym first ∙ so.0 yes ∙ second, λ same. so.1 (first ∙ same ∙ sym second));
      equal_requests_get_equal_answers = equal;
      true_where_the_piles_agree = λ alike. so.1 (first ∙ equal alike [] [] refl since ∙ sym second);
    }
