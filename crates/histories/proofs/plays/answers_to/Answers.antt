use Rattle.std.proofs.Common.{◌++◌, map, length, Some, ap, ◌∙◌, arith}
use Rattle.std.specs.Option.{option_map}
use Rattle.histories.specs.Heard.{heard_of}
use Rattle.histories.specs.Events.{used_of, answers_of_past}
use Rattle.histories.specs.Recording.{heard_by}
use Rattle.histories.proofs.Recorded.{has_all}
use Rattle.histories.proofs.plays.answers_to.Goals as goal

pub returns : goal.returns
returns g c =
    let all = answers_of_past (used_of g.P.Stage c.args.used) in
    let empty = ap (map (option_map heard_of)) c.new.ensures in
    record {
      each_answer_where_there_is_room = λ room.
          has_all heard_by Some g.row.N all _ _ (omega (arith, room, ap length empty)) c.play.ensures.every_answer_is_heard ∙ ap (λ xs. xs ++ map Some all) empty;
    }
