use Rattle.description.proofs.Taking.{one_taken, two_taken}
use Rattle.description.proofs.stages.Stages.take_all.Goals as goal

pub returns-in_ok-take-in-len1 : goal.returns-in_ok-take-in-len1
returns-in_ok-take-in-len1 c =
    record { free_stages_or_none = λ stages named h. one_taken _ c.in-len1.len_at_least c.in-len1.len_below stages named _ _ (c.in_ok-take-in-len1.ensures.a_free_stage_or_none stages named h) }

pub returns-in_ok-second-in-len2 : goal.returns-in_ok-second-in-len2
returns-in_ok-second-in-len2 c =
    record {
      free_stages_or_none = λ stages named h.
          let first = c.in_ok-first-in-len2.ensures.a_free_stage_or_none stages named h in
          two_taken _ c.in-len2.len_at_least c.in-len2.len_below stages named _ _ _ _ first (c.in_ok-second-in-len2.ensures.a_free_stage_or_none stages _ first.2);
    }
