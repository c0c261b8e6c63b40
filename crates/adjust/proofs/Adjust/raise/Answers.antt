use Rattle.adjust.proofs.Adjust.raise.Goals as goal

pub returns-clause-means_raise : goal.returns-clause-means_raise
returns-clause-means_raise g c =
    let size = c.in_ok-change.ensures.raises_the_alignment_to_m in
    (size.0, size.1, rw size.2 at c.new.ensures.means_the_change_in_front)
