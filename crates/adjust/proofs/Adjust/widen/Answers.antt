use Rattle.adjust.proofs.Adjust.widen.Goals as goal

pub returns-clause-means_widen : goal.returns-clause-means_widen
returns-clause-means_widen g c =
    let size = c.in_ok-change.ensures.raises_the_width_to_m in
    (size.0, size.1, rw size.2 at c.new.ensures.means_the_change_in_front)
