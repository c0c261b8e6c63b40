use Rattle.description.proofs.Building.{adjusted, chosen, closed}
use Rattle.description.proofs.plan.Plan.build.Goals as goal

pub returns-in_ok-adjust-in-Adjust-Some-default : goal.returns-in_ok-adjust-in-Adjust-Some-default
returns-in_ok-adjust-in-Adjust-Some-default c =
    let at = c.in-Adjust-Some-default in
    let made = c.in_ok-adjust-in-Adjust-Some-default in
    record { made_of_the_stages_below = adjusted c.args.line at.change c.args.self c.args.first c.args.second at.below made.field-0 at.is-0 at.is-1 made.ensures.changes_what_goes_below }

pub returns-in_ok-choose-in-Choose-Some-Some : goal.returns-in_ok-choose-in-Choose-Some-Some
returns-in_ok-choose-in-Choose-Some-Some c =
    let at = c.in-Choose-Some-Some in
    let made = c.in_ok-choose-in-Choose-Some-Some in
    record { made_of_the_stages_below = chosen c.args.line at.test c.args.self c.args.first c.args.second at.first at.second made.field-0 at.is-0 at.is-1 at.is-2 made.ensures.chooses_by_the_test }

pub returns-in_ok-shut-in-Shut-Some-default : goal.returns-in_ok-shut-in-Shut-Some-default
returns-in_ok-shut-in-Shut-Some-default c =
    let at = c.in-Shut-Some-default in
    let made = c.in_ok-shut-in-Shut-Some-default in
    record { made_of_the_stages_below = closed c.args.line c.args.self c.args.first c.args.second at.below made.field-0 at.is-0 at.is-1 made.ensures.closes_on_its_line }
