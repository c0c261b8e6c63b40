use Rattle.described.specs.PilesLemmas.{alike_built_in}
use Rattle.described.proofs.pile.Pile.same_as_built_in.Goals as goal

pub returns : goal.returns
returns c = record { alike_the_same_stages_built_in = alike_built_in c.args.self.now.tree }
