use Rattle.std.proofs.Common.{◌≡◌, false, [], refl, arith}
use Rattle.std.proofs.lemmas.Grind.{common_steps}
use Rattle.std.specs.Prelude.{replicate}
use Rattle.description.proofs.Naming.{no_marks}
use Rattle.description.proofs.reading.Reading.new.Goals as goal

pub returns : goal.returns
returns c =
    let none : c.new.result.items ≡ [] = grind (arith, common_steps) in
    record {
      nothing_read = record {
        named = [];
        plans_make_the_stages = rw none (refl, refl);
        all_are_named = refl;
        names_free_stages = refl;
        marks = no_marks (replicate 25 false) refl;
        arguments = omega arith;
        results = omega arith;
        kept = omega arith;
        three_at_most = omega arith;
      };
    }
