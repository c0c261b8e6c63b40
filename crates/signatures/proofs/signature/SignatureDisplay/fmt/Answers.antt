use Rattle.std.proofs.Common.{rules, ◌∷◌, sym, codes}
use Rattle.std.proofs.lemmas.Grind.{put_four}
use Rattle.std.specs.List.{flat_map}
use Rattle.values.specs.Types.{word_of}
use Rattle.signatures.proofs.Written.{bytes_in_pieces}
use Rattle.signatures.proofs.signature.SignatureDisplay.fmt.Goals as goal

pub returns-clause-writes : goal.returns-clause-writes
returns-clause-writes g c p o =
    let s = c.args.self.now in
    put_four _ c.args.f.now c.write_str.new.self c.write_types.new.f c.write_str-2.new.self c.write_types-2.new.f s.name.bytes (flat_map (λ t. 32 ∷ word_of t) s.arguments.items) (codes " :") (flat_map (λ t. 32 ∷ word_of t) s.results.items) _
    (search rules) (search rules) (search rules) (search rules) (sym (bytes_in_pieces s))
