-- Where a fault comes from, and how it is written.
use Rattle.std.specs.Prelude.{ℕ, List, ◌++◌, codes, decimal}
use Rattle.origins.specs.declared.Layer.{Layer}
use Rattle.origins.specs.declared.Layer.TheVariants.{Texts, Placing, Code, Run}
use Rattle.origins.specs.declared.Origin.{Origin}

-- a fault: the layer that it comes from, its number, and where it is, which is a line, a count of places held, an index in
-- a body, or 0
pub record Fault : Type 0 where
  pub layer : ℕ
  pub number : ℕ
  pub position : ℕ

-- the number of each layer, from what is written down to what is run
abbrev pub layer_number : Layer → ℕ
layer_number Texts = 1
layer_number Placing = 2
layer_number Code = 3
layer_number Run = 4

-- the fault that an origin tells of
abbrev pub fault_from : Origin → Fault
fault_from o = record { layer = layer_number o.layer; number = o.number; position = o.position }

-- how a fault is written
abbrev pub fault_text : Fault → List ℕ
fault_text f = codes "fault " ++ decimal f.number ++ codes " at " ++ decimal f.position
