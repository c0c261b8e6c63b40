-- A value's type with the place that it was granted.
use Rattle.values.specs.declared.kinds.Kind.{Kind}
use Rattle.values.specs.declared.sizes.Size.{Size}
use Rattle.place.specs.declared.pieces.Place.{Place}

pub record Holding : Type 0 where
  pub kind : Kind
  pub width : Size
  pub place : Place
