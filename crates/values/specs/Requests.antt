-- Requests that are changed on their way.
use Rattle.values.specs.Sizes.{larger_of}
use Rattle.values.specs.declared.sizes.Size.{Size}
use Rattle.values.specs.declared.requests.Request.{Request}

abbrev pub widened : Size → Request → Request
widened m r = record { kind = r.kind; width = larger_of m r.width; alignment = r.alignment }

abbrev pub raised : Size → Request → Request
raised m r = record { kind = r.kind; width = r.width; alignment = larger_of m r.alignment }
