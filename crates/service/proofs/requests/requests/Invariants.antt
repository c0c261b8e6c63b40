use Rattle.std.proofs.Common.{◌≡◌, take}
use Rattle.service.specs.Services.{requests_of}
use Rattle.service.proofs.requests.requests.Given as goal

-- a request for each type so far
abbrev pub invariant-loop-value : goal.invariant-loop-value
invariant-loop-value g l = l.list.items ≡ requests_of (take l.value-index l.types.items)
