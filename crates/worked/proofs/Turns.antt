-- What is left of a list of lines.
use Rattle.std.proofs.Common.{◌≡◌, List}
use Rattle.allocation.specs.States.{State}
use Rattle.histories.specs.Histories.{answers}
use Rattle.worked.specs.Trials.{Line, asks, expects}

abbrev pub AsExpected : State → List Line → Type 0
AsExpected s ls = answers s (asks ls) ≡ expects ls
