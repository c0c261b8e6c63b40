-- What a record has.
use Rattle.std.specs.Prelude.{ℕ, List, [], ◌∷◌, ◌++◌, map, length, Option, Some, if◌then◌else◌, nat_lt}
use Rattle.std.specs.Option.{option_map}
use Rattle.histories.specs.Heard.{Heard, heard_of}
use Rattle.histories.specs.declared.listeners.Record.{Record}

-- what it heard, as far as there was room
abbrev pub heard_by : {N : ℕ} → Record N → List (Option Heard)
heard_by r = map (option_map heard_of) r.answers.items

-- one answer more, where there is room for it
abbrev pub with_answer : ℕ → List (Option Heard) → Heard → List (Option Heard)
with_answer room heard a = if nat_lt (length heard) room then heard ++ (Some a ∷ []) else heard
