-- The line of a text that a fault blames.
use Rattle.std.specs.Prelude.{◌≡◌, ℕ, zero, suc, List, [], ◌++◌, get_or}
use Rattle.texts.specs.Parts.{parts}
use Rattle.pages.specs.declared.faults.DescriptionFault.{DescriptionFault}
use Rattle.pages.specs.declared.faults.DescriptionFault.TheVariants.{Text, Memory}
use Rattle.allocation.specs.declared.faults.Cause.{Cause}
use Rattle.allocation.specs.declared.faults.Cause.TheVariants.{NotAType, Full, Unsound, Refused}
use Rattle.call_faults.specs.declared.CallFault.{CallFault}
use Rattle.call_faults.specs.declared.CallFault.TheVariants.{Placement, Code, Run}
use Rattle.service.specs.declared.faults.Fault.{Fault}
use Rattle.service.specs.declared.faults.Fault.TheVariants.{Description, Signature, Call}

-- the line with a number, from 1, without its feed; what follows the last feed is a line as well; nothing where there is no such line
abbrev pub line_in : List ℕ → ℕ → List ℕ
line_in text zero = []
line_in text (suc before) = get_or (parts 10 text) before []

-- the line of a description that a fault of it is in
abbrev pub line_described : DescriptionFault → ℕ
line_described (Text c line) = line
line_described Memory = 0

-- the line of the stage that refused; 0 where none did, or a built-in one
abbrev pub line_refusing : Cause → ℕ
line_refusing NotAType = 0
line_refusing Full = 0
line_refusing Unsound = 0
line_refusing (Refused f) = f.line

-- the text that the layer reads: a list for the faults of its signatures, and else the description
abbrev pub text_of : Fault → List ℕ → List ℕ → List ℕ
text_of (Signature f) description list = list
text_of (Description f) description list = description
text_of (Call f) description list = description

-- the line that a fault of a call blames, of the stage that refused; 0 where it is of code or of a run
abbrev pub line_called : CallFault → ℕ
line_called (Placement f) = line_refusing f.cause
line_called (Code f) = 0
line_called (Run f) = 0

-- the number of the line that a fault blames; 0 where it blames none
abbrev pub line_of : Fault → ℕ
line_of (Description f) = line_described f
line_of (Signature f) = f.line
line_of (Call f) = line_called f

abbrev pub culprit_of : Fault → List ℕ → List ℕ → List ℕ
culprit_of f description list = line_in (text_of f description list) (line_of f)

-- a part of a text: it stands between what is before it and what is behind it
abbrev pub PartOf : List ℕ → List ℕ → Type 0
PartOf text part = (before behind : List ℕ) × (before ++ (part ++ behind) ≡ text)

abbrev pub LinesArePartsOfTheirTexts : Type 0
LinesArePartsOfTheirTexts = (text : List ℕ) (n : ℕ) → PartOf text (line_in text n)
