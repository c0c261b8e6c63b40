-- A line that was checked was read by the rules.
use Rattle.std.proofs.Common.{◌≡◌, ℕ, ◌≤◌, List, Some, None, Result, Ok, Err, length, refl, ap}
use Rattle.std.proofs.lemmas.Bool.{le-leb}
use Rattle.texts.specs.Parts.{parts}
use Rattle.pages.specs.Lines.{HasTheForm, line_of}
use Rattle.pages.specs.Rules.{unless, read_line}
use Rattle.pages.specs.declared.faults.Cause.{Cause}
use Rattle.pages.specs.declared.lines.Line.{Line}
use Rattle.pages.proofs.Written.{words_of_its_line}
use Rattle.description.specs.Readings.{Checked, CheckedBytes}
use Rattle.description.specs.declared.reading.Reading.{Reading}

pub has_the_form : (bytes : List ℕ) (l : Line) → line_of (parts 32 bytes) ≡ Some l → HasTheForm l
has_the_form bytes l e = (words_of_its_line (parts 32 bytes) l e).0

pub read_of_checked : (before : List Line) (bytes : List ℕ) (l : Line) (result : Result (Unit {0}) Cause) (r : Reading) → length bytes ≤ 120 → line_of (parts 32 bytes) ≡ Some l → Checked before l result r → CheckedBytes before bytes result r
read_of_checked before bytes l (Ok u) r m e h = (l, rw (le-leb (length bytes) 120 m, e) (ap (λ o. unless o l) h.0), h.1)
read_of_checked before bytes l (Err cause) r m e h = rw (le-leb (length bytes) 120 m, e) (ap (λ o. unless o l) h)

pub not_read : (before : List Line) (bytes : List ℕ) → length bytes ≤ 120 → line_of (parts 32 bytes) ≡ None → read_line before bytes ≡ Err 2
not_read before bytes m e = rw (le-leb (length bytes) 120 m, e) refl
