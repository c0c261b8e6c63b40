-- Letters are text.
use Rattle.std.proofs.Common.{◌≡◌, ℕ, true, List, [], ◌∷◌, arith}
use Rattle.std.proofs.lemmas.Bool.Decides.{nat_tests}
use Rattle.std.proofs.lemmas.Str.{IsUtf8-from_ascii}
use Rattle.std.proofs.lemmas.Str.Ascii.{IsAscii-nil, IsAscii-cons}
use Rattle.std.specs.Char.{is_ascii_lowercase}
use Rattle.std.specs.List.{list_all}
use Rattle.std.specs.Str.{IsAscii, IsUtf8}
use Rattle.signatures.specs.Signatures.{is_name}

ascii : (w : List ℕ) → list_all is_ascii_lowercase w ≡ true → IsAscii w
ascii [] h = IsAscii-nil
ascii (c ∷ w) h = IsAscii-cons c w (grind (arith, nat_tests, h)) (ascii w (grind (arith, h)))

letters_are_text : (w : List ℕ) → list_all is_ascii_lowercase w ≡ true → IsUtf8 w
letters_are_text w h = IsUtf8-from_ascii w (ascii w h)

pub names_are_text : (w : List ℕ) → is_name w ≡ true → IsUtf8 w
names_are_text w h = letters_are_text w (grind (arith, h))
