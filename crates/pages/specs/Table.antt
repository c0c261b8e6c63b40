-- The eight stage words: what each is written as, and what follows it.
use Rattle.std.specs.Prelude.{◌≡◌, ℕ, List, [], ◌∷◌, Option, codes}
use Rattle.std.specs.List.{find}
use Rattle.std.specs.Str.{bytes_eq}
use Rattle.pages.specs.declared.table.Entry.{Entry}
use Rattle.pages.specs.declared.table.Form.{Form}
use Rattle.pages.specs.declared.table.Form.TheVariants.{Registers, Number, Test, Nothing}
use Rattle.pages.specs.declared.table.StageWord.{StageWord}
use Rattle.pages.specs.declared.table.StageWord.TheVariants.{Count, Bits, Up, Widen, Raise, Choose, Over, Shut}

abbrev pub word_of : StageWord → List ℕ
word_of Count = codes "count"
word_of Bits = codes "bits"
word_of Up = codes "up"
word_of Widen = codes "widen"
word_of Raise = codes "raise"
word_of Choose = codes "choose"
word_of Over = codes "over"
word_of Shut = codes "shut"

-- what stands right after the word
abbrev pub form_of : StageWord → Form
form_of Count = Registers
form_of Bits = Registers
form_of Up = Number
form_of Widen = Number
form_of Raise = Number
form_of Choose = Test
form_of Over = Nothing
form_of Shut = Nothing

-- how many numbers of stages below stand at the end of the line
abbrev pub below_of : StageWord → ℕ
below_of Count = 0
below_of Bits = 0
below_of Up = 0
below_of Widen = 1
below_of Raise = 1
below_of Choose = 2
below_of Over = 2
below_of Shut = 1

abbrev pub stage_words : List StageWord
stage_words = Count ∷ Bits ∷ Up ∷ Widen ∷ Raise ∷ Choose ∷ Over ∷ Shut ∷ []

-- the stage word of a list that a word is
abbrev pub stage_among : List StageWord → List ℕ → Option StageWord
stage_among stages word = find (λ s. bytes_eq (word_of s) word) stages

abbrev pub stage_with : List ℕ → Option StageWord
stage_with = stage_among stage_words

-- an entry says of its stage word what is said here
pub record IsTheEntry (e : Entry) : Type 0 where
  pub its_word : e.word.now ≡ word_of e.stage
  pub its_form : e.parameter ≡ form_of e.stage
  pub its_stages_below : e.below ≡ below_of e.stage
