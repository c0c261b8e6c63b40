-- The lines of a page: the words that write each, and the line that words write.
use Rattle.std.specs.Prelude.{◌≡◌, ℕ, ◌<◌, ◌≤◌, cond, List, [], ◌∷◌, ◌++◌, length, map, Option, Some, None, Result, Ok, Err, option_map, nat_eq, nat_le, codes, is_none}
use Rattle.std.specs.List.{find, join_with_byte, AllByRecursion}
use Rattle.std.specs.Option.{option_and_then, option_or}
use Rattle.std.specs.Str.{bytes_eq}
use Rattle.values.specs.Kinds.{letter_of}
use Rattle.values.specs.declared.kinds.Kind.{Kind}
use Rattle.values.specs.declared.kinds.Kind.TheVariants.{Unsigned, Signed, Float, Address}
use Rattle.conditions.specs.Tests.{kinds_fault}
use Rattle.texts.specs.Lists.{all_of, all_of_at_most, listed}
use Rattle.texts.specs.Words.{number_word, register_word, number_of, register_of}
use Rattle.pages.specs.Table.{word_of, form_of, below_of, stage_with}
use Rattle.pages.specs.declared.faults.Cause.{Cause}
use Rattle.pages.specs.declared.faults.Cause.TheVariants as faults
use Rattle.pages.specs.declared.table.Form.{Form}
use Rattle.pages.specs.declared.table.Form.TheVariants as forms
use Rattle.pages.specs.declared.table.StageWord.{StageWord}
use Rattle.pages.specs.declared.lines.Parameter.{Parameter}
use Rattle.pages.specs.declared.lines.Parameter.TheVariants.{Registers, Number, Kinds, Nothing}
use Rattle.pages.specs.declared.lines.StageLine.{StageLine}
use Rattle.pages.specs.declared.lines.Line.{Line}
use Rattle.pages.specs.declared.lines.Line.TheVariants.{Stage, Arguments, Results, Kept}

-- how a line is written

abbrev pub parameter_words : Parameter → List (List ℕ)
parameter_words (Registers rs) = map register_word rs.items
parameter_words (Number n) = number_word n ∷ []
parameter_words (Kinds ks) = map letter_of ks.items ∷ []
parameter_words Nothing = []

abbrev pub line_words : Line → List (List ℕ)
line_words (Stage s) = word_of s.stage ∷ parameter_words s.parameter ++ map number_word s.below.items
line_words (Arguments k) = codes "args" ∷ number_word k ∷ []
line_words (Results k) = codes "results" ∷ number_word k ∷ []
line_words (Kept rs) = codes "keep" ∷ map register_word rs.items

-- its words, with one space between two of them
abbrev pub line_bytes : Line → List ℕ
line_bytes l = join_with_byte 32 (line_words l)

-- which lines have the form: the count of what stands on them is right, and each number has one or two digits

abbrev pub ShortNumbers : List ℕ → Type 0
ShortNumbers = AllByRecursion (λ n. n < 100)

-- a test is of one or more different kinds
abbrev pub ParameterFits : Form → Parameter → Type 0
ParameterFits forms.Registers (Registers rs) = (1 ≤ length rs.items) × (length rs.items ≤ 16) × ShortNumbers rs.items
ParameterFits forms.Number (Number n) = n < 100
ParameterFits forms.Test (Number n) = n < 100
ParameterFits forms.Test (Kinds ks) = kinds_fault ks.items ≡ None
ParameterFits forms.Nothing Nothing = Unit {0}
ParameterFits f p = ⊥

abbrev pub HasTheForm : Line → Type 0
HasTheForm (Stage s) = ParameterFits (form_of s.stage) s.parameter × (length s.below.items ≡ below_of s.stage) × ShortNumbers s.below.items
HasTheForm (Arguments k) = k < 100
HasTheForm (Results k) = k < 100
HasTheForm (Kept rs) = (length rs.items ≤ 28) × ShortNumbers rs.items

-- how a line is read from its words

abbrev pub all_kinds : List Kind
all_kinds = Unsigned ∷ Signed ∷ Float ∷ Address ∷ []

-- the kind with a letter
abbrev pub kind_of : ℕ → Option Kind
kind_of c = find (λ k. nat_eq (letter_of k) c) all_kinds

-- the kinds of all letters, one or more different ones
abbrev pub kinds_of : List ℕ → Option (List Kind)
kinds_of word = option_and_then (λ ks. cond (is_none (kinds_fault ks)) (Some ks) None) (all_of kind_of word)

-- what a layer chooses by: a width, or else kinds
abbrev pub test_of : List ℕ → Option Parameter
test_of w = option_or (option_map Number (number_of w)) (option_map (λ ks. Kinds (listed ks)) (kinds_of w))

-- one register at least
abbrev pub registers_of : List (List ℕ) → Option Parameter
registers_of ws = cond (nat_le 1 (length ws)) (option_map (λ rs. Registers (listed rs)) (all_of_at_most 16 register_of ws)) None

-- what the first word stands for, and the words behind it
abbrev pub first_of : {X : Type 0} → (List ℕ → Option X) → List (List ℕ) → Option (X × List (List ℕ))
first_of f [] = None
first_of f (w ∷ ws) = option_map (λ p. (p, ws)) (f w)

abbrev pub parameter_of : Form → List (List ℕ) → Option (Parameter × List (List ℕ))
parameter_of forms.Registers ws = option_map (λ p. (p, [])) (registers_of ws)
parameter_of forms.Number ws = first_of (λ w. option_map Number (number_of w)) ws
parameter_of forms.Test ws = first_of test_of ws
parameter_of forms.Nothing ws = Some (Nothing, ws)

-- the numbers of the stages below, as many as are wanted
abbrev pub below_of_the_words : ℕ → List (List ℕ) → Option (List ℕ)
below_of_the_words n ws = cond (nat_eq (length ws) n) (all_of number_of ws) None

abbrev pub stage_of : StageWord → List (List ℕ) → Option StageLine
stage_of s ws = option_and_then (λ p. option_map (λ ks. record { stage = s; parameter = p.0; below = listed ks }) (below_of_the_words (below_of s) p.1)) (parameter_of (form_of s) ws)

-- a number and nothing else
abbrev pub number_alone : List (List ℕ) → Option ℕ
number_alone [] = None
number_alone (w ∷ []) = number_of w
number_alone (w ∷ v ∷ ws) = None

-- the lines behind the stages
abbrev pub closing_of : List ℕ → List (List ℕ) → Option Line
closing_of w ws =
    cond (bytes_eq w (codes "args")) (option_map Arguments (number_alone ws))
    (cond (bytes_eq w (codes "results")) (option_map Results (number_alone ws))
    (cond (bytes_eq w (codes "keep")) (option_map (λ rs. Kept (listed rs)) (all_of_at_most 28 register_of ws)) None))

-- a line that begins with a stage word, or with another word
abbrev pub line_by : Option StageWord → List ℕ → List (List ℕ) → Option Line
line_by (Some s) w ws = option_map Stage (stage_of s ws)
line_by None w ws = closing_of w ws

abbrev pub line_of : List (List ℕ) → Option Line
line_of [] = None
line_of (w ∷ ws) = line_by (stage_with w) w ws

-- what has the form; or the fault that it has not
abbrev pub of_the_form : {X : Type 0} → Option X → Result X Cause
of_the_form None = Err faults.Form
of_the_form (Some x) = Ok x
