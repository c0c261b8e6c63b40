-- The bytes of a line come apart into its words, and the bytes of a text into its lines.
use Rattle.std.proofs.Common.{◌≡◌, ℕ, ◌+◌, ◌<◌, ◌≤◌, ◌/◌, ◌%◌, true, false, cond, List, [], ◌∷◌, ◌++◌, map, refl, ap, sym, ◌∙◌, append-nil, append_assoc, nat_lt, arith, rules}
use Rattle.std.proofs.lemmas.List.Splits.{join_with_byte-slice_split}
use Rattle.std.specs.Bool.{◌==◌}
use Rattle.std.specs.List.{AllByRecursion, join_with_byte}
use Rattle.values.specs.Kinds.{letter_of}
use Rattle.values.specs.declared.kinds.Kind.{Kind}
use Rattle.values.specs.declared.kinds.Kind.TheVariants.{Unsigned, Signed, Float, Address}
use Rattle.texts.specs.Parts.{parts}
use Rattle.texts.specs.Words.{number_word, register_word}
use Rattle.texts.proofs.Joins.{Free, parts_behind, parts_of_joined, free_append}
use Rattle.pages.specs.Table.{word_of}
use Rattle.pages.specs.Lines.{parameter_words, line_words, line_bytes}
use Rattle.pages.specs.Pages.{text_of}
use Rattle.pages.specs.declared.table.StageWord.{StageWord}
use Rattle.pages.specs.declared.table.StageWord.TheVariants.{Count, Bits, Up, Widen, Raise, Choose, Over, Shut}
use Rattle.pages.specs.declared.lines.Parameter.{Parameter}
use Rattle.pages.specs.declared.lines.Parameter.TheVariants.{Registers, Number, Kinds, Nothing}
use Rattle.pages.specs.declared.lines.Line.{Line}
use Rattle.pages.specs.declared.lines.Line.TheVariants.{Stage, Arguments, Results, Kept}

-- no byte is below the digits, where spaces and line feeds are
abbrev Solid : List ℕ → Type 0
Solid = AllByRecursion (λ b. 48 ≤ b)

digits_solid : (n : ℕ) → Solid (number_word n)
digits_solid n = elim (nat_lt n 10) as (λ c. Solid (cond c ((48 + n) ∷ []) ((48 + n / 10) ∷ (48 + n % 10) ∷ []))) [ true ↦ (omega arith, tt) | false ↦ (omega arith, (omega arith, tt)) ]

register_solid : (n : ℕ) → Solid (register_word n)
register_solid n = (omega arith, digits_solid n)

letters_solid : (ks : List Kind) → Solid (map letter_of ks)
letters_solid [] = tt
letters_solid (Unsigned ∷ ks) = (omega arith, letters_solid ks)
letters_solid (Signed ∷ ks) = (omega arith, letters_solid ks)
letters_solid (Float ∷ ks) = (omega arith, letters_solid ks)
letters_solid (Address ∷ ks) = (omega arith, letters_solid ks)

stage_solid : (s : StageWord) → Solid (word_of s)
stage_solid Count = search rules
stage_solid Bits = search rules
stage_solid Up = search rules
stage_solid Widen = search rules
stage_solid Raise = search rules
stage_solid Choose = search rules
stage_solid Over = search rules
stage_solid Shut = search rules

all_solid : (f : ℕ → List ℕ) → ((n : ℕ) → Solid (f n)) → (ns : List ℕ) → AllByRecursion Solid (map f ns)
all_solid f h [] = tt
all_solid f h (n ∷ ns) = (h n, all_solid f h ns)

and_solid : (vs ws : List (List ℕ)) → AllByRecursion Solid vs → AllByRecursion Solid ws → AllByRecursion Solid (vs ++ ws)
and_solid [] ws h k = k
and_solid (v ∷ vs) ws h k = (h.0, and_solid vs ws h.1 k)

parameter_solid : (p : Parameter) → AllByRecursion Solid (parameter_words p)
parameter_solid (Registers rs) = all_solid register_word register_solid rs.items
parameter_solid (Number n) = (digits_solid n, tt)
parameter_solid (Kinds ks) = (letters_solid ks.items, tt)
parameter_solid Nothing = tt

words_solid : (l : Line) → AllByRecursion Solid (line_words l)
words_solid (Stage s) = (stage_solid s.stage, and_solid _ _ (parameter_solid s.parameter) (all_solid number_word digits_solid s.below.items))
words_solid (Arguments k) = (search rules, (digits_solid k, tt))
words_solid (Results k) = (search rules, (digits_solid k, tt))
words_solid (Kept rs) = (search rules, all_solid register_word register_solid rs.items)

solid_free : (c : ℕ) → c < 48 → (w : List ℕ) → Solid w → Free c w
solid_free c l [] h = tt
solid_free c l (b ∷ w) h = (grind (arith, h.0), solid_free c l w h.1)

all_free : (c : ℕ) → c < 48 → (ws : List (List ℕ)) → AllByRecursion Solid ws → AllByRecursion (Free c) ws
all_free c l [] h = tt
all_free c l (w ∷ ws) h = (solid_free c l w h.0, all_free c l ws h.1)

joined_free : (c s : ℕ) → (s == c) ≡ false → (ws : List (List ℕ)) → AllByRecursion (Free c) ws → Free c (join_with_byte s ws)
joined_free c s d [] h = tt
joined_free c s d (w ∷ []) h = h.0
joined_free c s d (w ∷ v ∷ ws) h = free_append c w (s ∷ join_with_byte s (v ∷ ws)) h.0 (d, joined_free c s d (v ∷ ws) h.1)

free_words : (l : Line) → AllByRecursion (Free 32) (line_words l)
free_words l = all_free 32 (omega arith) (line_words l) (words_solid l)

pub words_of_bytes : (l : Line) → parts 32 (line_bytes l) ≡ line_words l
words_of_bytes (Stage s) = parts_of_joined 32 _ _ (free_words (Stage s))
words_of_bytes (Arguments k) = parts_of_joined 32 _ _ (free_words (Arguments k))
words_of_bytes (Results k) = parts_of_joined 32 _ _ (free_words (Results k))
words_of_bytes (Kept rs) = parts_of_joined 32 _ _ (free_words (Kept rs))

pub bytes_of_words : (l : Line) (bytes : List ℕ) → line_words l ≡ parts 32 bytes → line_bytes l ≡ bytes
bytes_of_words l bytes e = ap (join_with_byte 32) e ∙ join_with_byte-slice_split 32 bytes

no_feed : (l : Line) → Free 10 (line_bytes l)
no_feed l = joined_free 10 32 refl (line_words l) (all_free 10 (omega arith) (line_words l) (words_solid l))

pub lines_of_text : (ls : List Line) → parts 10 (text_of ls) ≡ map line_bytes ls ++ [] ∷ []
lines_of_text [] = refl
lines_of_text (l ∷ ls) = ap (parts 10) (append_assoc (line_bytes l) (10 ∷ []) (text_of ls)) ∙ (parts_behind 10 (line_bytes l) (text_of ls) (no_feed l) ∙ ap (λ xs. line_bytes l ∷ xs) (lines_of_text ls))

joined_lines : (ls : List Line) → join_with_byte 10 (map line_bytes ls ++ [] ∷ []) ≡ text_of ls
joined_lines [] = refl
joined_lines (l ∷ []) = sym (append-nil _)
joined_lines (l ∷ k ∷ ls) = ap (λ xs. line_bytes l ++ 10 ∷ xs) (joined_lines (k ∷ ls)) ∙ sym (append_assoc (line_bytes l) (10 ∷ []) (text_of (k ∷ ls)))

pub text_of_lines : (text : List ℕ) (ls : List Line) → parts 10 text ≡ map line_bytes ls ++ [] ∷ [] → text ≡ text_of ls
text_of_lines text ls e = sym (join_with_byte-slice_split 10 text) ∙ (ap (join_with_byte 10) e ∙ joined_lines ls)
