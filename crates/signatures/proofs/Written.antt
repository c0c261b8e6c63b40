-- A line has no fault exactly where a proper signature writes it.
use Rattle.std.proofs.Common.{◌≡◌, ◌<◌, ℕ, ◌+◌, ◌*◌, ◌≤◌, Bool, true, false, cond, ◌&&◌, inl, inr, List, [], ◌∷◌, ◌++◌, map, length, Option, Some, None, refl, ap, sym, ◌∙◌, arith, append-nil, length-append, nat_le, codes, drop, get_or}
use Rattle.std.proofs.lemmas.Bool.{cases_Bool, le-leb}
use Rattle.std.proofs.lemmas.Grind.{flat_map-append}
use Rattle.std.proofs.lemmas.List.{length-map}
use Rattle.std.proofs.lemmas.List.Splits.{join_with_byte-slice_split}
use Rattle.std.specs.Bool.{◌==◌}
use Rattle.std.specs.Char.{is_ascii_lowercase}
use Rattle.std.proofs.lemmas.Bool.Decides.{nat_tests}
use Rattle.std.specs.List.{list_all, count_by, join_with_byte, flat_map, AllByRecursion}
use Rattle.values.specs.Kinds.{letter_of}
use Rattle.values.specs.Sizes.{bytes}
use Rattle.values.specs.Types.{word_of}
use Rattle.values.specs.declared.kinds.Kind.TheVariants.{Unsigned, Signed, Float, Address}
use Rattle.values.specs.declared.sizes.Size.TheVariants.{One, Two, Four, Eight}
use Rattle.values.specs.declared.value_type.ValueType.{ValueType}
use Rattle.texts.specs.Lists.{listed}
use Rattle.texts.specs.Parts.{parts}
use Rattle.texts.proofs.Joins.{Free, parts_of_joined}
use Rattle.signatures.specs.Signatures.{colon, is_name, signature_words, signature_bytes, IsProper}
use Rattle.signatures.specs.Faults.{is_filled, is_colon, is_type_word, before_colon, behind_colon, are_divided, are_types, are_few, words_fault, line_fault, signature_fault, line_at, FaultlessLinesAreSignatures, LinesTellSignaturesApart}
use Rattle.signatures.specs.declared.signature.Signature.{Signature}
use Rattle.signatures.proofs.Checking.{colons_in}
use Rattle.signatures.proofs.Words.{word_of_its_type, types_of_their_words, types_told, no_colon, colon_itself}

-- from words to the signature that they write

pub cut_at_the_colon : (ws : List (List ℕ)) → count_by is_colon ws ≡ 1 → ws ≡ before_colon ws ++ colon ∷ behind_colon ws
cut_at_the_colon [] h = grind (arith, h)
cut_at_the_colon (w ∷ ws) h =
    elim (cases_Bool (is_colon w)) [
      | inl y ↦ rw y (ap (λ v. v ∷ ws) (colon_itself w y))
      | inr n ↦ rw n (ap (λ vs. w ∷ vs) (cut_at_the_colon ws (grind (arith, h, n, colons_in w ws))))
    ]

none_before : (ws : List (List ℕ)) → count_by is_colon ws ≡ 0 → before_colon ws ≡ ws
none_before [] h = refl
none_before (w ∷ ws) h =
    elim (cases_Bool (is_colon w)) [
      | inl y ↦ grind (arith, h, y, colons_in w ws)
      | inr n ↦ rw n (ap (λ vs. w ∷ vs) (none_before ws (grind (arith, h, n, colons_in w ws))))
    ]

pub one_colon : (ws : List (List ℕ)) → are_divided ws ≡ true → count_by is_colon ws ≡ 1
one_colon ws h = grind (arith, nat_tests, h)

-- behind the one colon is no other
pub no_second : (ws : List (List ℕ)) → count_by is_colon ws ≡ 1 → before_colon (behind_colon ws) ≡ behind_colon ws
no_second [] h = refl
no_second (w ∷ ws) h =
    elim (cases_Bool (is_colon w)) [
      | inl y ↦ rw y (none_before ws (grind (arith, h, y, colons_in w ws)))
      | inr n ↦ rw n (no_second ws (grind (arith, h, n, colons_in w ws)))
    ]

pub too_many_results : (ws : List (List ℕ)) → are_divided ws ≡ true → 4 < length (before_colon (behind_colon ws)) → are_few ws ≡ false
too_many_results ws d l =
    let long : 4 < length (behind_colon ws) = rw (no_second ws (one_colon ws d)) at l in
    elim (cases_Bool (nat_le (length (before_colon ws)) 16)) [
      | inl y ↦ grind (arith, nat_tests, y, long)
      | inr n ↦ grind (arith, n)
    ]

pub types_behind : (ws : List (List ℕ)) → are_types ws ≡ true → are_types (behind_colon ws) ≡ true
types_behind [] h = refl
types_behind (w ∷ ws) h =
    elim (cases_Bool (is_colon w)) [
      | inl y ↦ rw y (rw y at h)
      | inr n ↦ rw n (types_behind ws (grind (arith, h)))
    ]

types_before : (ws : List (List ℕ)) → are_types ws ≡ true → list_all is_type_word (before_colon ws) ≡ true
types_before [] h = refl
types_before (w ∷ ws) h =
    elim (cases_Bool (is_colon w)) [
      | inl y ↦ rw y refl
      | inr n ↦ rw n (grind (arith, n, h, types_before ws))
    ]

pub fault_of_too_many : (line name : List ℕ) (ws : List (List ℕ)) → length line ≤ 120 → parts 32 line ≡ name ∷ ws → is_name name ≡ true → are_divided ws ≡ true → are_types ws ≡ true → are_few ws ≡ false → line_fault line ≡ Some 13
fault_of_too_many line name ws l e n d t f = rw (le-leb (length line) 120 l, e, n, d, t, f) refl

-- from a signature to its words

-- words of types in front of others
filled_in_front : (ts : List ValueType) (ws : List (List ℕ)) → list_all is_filled (map word_of ts ++ ws) ≡ list_all is_filled ws
filled_in_front [] ws = refl
filled_in_front (t ∷ ts) ws = filled_in_front ts ws

colons_in_front : (ts : List ValueType) (ws : List (List ℕ)) → count_by is_colon (map word_of ts ++ ws) ≡ count_by is_colon ws
colons_in_front [] ws = refl
colons_in_front (t ∷ ts) ws = colons_in (word_of t) (map word_of ts ++ ws) ∙ rw (no_colon t, colons_in_front ts ws) (omega arith)

types_in_front : (ts : List ValueType) (ws : List (List ℕ)) → are_types (map word_of ts ++ ws) ≡ are_types ws
types_in_front [] ws = refl
types_in_front (t ∷ ts) ws = rw (no_colon t, word_of_its_type t) (types_in_front ts ws)

before_in_front : (ts : List ValueType) (ws : List (List ℕ)) → before_colon (map word_of ts ++ ws) ≡ map word_of ts ++ before_colon ws
before_in_front [] ws = refl
before_in_front (t ∷ ts) ws = rw (no_colon t) (ap (λ vs. word_of t ∷ vs) (before_in_front ts ws))

behind_in_front : (ts : List ValueType) (ws : List (List ℕ)) → behind_colon (map word_of ts ++ ws) ≡ behind_colon ws
behind_in_front [] ws = refl
behind_in_front (t ∷ ts) ws = rw (no_colon t) (behind_in_front ts ws)

-- the words behind a name
abbrev both : List ValueType → List ValueType → List (List ℕ)
both xs ys = map word_of xs ++ colon ∷ map word_of ys

are_divided_both : (xs ys : List ValueType) → are_divided (both xs ys) ≡ true
are_divided_both xs ys =
    let filled : list_all is_filled (both xs ys) ≡ true = filled_in_front xs (colon ∷ map word_of ys) ∙ (rw append-nil at (filled_in_front ys [])) in
    let one : count_by is_colon (both xs ys) ≡ 1 = colons_in_front xs (colon ∷ map word_of ys) ∙ (colons_in colon (map word_of ys) ∙ ap (λ n. 1 + n) (rw append-nil at (colons_in_front ys []))) in
    rw (filled, one) refl

are_types_both : (xs ys : List ValueType) → are_types (both xs ys) ≡ true
are_types_both xs ys = types_in_front xs (colon ∷ map word_of ys) ∙ (rw append-nil at (types_in_front ys []))

before_both : (xs ys : List ValueType) → before_colon (both xs ys) ≡ map word_of xs
before_both xs ys = before_in_front xs (colon ∷ map word_of ys) ∙ append-nil (map word_of xs)

behind_both : (xs ys : List ValueType) → behind_colon (both xs ys) ≡ map word_of ys
behind_both xs ys = behind_in_front xs (colon ∷ map word_of ys)

no_fault_of_its_words : (s : Signature) → IsProper s → words_fault (signature_words s) ≡ None
no_fault_of_its_words s p =
    rw (
      p.name_is_1_to_8_letters,
      are_divided_both s.arguments.items s.results.items,
      are_types_both s.arguments.items s.results.items,
      before_both s.arguments.items s.results.items,
      behind_both s.arguments.items s.results.items,
      length-map s.arguments.items word_of,
      length-map s.results.items word_of,
      le-leb (length s.arguments.items) 16 p.arguments_are_at_most_16,
      le-leb (length s.results.items) 4 p.results_are_at_most_4,
    ) refl

-- from its words to its bytes

joined : (c : ℕ) (w : List ℕ) (ws : List (List ℕ)) → join_with_byte c (w ∷ ws) ≡ w ++ flat_map (λ v. c ∷ v) ws
joined c w [] = sym (append-nil w)
joined c w (v ∷ ws) = ap (λ bs. w ++ c ∷ bs) (joined c v ws)

spaced : (ts : List ValueType) → flat_map (λ v. 32 ∷ v) (map word_of ts) ≡ flat_map (λ t. 32 ∷ word_of t) ts
spaced [] = refl
spaced (t ∷ ts) = ap (λ bs. 32 ∷ word_of t ++ bs) (spaced ts)

pub bytes_in_pieces : (s : Signature) → signature_bytes s ≡ s.name.bytes ++ (flat_map (λ t. 32 ∷ word_of t) s.arguments.items ++ (codes " :" ++ flat_map (λ t. 32 ∷ word_of t) s.results.items))
bytes_in_pieces s =
    joined 32 s.name.bytes (both s.arguments.items s.results.items)
    ∙ ap (λ bs. s.name.bytes ++ bs) (flat_map-append (λ v. 32 ∷ v) (map word_of s.arguments.items) (colon ∷ map word_of s.results.items)
    ∙ rw (spaced s.arguments.items, spaced s.results.items) refl)

three_each : (ts : List ValueType) → length (flat_map (λ t. 32 ∷ word_of t) ts) ≡ 3 * length ts
three_each [] = refl
three_each (t ∷ ts) = omega (arith, three_each ts)

short : (s : Signature) → IsProper s → length (signature_bytes s) ≤ 120
short s p =
    let xs = flat_map (λ t. 32 ∷ word_of t) s.arguments.items in
    let ys = flat_map (λ t. 32 ∷ word_of t) s.results.items in
    let name : length s.name.bytes ≤ 8 = grind (arith, nat_tests, p.name_is_1_to_8_letters) in
    omega (arith, ap length (bytes_in_pieces s), length-append s.name.bytes (xs ++ (codes " :" ++ ys)), length-append xs (codes " :" ++ ys), length-append (codes " :") ys, three_each s.arguments.items, three_each s.results.items, name, p.arguments_are_at_most_16, p.results_are_at_most_4)

letters_are_free : (w : List ℕ) → list_all is_ascii_lowercase w ≡ true → Free 32 w
letters_are_free [] h = tt
letters_are_free (c ∷ w) h = (grind (arith, nat_tests, h), letters_are_free w (grind (arith, h)))

type_is_free : (t : ValueType) → Free 32 (word_of t)
type_is_free t = (elim t.kind as (λ k. (letter_of k == 32) ≡ false) [ Unsigned ↦ refl | Signed ↦ refl | Float ↦ refl | Address ↦ refl ], (elim t.width as (λ w. ((48 + bytes w) == 32) ≡ false) [ One ↦ refl | Two ↦ refl | Four ↦ refl | Eight ↦ refl ], tt))

types_are_free : (ts : List ValueType) (ws : List (List ℕ)) → AllByRecursion (Free 32) ws → AllByRecursion (Free 32) (map word_of ts ++ ws)
types_are_free [] ws h = h
types_are_free (t ∷ ts) ws h = (type_is_free t, types_are_free ts ws h)

words_are_free : (s : Signature) → IsProper s → AllByRecursion (Free 32) (signature_words s)
words_are_free s p = (letters_are_free s.name.bytes (grind (arith, p.name_is_1_to_8_letters)), types_are_free s.arguments.items (colon ∷ map word_of s.results.items) ((refl, tt), rw append-nil at (types_are_free s.results.items [] tt)))

parts_of_its_bytes : (s : Signature) → IsProper s → parts 32 (signature_bytes s) ≡ signature_words s
parts_of_its_bytes s p = parts_of_joined 32 s.name.bytes (both s.arguments.items s.results.items) (words_are_free s p)

pub no_fault_of_its_line : (s : Signature) → IsProper s → line_fault (signature_bytes s) ≡ None
no_fault_of_its_line s p = rw (le-leb (length (signature_bytes s)) 120 (short s p)) (ap words_fault (parts_of_its_bytes s p) ∙ no_fault_of_its_words s p)

-- from its bytes to a signature

pub line_of_its_words : (line : List ℕ) (s : Signature) → parts 32 line ≡ signature_words s → line ≡ signature_bytes s
line_of_its_words line s e = sym (join_with_byte-slice_split 32 line) ∙ ap (join_with_byte 32) e

pub words_of_what_was_read : (name : List ℕ) (ws : List (List ℕ)) (s : Signature) → are_divided ws ≡ true → s.name.bytes ≡ name → map word_of s.arguments.items ≡ before_colon ws → map word_of s.results.items ≡ before_colon (behind_colon ws) → name ∷ ws ≡ signature_words s
words_of_what_was_read name ws s d n a r =
    let one : count_by is_colon ws ≡ 1 = one_colon ws d in
    ap (λ vs. name ∷ vs) (cut_at_the_colon ws one) ∙ rw (n, a, r, no_second ws one) refl

not_refused : (c : Bool) (r : Option ℕ) (n : ℕ) → cond c r (Some n) ≡ None → (c ≡ true) × (r ≡ None)
not_refused true r n e = (refl, e)
not_refused false r n e = grind (arith, e)

signature_of_words : (line : List ℕ) (all : List (List ℕ)) → parts 32 line ≡ all → words_fault all ≡ None → (s : Signature) × IsProper s × (line ≡ signature_bytes s)
signature_of_words line [] e h = grind (arith, h)
signature_of_words line (name ∷ ws) e h =
    let form = not_refused (is_name name && are_divided ws) _ 11 h in
    let types = not_refused (are_types ws) _ 12 form.1 in
    let few = not_refused (are_few ws) _ 13 types.1 in
    let named : is_name name ≡ true = grind (arith, form.0) in
    let divided : are_divided ws ≡ true = grind (arith, form.0) in
    let xs = types_of_their_words (before_colon ws) (types_before ws types.0) in
    let ys = types_of_their_words (before_colon (behind_colon ws)) (types_before (behind_colon ws) (types_behind ws types.0)) in
    let same : before_colon (behind_colon ws) ≡ behind_colon ws = no_second ws (one_colon ws divided) in
    let s : Signature = record { name = record { bytes = name; spare = [] }; arguments = listed xs.0; results = listed ys.0 } in
    let before : length (before_colon ws) ≤ 16 = grind (arith, nat_tests, few.0) in
    let behind : length (behind_colon ws) ≤ 4 = grind (arith, nat_tests, few.0) in (
      s,
      record {
        name_is_1_to_8_letters = named;
        arguments_are_at_most_16 = omega (arith, ap length xs.1, length-map xs.0 word_of, before);
        results_are_at_most_4 = omega (arith, ap length (ys.1 ∙ same), length-map ys.0 word_of, behind);
      },
      line_of_its_words line s (e ∙ words_of_what_was_read name ws s divided refl xs.1 ys.1),
    )

signature_of_a_line : (line : List ℕ) → line_fault line ≡ None → (s : Signature) × IsProper s × (line ≡ signature_bytes s)
signature_of_a_line line h = signature_of_words line (parts 32 line) refl (not_refused (nat_le (length line) 120) _ 11 h).1

pub faultless_lines_are_signatures : FaultlessLinesAreSignatures
faultless_lines_are_signatures list n = record {
  a_line_without_fault_is_written_by_a_proper_signature = there (line_at list n);
  a_line_that_a_proper_signature_writes_has_no_fault = λ s p e. ap signature_fault e ∙ no_fault_of_its_line s p;
}
  where
    there : (l : Option (List ℕ)) → signature_fault l ≡ None → (s : Signature) × IsProper s × (l ≡ Some (signature_bytes s))
    there None h = grind (arith, h)
    there (Some line) h = let s = signature_of_a_line line h in (s.0, s.1, ap Some s.2)

pub lines_tell_signatures_apart : LinesTellSignaturesApart
lines_tell_signatures_apart s t p q e =
    let words : signature_words s ≡ signature_words t = sym (parts_of_its_bytes s p) ∙ (ap (parts 32) e ∙ parts_of_its_bytes t q) in
    let both_are : both s.arguments.items s.results.items ≡ both t.arguments.items t.results.items = ap (drop 1) words in
    let xs : map word_of s.arguments.items ≡ map word_of t.arguments.items = sym (before_both s.arguments.items s.results.items) ∙ (ap before_colon both_are ∙ before_both t.arguments.items t.results.items) in
    let ys : map word_of s.results.items ≡ map word_of t.results.items = sym (behind_both s.arguments.items s.results.items) ∙ (ap behind_colon both_are ∙ behind_both t.arguments.items t.results.items) in
    (ap (λ ws. get_or ws 0 []) words, ap listed (types_told s.arguments.items t.arguments.items xs), ap listed (types_told s.results.items t.results.items ys))
