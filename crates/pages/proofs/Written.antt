-- A line is read as what writes it.
use Rattle.std.proofs.Common.{◌≡◌, ℕ, ◌<◌, ◌≤◌, true, cond, List, [], ◌∷◌, ◌++◌, map, length, Option, Some, None, option_map, inl, inr, refl, ap, sym, subst, ◌∙◌, append-nil, arith, nat_eq, nat_le, codes}
use Rattle.std.proofs.lemmas.Bool.{cases_Bool, le-leb, leb-true, eq-eqb, eqb-true}
use Rattle.std.proofs.lemmas.Slice.Eq.{bytes_eq-Decides}
use Rattle.std.proofs.lemmas.List.{length-map}
use Rattle.std.specs.List.{AllByRecursion}
use Rattle.std.specs.Option.{option_or, is_none}
use Rattle.std.specs.Str.{bytes_eq}
use Rattle.values.specs.Kinds.{letter_of}
use Rattle.values.specs.declared.kinds.Kind.{Kind}
use Rattle.values.specs.declared.kinds.Kind.TheVariants.{Unsigned, Signed, Float, Address}
use Rattle.conditions.specs.Tests.{kinds_fault}
use Rattle.texts.specs.Lists.{all_of, all_of_at_most, listed}
use Rattle.texts.specs.Words.{number_word, register_word, number_of, register_of}
use Rattle.texts.proofs.Digits.{number_of_its_word, word_of_its_number, register_of_its_word, word_of_its_register}
use Rattle.texts.proofs.Options.{the_same, and_then_came_from, map_came_from, test_came_from}
use Rattle.texts.proofs.Gathering.{all_counted, all_at_most, all_of_written, written_of_all}
use Rattle.pages.specs.Table.{word_of, form_of, below_of, stage_among, stage_words, stage_with}
use Rattle.pages.specs.Lines.{parameter_words, line_words, ShortNumbers, ParameterFits, HasTheForm, kind_of, kinds_of, test_of, registers_of, first_of, parameter_of, below_of_the_words, stage_of, number_alone, closing_of, line_by, line_of}
use Rattle.pages.specs.declared.table.Form.{Form}
use Rattle.pages.specs.declared.table.Form.TheVariants as forms
use Rattle.pages.specs.declared.table.StageWord.{StageWord}
use Rattle.pages.specs.declared.table.StageWord.TheVariants.{Count, Bits, Up, Widen, Raise, Choose, Over, Shut}
use Rattle.pages.specs.declared.lines.Parameter.{Parameter}
use Rattle.pages.specs.declared.lines.Parameter.TheVariants.{Registers, Number, Kinds, Nothing}
use Rattle.pages.specs.declared.lines.StageLine.{StageLine}
use Rattle.pages.specs.declared.lines.Line.{Line}
use Rattle.pages.specs.declared.lines.Line.TheVariants.{Stage, Arguments, Results, Kept}

-- from a line to its words and back

pub stage_with_its_word : (s : StageWord) → stage_with (word_of s) ≡ Some s
stage_with_its_word Count = refl
stage_with_its_word Bits = refl
stage_with_its_word Up = refl
stage_with_its_word Widen = refl
stage_with_its_word Raise = refl
stage_with_its_word Choose = refl
stage_with_its_word Over = refl
stage_with_its_word Shut = refl

numbers_read : (ns : List ℕ) → ShortNumbers ns → all_of number_of (map number_word ns) ≡ Some ns
numbers_read = all_of_written number_of number_word (λ n. n < 100) number_of_its_word

registers_read : (rs : List ℕ) → ShortNumbers rs → all_of register_of (map register_word rs) ≡ Some rs
registers_read = all_of_written register_of register_word (λ n. n < 100) register_of_its_word

kind_of_its_letter : (k : Kind) → Unit {0} → kind_of (letter_of k) ≡ Some k
kind_of_its_letter Unsigned u = refl
kind_of_its_letter Signed u = refl
kind_of_its_letter Float u = refl
kind_of_its_letter Address u = refl

all_units : (ks : List Kind) → AllByRecursion (λ k. Unit {0}) ks
all_units [] = tt
all_units (k ∷ ks) = (tt, all_units ks)

kinds_read : (ks : List Kind) → kinds_fault ks ≡ None → kinds_of (map letter_of ks) ≡ Some ks
kinds_read ks h = rw (all_of_written kind_of letter_of (λ k. Unit {0}) kind_of_its_letter ks (all_units ks), h) refl

no_number : (ks : List Kind) → number_of (map letter_of ks) ≡ None
no_number [] = refl
no_number (k ∷ []) = elim k as (λ k. number_of (letter_of k ∷ []) ≡ None) [ Unsigned ↦ refl | Signed ↦ refl | Float ↦ refl | Address ↦ refl ]
no_number (k ∷ l ∷ []) = elim k as (λ k. number_of (letter_of k ∷ letter_of l ∷ []) ≡ None) [ Unsigned ↦ refl | Signed ↦ refl | Float ↦ refl | Address ↦ refl ]
no_number (k ∷ l ∷ m ∷ ks) = refl

counted : (n : ℕ) (f : List ℕ → Option ℕ) (g : ℕ → List ℕ) (xs : List ℕ) → length xs ≤ n → all_of f (map g xs) ≡ Some xs → all_of_at_most n f (map g xs) ≡ Some xs
counted n f g xs l e = rw (length-map xs g, le-leb (length xs) n l, e) refl

registers_all : (rs : List ℕ) → 1 ≤ length rs → length rs ≤ 16 → ShortNumbers rs → registers_of (map register_word rs) ≡ Some (Registers (listed rs))
registers_all rs l m h = rw (counted 16 register_of register_word rs m (registers_read rs h), length-map rs register_word, le-leb 1 (length rs) l) refl

parameter_read : (f : Form) (p : Parameter) (rest : List (List ℕ)) → ParameterFits f p → (f ≡ forms.Registers → rest ≡ []) → parameter_of f (parameter_words p ++ rest) ≡ Some (p, rest)
parameter_read forms.Registers (Registers rs) rest h e = rw (e refl, append-nil (map register_word rs.items), registers_all rs.items h.0 h.1 h.2) refl
parameter_read forms.Registers (Number n) rest h e = absurd h
parameter_read forms.Registers (Kinds ks) rest h e = absurd h
parameter_read forms.Registers Nothing rest h e = absurd h
parameter_read forms.Number (Number n) rest h e = rw (number_of_its_word n h) refl
parameter_read forms.Number (Registers rs) rest h e = absurd h
parameter_read forms.Number (Kinds ks) rest h e = absurd h
parameter_read forms.Number Nothing rest h e = absurd h
parameter_read forms.Test (Number n) rest h e = rw (number_of_its_word n h) refl
parameter_read forms.Test (Kinds ks) rest h e = rw (no_number ks.items, kinds_read ks.items h) refl
parameter_read forms.Test (Registers rs) rest h e = absurd h
parameter_read forms.Test Nothing rest h e = absurd h
parameter_read forms.Nothing Nothing rest h e = refl
parameter_read forms.Nothing (Registers rs) rest h e = absurd h
parameter_read forms.Nothing (Number n) rest h e = absurd h
parameter_read forms.Nothing (Kinds ks) rest h e = absurd h

-- only the banks take all words as their parameter, and they have no stage below
banks_have_none_below : (s : StageWord) (ks : List ℕ) → length ks ≡ below_of s → form_of s ≡ forms.Registers → map number_word ks ≡ []
banks_have_none_below s [] l e = refl
banks_have_none_below Count (k ∷ ks) l e = grind arith
banks_have_none_below Bits (k ∷ ks) l e = grind arith
banks_have_none_below Up (k ∷ ks) l e = grind arith
banks_have_none_below Widen (k ∷ ks) l e = grind arith
banks_have_none_below Raise (k ∷ ks) l e = grind arith
banks_have_none_below Choose (k ∷ ks) l e = grind arith
banks_have_none_below Over (k ∷ ks) l e = grind arith
banks_have_none_below Shut (k ∷ ks) l e = grind arith

below_read : (ks : List ℕ) (n : ℕ) → length ks ≡ n → ShortNumbers ks → below_of_the_words n (map number_word ks) ≡ Some ks
below_read ks n l h = rw (numbers_read ks h, length-map ks number_word, l, eq-eqb n n refl) refl

stage_read : (s : StageLine) → HasTheForm (Stage s) → stage_of s.stage (parameter_words s.parameter ++ map number_word s.below.items) ≡ Some s
stage_read s h = rw (parameter_read (form_of s.stage) s.parameter (map number_word s.below.items) h.0 (banks_have_none_below s.stage s.below.items h.1), below_read s.below.items (below_of s.stage) h.1 h.2) refl

pub line_of_its_words : (l : Line) → HasTheForm l → line_of (line_words l) ≡ Some l
line_of_its_words (Stage s) h =
    ap (λ r. line_by r (word_of s.stage) (parameter_words s.parameter ++ map number_word s.below.items)) (stage_with_its_word s.stage) ∙ ap (option_map Stage) (stage_read s h)
line_of_its_words (Arguments k) h = rw (number_of_its_word k h) refl
line_of_its_words (Results k) h = rw (number_of_its_word k h) refl
line_of_its_words (Kept rs) h = rw (counted 28 register_of register_word rs.items h.0 (registers_read rs.items h.1)) refl

-- from words to the line that writes them

word_of_a_stage : (w : List ℕ) (s : StageWord) → stage_with w ≡ Some s → word_of s ≡ w
word_of_a_stage w s e = among stage_words w s e
  where
    among : (ss : List StageWord) (w : List ℕ) (s : StageWord) → stage_among ss w ≡ Some s → word_of s ≡ w
    among [] w s e = grind (arith, e)
    among (t ∷ ss) w s e =
        elim (cases_Bool (bytes_eq (word_of t) w)) [
          | inl y ↦ grind (arith, bytes_eq-Decides (word_of t) w, y, e)
          | inr n ↦ among ss w s (rw n at e)
        ]

numbers_written : (ws : List (List ℕ)) (ns : List ℕ) → all_of number_of ws ≡ Some ns → ShortNumbers ns × (map number_word ns ≡ ws)
numbers_written = written_of_all number_of number_word (λ n. n < 100) word_of_its_number

registers_written : (ws : List (List ℕ)) (rs : List ℕ) → all_of register_of ws ≡ Some rs → ShortNumbers rs × (map register_word rs ≡ ws)
registers_written = written_of_all register_of register_word (λ n. n < 100) word_of_its_register

none_there : {T : Type 0} (r : Option T) → is_none r ≡ true → r ≡ None
none_there None e = refl
none_there (Some t) e = grind (arith, e)

letter_of_a_kind : (c : ℕ) (k : Kind) → kind_of c ≡ Some k → Unit {0} × (letter_of k ≡ c)
letter_of_a_kind c k e = (tt, grind (arith, e))

kinds_written : (w : List ℕ) (ks : List Kind) → kinds_of w ≡ Some ks → (kinds_fault ks ≡ None) × (map letter_of ks ≡ w)
kinds_written w ks e =
    let a = and_then_came_from (λ ls. cond (is_none (kinds_fault ls)) (Some ls) None) (all_of kind_of w) ks e in
    let b = test_came_from (is_none (kinds_fault a.0)) (Some a.0) ks a.2 in
    let same : a.0 ≡ ks = the_same a.0 ks b.1 in
    let none : kinds_fault a.0 ≡ None = none_there (kinds_fault a.0) b.0 in
    (rw (← same) none, (written_of_all kind_of letter_of (λ k. Unit {0}) letter_of_a_kind w ks (a.1 ∙ b.1)).1)

below_written : (n : ℕ) (ws : List (List ℕ)) (ks : List ℕ) → below_of_the_words n ws ≡ Some ks → (length ks ≡ n) × ShortNumbers ks × (map number_word ks ≡ ws)
below_written n ws ks e =
    let a = test_came_from (nat_eq (length ws) n) (all_of number_of ws) ks e in
    let b = numbers_written ws ks a.1 in
    (all_counted number_of ws ks a.1 ∙ eqb-true (length ws) n a.0, b.0, b.1)

-- a parameter that words write, with the words behind it
abbrev Behind : Form → Parameter → List (List ℕ) → List (List ℕ) → Type 0
Behind f p rest ws = ParameterFits f p × (parameter_words p ++ rest ≡ ws)

first_written : (f : Form) (read : List ℕ → Option Parameter) → ((w : List ℕ) (p : Parameter) → read w ≡ Some p → ParameterFits f p × (parameter_words p ≡ w ∷ [])) → (ws : List (List ℕ)) (p : Parameter) (rest : List (List ℕ)) → first_of read ws ≡ Some (p, rest) → Behind f p rest ws
first_written f read h [] p rest e = grind (arith, e)
first_written f read h (w ∷ ws) p rest e =
    let a = map_came_from (λ q. (q, ws)) (read w) (p, rest) e in
    let q = h w p (a.1 ∙ ap (λ x. Some x.0) a.2) in
    (q.0, ap (λ xs. xs ++ rest) q.1 ∙ ap (λ xs. w ∷ xs) (sym (ap (λ x. x.1) a.2)))

number_written : (f : Form) → ((n : ℕ) → n < 100 → ParameterFits f (Number n)) → (w : List ℕ) (p : Parameter) → option_map Number (number_of w) ≡ Some p → ParameterFits f p × (parameter_words p ≡ w ∷ [])
number_written f fits w p e =
    let a = map_came_from Number (number_of w) p e in
    let b = word_of_its_number w a.0 a.1 in
    subst (λ q. ParameterFits f q × (parameter_words q ≡ w ∷ [])) a.2 (fits a.0 b.0, ap (λ v. v ∷ []) b.1)

test_kinds_written : (w : List ℕ) (p : Parameter) → option_map (λ ks. Kinds (listed ks)) (kinds_of w) ≡ Some p → ParameterFits forms.Test p × (parameter_words p ≡ w ∷ [])
test_kinds_written w p e =
    let a = map_came_from (λ ks. Kinds (listed ks)) (kinds_of w) p e in
    let b = kinds_written w a.0 a.1 in
    subst (λ q. ParameterFits forms.Test q × (parameter_words q ≡ w ∷ [])) a.2 (b.0, ap (λ v. v ∷ []) b.1)

test_written : (w : List ℕ) (p : Parameter) → test_of w ≡ Some p → ParameterFits forms.Test p × (parameter_words p ≡ w ∷ [])
test_written w p e = either (option_map Number (number_of w)) (number_written forms.Test (λ n l. l) w p) e
  where
    either : (r : Option Parameter) → (r ≡ Some p → ParameterFits forms.Test p × (parameter_words p ≡ w ∷ [])) → option_or r (option_map (λ ks. Kinds (listed ks)) (kinds_of w)) ≡ Some p → ParameterFits forms.Test p × (parameter_words p ≡ w ∷ [])
    either None h e = test_kinds_written w p e
    either (Some q) h e = h e

bank_written : (ws : List (List ℕ)) (p : Parameter) → registers_of ws ≡ Some p → ParameterFits forms.Registers p × (parameter_words p ≡ ws)
bank_written ws p e =
    let a = test_came_from (nat_le 1 (length ws)) (option_map (λ rs. Registers (listed rs)) (all_of_at_most 16 register_of ws)) p e in
    let b = map_came_from (λ rs. Registers (listed rs)) (all_of_at_most 16 register_of ws) p a.1 in
    let c = all_at_most register_of 16 ws b.0 b.1 in
    let d = registers_written ws b.0 c.0 in
    let some : 1 ≤ length ws = leb-true 1 (length ws) a.0 in
    subst (λ q. ParameterFits forms.Registers q × (parameter_words q ≡ ws)) b.2 ((omega (arith, c.1, some), omega (arith, c.1, c.2), d.0), d.1)

parameter_written : (f : Form) (ws : List (List ℕ)) (p : Parameter) (rest : List (List ℕ)) → parameter_of f ws ≡ Some (p, rest) → Behind f p rest ws
parameter_written forms.Registers ws p rest e =
    let a = map_came_from (λ q. (q, [])) (registers_of ws) (p, rest) e in
    let b = bank_written ws p (a.1 ∙ ap (λ x. Some x.0) a.2) in
    (b.0, ap (λ xs. parameter_words p ++ xs) (sym (ap (λ x. x.1) a.2)) ∙ (append-nil (parameter_words p) ∙ b.1))
parameter_written forms.Number ws p rest e = first_written forms.Number (λ w. option_map Number (number_of w)) (number_written forms.Number (λ n l. l)) ws p rest e
parameter_written forms.Test ws p rest e = first_written forms.Test test_of test_written ws p rest e
parameter_written forms.Nothing ws p rest e =
    let same = the_same (Nothing, ws) (p, rest) e in
    subst (λ q. Behind forms.Nothing q.0 q.1 ws) same (tt, refl)

stage_written : (s : StageWord) (ws : List (List ℕ)) (l : StageLine) → stage_of s ws ≡ Some l → HasTheForm (Stage l) × (l.stage ≡ s) × (parameter_words l.parameter ++ map number_word l.below.items ≡ ws)
stage_written s ws l e =
    let below = λ (p : Parameter × List (List ℕ)). option_map (λ ks. record { stage = s; parameter = p.0; below = listed ks }) (below_of_the_words (below_of s) p.1) in
    let a = and_then_came_from below (parameter_of (form_of s) ws) l e in
    let b = parameter_written (form_of s) ws a.0.0 a.0.1 a.1 in
    let c = map_came_from (λ ks. record { stage = s; parameter = a.0.0; below = listed ks }) (below_of_the_words (below_of s) a.0.1) l a.2 in
    let d = below_written (below_of s) a.0.1 c.0 c.1 in
    subst (λ x. HasTheForm (Stage x) × (x.stage ≡ s) × (parameter_words x.parameter ++ map number_word x.below.items ≡ ws)) c.2
    ((b.0, d.0, d.1), refl, ap (λ xs. parameter_words a.0.0 ++ xs) d.2 ∙ b.1)

root_written : (word : List ℕ) (root : ℕ → Line) → ((k : ℕ) → k < 100 → HasTheForm (root k)) → ((k : ℕ) → line_words (root k) ≡ word ∷ number_word k ∷ []) → (w : List ℕ) (ws : List (List ℕ)) (l : Line) → w ≡ word → option_map root (number_alone ws) ≡ Some l → HasTheForm l × (line_words l ≡ w ∷ ws)
root_written word root form words w [] l s e = grind (arith, e)
root_written word root form words w (v ∷ []) l s e =
    let a = map_came_from root (number_of v) l e in
    let b = word_of_its_number v a.0 a.1 in
    subst (λ x. HasTheForm x × (line_words x ≡ w ∷ v ∷ [])) a.2 (form a.0 b.0, words a.0 ∙ ap (λ x. x ∷ number_word a.0 ∷ []) (sym s) ∙ ap (λ x. w ∷ x ∷ []) b.1)
root_written word root form words w (v ∷ u ∷ ws) l s e = grind (arith, e)

kept_written : (w : List ℕ) (ws : List (List ℕ)) (l : Line) → w ≡ codes "keep" → option_map (λ rs. Kept (listed rs)) (all_of_at_most 28 register_of ws) ≡ Some l → HasTheForm l × (line_words l ≡ w ∷ ws)
kept_written w ws l s e =
    let a = map_came_from (λ rs. Kept (listed rs)) (all_of_at_most 28 register_of ws) l e in
    let b = all_at_most register_of 28 ws a.0 a.1 in
    let c = registers_written ws a.0 b.0 in
    subst (λ x. HasTheForm x × (line_words x ≡ w ∷ ws)) a.2 ((omega (arith, b.1, b.2), c.0), ap (λ x. x ∷ map register_word a.0) (sym s) ∙ ap (λ xs. w ∷ xs) c.1)

is_word : (w v : List ℕ) → bytes_eq w v ≡ true → w ≡ v
is_word w v e = grind (arith, bytes_eq-Decides w v, e)

closing_written : (w : List ℕ) (ws : List (List ℕ)) (l : Line) → closing_of w ws ≡ Some l → HasTheForm l × (line_words l ≡ w ∷ ws)
closing_written w ws l e =
    elim (cases_Bool (bytes_eq w (codes "args"))) [
      | inl y ↦ root_written (codes "args") Arguments (λ k h. h) (λ k. refl) w ws l (is_word w (codes "args") y) (rw y at e)
      | inr n ↦
          let f = rw n at e in
          elim (cases_Bool (bytes_eq w (codes "results"))) [
            | inl y ↦ root_written (codes "results") Results (λ k h. h) (λ k. refl) w ws l (is_word w (codes "results") y) (rw y at f)
            | inr m ↦
                let g = rw m at f in
                let t = test_came_from (bytes_eq w (codes "keep")) _ l g in
                kept_written w ws l (is_word w (codes "keep") t.0) t.1
          ]
    ]

pub words_of_its_line : (ws : List (List ℕ)) (l : Line) → line_of ws ≡ Some l → HasTheForm l × (line_words l ≡ ws)
words_of_its_line [] l e = grind (arith, e)
words_of_its_line (w ∷ ws) l e = by (stage_with w) (word_of_a_stage w) e
  where
    by : (r : Option StageWord) → ((s : StageWord) → r ≡ Some s → word_of s ≡ w) → line_by r w ws ≡ Some l → HasTheForm l × (line_words l ≡ w ∷ ws)
    by None h e = closing_written w ws l e
    by (Some s) h e =
        let a = map_came_from Stage (stage_of s ws) l e in
        let b = stage_written s ws a.0 a.1 in
        subst (λ x. HasTheForm x × (line_words x ≡ w ∷ ws)) a.2 (b.0, ap (λ x. word_of x ∷ parameter_words a.0.parameter ++ map number_word a.0.below.items) b.1 ∙ (ap (λ x. x ∷ parameter_words a.0.parameter ++ map number_word a.0.below.items) (h s refl) ∙ ap (λ xs. w ∷ xs) b.2))
