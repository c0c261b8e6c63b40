-- What was read without fault is a proper page, and the other way round.
use Rattle.std.proofs.Common.{◌≡◌, inl, inr, ℕ, ◌+◌, ◌<◌, ◌≤◌, Bool, true, false, ◌&&◌, List, [], ◌∷◌, ◌++◌, map, length, Ok, refl, ap, sym, subst, ◌∙◌, append-nil, append_assoc, nat_eq, nat_le, length-append, arith}
use Rattle.std.proofs.lemmas.Bool.{cases_Bool, and_parts, le-leb, leb-true, eqb-true}
use Rattle.std.proofs.lemmas.List.Splits.{length-slice_split}
use Rattle.std.specs.Bool.{◌==◌}
use Rattle.std.specs.List.{AllByRecursion}
use Rattle.texts.specs.Lists.{listed}
use Rattle.texts.specs.Parts.{parts}
use Rattle.pages.specs.Lines.{line_bytes, HasTheForm}
use Rattle.pages.specs.Pages.{Page, closing_lines, page_lines, text_of, is_in_range, named, all_named, times, NameEarlierStages, IsProper}
use Rattle.pages.specs.Rules.{fault, is_stage, stages_in, closing_in, place_of, are_free, all_used, ended, read_text, NoFaultExactlyInProperPages}
use Rattle.pages.specs.declared.lines.StageLine.{StageLine}
use Rattle.pages.specs.declared.lines.Line.{Line}
use Rattle.pages.specs.declared.lines.Line.TheVariants.{Stage, Arguments, Results, Kept}
use Rattle.pages.proofs.Bytes.{lines_of_text, text_of_lines}
use Rattle.pages.proofs.Steps.{IsStep, AreSteps, HasRead, read_ok, ok_of_steps, apart}
use Rattle.pages.proofs.Grammar.{faultless, no_fault, stages_append, closing_append, named_append, Within, free_within, free_once, are_free_once, used_all, all_used_once}

-- from steps to a page

order : (before : List Line) (l : Line) → IsStep before l → closing_in before ≡ place_of l
order before l s = (faultless before l s.is_without_fault).in_order

pub closing_more : (before : List Line) (l : Line) → closing_in (before ++ l ∷ []) ≡ closing_in before + closing_in (l ∷ [])
closing_more before l = closing_append before (l ∷ [])

behind_three : (before ls : List Line) → closing_in before ≡ 3 → AreSteps before ls → ls ≡ []
behind_three before [] e s = refl
behind_three before (Stage x ∷ ls) e s = absurd (omega (arith, e, order before (Stage x) s.0))
behind_three before (Arguments x ∷ ls) e s = absurd (omega (arith, e, order before (Arguments x) s.0))
behind_three before (Results x ∷ ls) e s = absurd (omega (arith, e, order before (Results x) s.0))
behind_three before (Kept x ∷ ls) e s = absurd (omega (arith, e, order before (Kept x) s.0))

too_few : (before : List Line) (n : ℕ) → closing_in before ≡ n → n < 3 → closing_in (before ++ []) ≡ 3 → ⊥
too_few before n e l f = omega (arith, ap closing_in (append-nil before), e, f)

behind_two : (before ls : List Line) → closing_in before ≡ 2 → AreSteps before ls → closing_in (before ++ ls) ≡ 3 → (kept : List ℕ) × (ls ≡ Kept (listed kept) ∷ [])
behind_two before [] e s f = absurd (too_few before 2 e (omega arith) f)
behind_two before (Stage x ∷ ls) e s f = absurd (omega (arith, e, order before (Stage x) s.0))
behind_two before (Arguments x ∷ ls) e s f = absurd (omega (arith, e, order before (Arguments x) s.0))
behind_two before (Results x ∷ ls) e s f = absurd (omega (arith, e, order before (Results x) s.0))
behind_two before (Kept x ∷ ls) e s f = (x.items, ap (λ xs. Kept x ∷ xs) (behind_three (before ++ Kept x ∷ []) ls (omega (arith, e, closing_more before (Kept x))) s.1))

behind_one : (before ls : List Line) → closing_in before ≡ 1 → AreSteps before ls → closing_in (before ++ ls) ≡ 3 → (r : ℕ) × (kept : List ℕ) × (ls ≡ Results r ∷ Kept (listed kept) ∷ [])
behind_one before [] e s f = absurd (too_few before 1 e (omega arith) f)
behind_one before (Stage x ∷ ls) e s f = absurd (omega (arith, e, order before (Stage x) s.0))
behind_one before (Arguments x ∷ ls) e s f = absurd (omega (arith, e, order before (Arguments x) s.0))
behind_one before (Kept x ∷ ls) e s f = absurd (omega (arith, e, order before (Kept x) s.0))
behind_one before (Results x ∷ ls) e s f =
    let more = behind_two (before ++ Results x ∷ []) ls (omega (arith, e, closing_more before (Results x))) s.1 (ap closing_in (append_assoc before (Results x ∷ []) ls) ∙ f) in
    (x, more.0, ap (λ xs. Results x ∷ xs) more.1)

abbrev page_of : List StageLine → ℕ → ℕ → List ℕ → Page
page_of ss a r k = record { stages = ss; arguments = a; results = r; kept = k }

behind_none : (before ls : List Line) → closing_in before ≡ 0 → AreSteps before ls → closing_in (before ++ ls) ≡ 3 → (p : Page) × (ls ≡ page_lines p)
behind_none before [] e s f = absurd (too_few before 0 e (omega arith) f)
behind_none before (Results x ∷ ls) e s f = absurd (omega (arith, e, order before (Results x) s.0))
behind_none before (Kept x ∷ ls) e s f = absurd (omega (arith, e, order before (Kept x) s.0))
behind_none before (Arguments x ∷ ls) e s f =
    let more = behind_one (before ++ Arguments x ∷ []) ls (omega (arith, e, closing_more before (Arguments x))) s.1 (ap closing_in (append_assoc before (Arguments x ∷ []) ls) ∙ f) in
    (page_of [] x more.0 more.1, ap (λ xs. Arguments x ∷ xs) more.2)
behind_none before (Stage x ∷ ls) e s f =
    let more = behind_none (before ++ Stage x ∷ []) ls (omega (arith, e, closing_more before (Stage x))) s.1 (ap closing_in (append_assoc before (Stage x ∷ []) ls) ∙ f) in
    let q = more.0 in
    (page_of (x ∷ q.stages) q.arguments q.results q.kept, ap (λ xs. Stage x ∷ xs) more.1)

-- what all steps show

each_step : (P : Line → Type 0) → ((before : List Line) (l : Line) → IsStep before l → P l) → (before ls : List Line) → AreSteps before ls → AllByRecursion P ls
each_step P h before [] s = tt
each_step P h before (l ∷ ls) s = (h before l s.0, each_step P h (before ++ l ∷ []) ls s.1)

few : (before ls : List Line) → stages_in before ≤ 24 → AreSteps before ls → stages_in (before ++ ls) ≤ 24
few before [] h s = omega (arith, ap stages_in (append-nil before), h)
few before (l ∷ ls) h s =
    let one : stages_in (before ++ l ∷ []) ≤ 24 = one_more (is_stage l) refl in
    omega (arith, ap stages_in (append_assoc before (l ∷ []) ls), few (before ++ l ∷ []) ls one s.1)
  where
    one_more : (b : Bool) → is_stage l ≡ b → stages_in (before ++ l ∷ []) ≤ 24
    one_more true e = grind (arith, stages_append before (l ∷ []), e, (faultless before l s.0.is_without_fault).few_stages e)
    one_more false e = grind (arith, stages_append before (l ∷ []), e, h)

-- what a line names was free
named_free : (before : List Line) (l : Line) → IsStep before l → are_free (stages_in before) (all_named before) (named l) ≡ true
named_free before l s = (faultless before l s.is_without_fault).names_free_stages

named_within : (before : List Line) (l : Line) → IsStep before l → AllByRecursion (Within (stages_in before)) (named l)
named_within before l s = free_within (stages_in before) (all_named before) (named l) (named_free before l s)

no_stage : (before : List Line) (l : Line) → is_stage l ≡ false → stages_in (before ++ l ∷ []) ≡ stages_in before
no_stage before l e = grind (arith, stages_append before (l ∷ []), e)

earlier : (before ls : List Line) → AreSteps before ls → NameEarlierStages (stages_in before) ls
earlier before [] s = tt
earlier before (Stage x ∷ ls) s = (named_within before (Stage x) s.0, subst (λ n. NameEarlierStages n ls) (stages_append before (Stage x ∷ [])) (earlier (before ++ Stage x ∷ []) ls s.1))
earlier before (Arguments x ∷ ls) s = (named_within before (Arguments x) s.0, subst (λ n. NameEarlierStages n ls) (no_stage before (Arguments x) refl) (earlier (before ++ Arguments x ∷ []) ls s.1))
earlier before (Results x ∷ ls) s = (named_within before (Results x) s.0, subst (λ n. NameEarlierStages n ls) (no_stage before (Results x) refl) (earlier (before ++ Results x ∷ []) ls s.1))
earlier before (Kept x ∷ ls) s = (named_within before (Kept x) s.0, subst (λ n. NameEarlierStages n ls) (no_stage before (Kept x) refl) (earlier (before ++ Kept x ∷ []) ls s.1))

pub named_one : (before : List Line) (l : Line) → all_named (before ++ l ∷ []) ≡ all_named before ++ named l
named_one before l = named_append before (l ∷ []) ∙ ap (λ xs. all_named before ++ xs) (append-nil (named l))

once : (before ls : List Line) → ((k : ℕ) → times k (all_named before) ≤ 1) → AreSteps before ls → (k : ℕ) → times k (all_named (before ++ ls)) ≤ 1
once before [] h s k = subst (λ xs. times k (all_named xs) ≤ 1) (sym (append-nil before)) (h k)
once before (l ∷ ls) h s k =
    subst (λ xs. times k (all_named xs) ≤ 1) (append_assoc before (l ∷ []) ls)
    (once (before ++ l ∷ []) ls (λ j. subst (λ xs. times j xs ≤ 1) (sym (named_one before l)) (free_once (stages_in before) (all_named before) (named l) (named_free before l s.0) h j)) s.1 k)

-- how many stages a page has, and how many other lines

stages_of : (ss : List StageLine) (ls : List Line) → stages_in (map Stage ss ++ ls) ≡ length ss + stages_in ls
stages_of [] ls = omega arith
stages_of (x ∷ ss) ls = omega (arith, stages_of ss ls)

closing_of : (ss : List StageLine) (ls : List Line) → closing_in (map Stage ss ++ ls) ≡ closing_in ls
closing_of [] ls = refl
closing_of (x ∷ ss) ls = closing_of ss ls

stages_of_page : (p : Page) → stages_in (page_lines p) ≡ length p.stages
stages_of_page p = omega (arith, stages_of p.stages (closing_lines p))

closing_of_page : (p : Page) → closing_in (page_lines p) ≡ 3
closing_of_page p = closing_of p.stages (closing_lines p)

-- where a text may end
record AtEnd (ls : List Line) : Type 0 where
  pub all_closing_lines : closing_in ls ≡ 3
  pub all_stages_used : all_used (stages_in ls) (all_named ls) ≡ true

at_end : (ls : List Line) → ended ls ≡ Ok ls → AtEnd ls
at_end ls h =
    elim (cases_Bool (nat_eq (closing_in ls) 3 && all_used (stages_in ls) (all_named ls))) [
      | inl y ↦ let a = and_parts (nat_eq (closing_in ls) 3) (all_used (stages_in ls) (all_named ls)) y in record { all_closing_lines = eqb-true (closing_in ls) 3 a.0; all_stages_used = a.1 }
      | inr n ↦ absurd (apart ls (fault 5 (length ls)) (sym (rw n at h)))
    ]

ends : (ls : List Line) → AtEnd ls → ended ls ≡ Ok ls
ends ls h = rw (h.all_closing_lines, h.all_stages_used) refl

-- a page whose lines are steps up to an end, in a text that is short enough
proper_page : (p : Page) → AreSteps [] (page_lines p) → AtEnd (page_lines p) → length (text_of (page_lines p)) ≤ 8192 → IsProper p
proper_page p s e l = record {
  stages_are_at_most_24 = omega (arith, few [] (page_lines p) (omega arith) s, stages_of_page p);
  lines_have_the_form = each_step HasTheForm (λ before k t. t.has_the_form) [] (page_lines p) s;
  numbers_and_registers_are_in_range = each_step (λ k. is_in_range k ≡ true) (λ before k t. (faultless before k t.is_without_fault).in_range) [] (page_lines p) s;
  lines_name_earlier_stages = earlier [] (page_lines p) s;
  each_stage_is_named_once = λ k m n.
      omega (arith, once [] (page_lines p) (λ j. omega arith) s k, used_all (stages_in (page_lines p)) (all_named (page_lines p)) e.all_stages_used k m (omega (arith, n, stages_of_page p)));
  lines_are_at_most_120_bytes = each_step (λ k. length (line_bytes k) ≤ 120) (λ before k t. t.is_at_most_120_bytes) [] (page_lines p) s;
  text_is_at_most_8192_bytes = l;
}

some_parts : (text : List ℕ) → 1 ≤ length (parts 10 text)
some_parts text = omega (arith, length-slice_split (λ b. b == 10) text)

read_is_proper : (text : List ℕ) (ls : List Line) → read_text text ≡ Ok ls → (p : Page) × IsProper p × (page_lines p ≡ ls) × (text_of ls ≡ text)
read_is_proper text ls h =
    elim (cases_Bool (nat_le 1 (length text) && nat_le (length text) 8192)) [
      | inl y ↦ from_lines (leb-true (length text) 8192 (and_parts (nat_le 1 (length text)) (nat_le (length text) 8192) y).1) (read_ok (parts 10 text) [] ls (some_parts text) (rw y at h))
      | inr n ↦ absurd (apart ls (fault 1 0) (sym (rw n at h)))
    ]
  where
    from_lines : length text ≤ 8192 → HasRead [] (parts 10 text) ls → (p : Page) × IsProper p × (page_lines p ≡ ls) × (text_of ls ≡ text)
    from_lines l r =
        let e = at_end ls r.at_end in
        let s : AreSteps [] ls = subst (AreSteps []) (sym r.behind) r.steps in
        let q = behind_none [] ls refl s e.all_closing_lines in
        let t : text ≡ text_of ls = text_of_lines text ls (r.bytes ∙ ap (λ xs. map line_bytes xs ++ [] ∷ []) (sym r.behind)) in
        (q.0, proper_page q.0 (subst (AreSteps []) q.1 s) (subst AtEnd q.1 e) (omega (arith, ap length t, ap (λ xs. length (text_of xs)) q.1, l)), sym q.1, sym t)

-- from a page to steps

-- lines of which each has its place behind those before it
abbrev InOrder : List Line → List Line → Type 0
InOrder before [] = Unit {0}
InOrder before (l ∷ ls) = (closing_in before ≡ place_of l) × InOrder (before ++ l ∷ []) ls

stages_in_order : (before : List Line) (ss : List StageLine) (p : Page) → closing_in before ≡ 0 → InOrder before (map Stage ss ++ closing_lines p)
stages_in_order before [] p e =
    (e, (omega (arith, e, closing_more before (Arguments p.arguments)), (omega (arith, e, closing_more before (Arguments p.arguments), closing_more (before ++ Arguments p.arguments ∷ []) (Results p.results)), tt)))
stages_in_order before (x ∷ ss) p e = (e, stages_in_order (before ++ Stage x ∷ []) ss p (omega (arith, e, closing_more before (Stage x))))

named_first : (n : ℕ) (l : Line) (ls : List Line) → NameEarlierStages n (l ∷ ls) → AllByRecursion (Within n) (named l)
named_first n (Stage x) ls h = h.0
named_first n (Arguments x) ls h = h.0
named_first n (Results x) ls h = h.0
named_first n (Kept x) ls h = h.0

named_on : (before : List Line) (l : Line) (ls : List Line) → NameEarlierStages (stages_in before) (l ∷ ls) → NameEarlierStages (stages_in (before ++ l ∷ [])) ls
named_on before (Stage x) ls h = subst (λ n. NameEarlierStages n ls) (sym (stages_append before (Stage x ∷ []))) h.1
named_on before (Arguments x) ls h = subst (λ n. NameEarlierStages n ls) (sym (no_stage before (Arguments x) refl)) h.1
named_on before (Results x) ls h = subst (λ n. NameEarlierStages n ls) (sym (no_stage before (Results x) refl)) h.1
named_on before (Kept x) ls h = subst (λ n. NameEarlierStages n ls) (sym (no_stage before (Kept x) refl)) h.1

-- what is owed of lines behind others for each to be a step
record Fit (before ls : List Line) : Type 0 where
  pub forms : AllByRecursion HasTheForm ls
  pub ranges : AllByRecursion (λ l. is_in_range l ≡ true) ls
  pub lengths : AllByRecursion (λ l. length (line_bytes l) ≤ 120) ls
  pub order : InOrder before ls
  pub names : NameEarlierStages (stages_in before) ls
  pub names_once : (k : ℕ) → 1 ≤ k → k ≤ stages_in (before ++ ls) → times k (all_named (before ++ ls)) ≤ 1
  pub few : stages_in (before ++ ls) ≤ 24

fit_step : (before : List Line) (l : Line) (ls : List Line) → Fit before (l ∷ ls) → IsStep before l
fit_step before l ls f =
    let more : stages_in (before ++ l ∷ ls) ≡ stages_in before + stages_in (l ∷ ls) = stages_append before (l ∷ ls) in
    record {
      has_the_form = f.forms.0;
      is_at_most_120_bytes = f.lengths.0;
      is_without_fault = no_fault before l (record {
        in_order = f.order.0;
        in_range = f.ranges.0;
        names_free_stages = are_free_once (stages_in before) (all_named before) (named l) (all_named ls) (named_first (stages_in before) l ls f.names) (λ k m n. subst (λ xs. times k xs ≤ 1) (named_append before (l ∷ ls)) (f.names_once k m (omega (arith, n, more))));
        few_stages = λ s. grind (arith, s, more, f.few);
      });
    }

fit_on : (before : List Line) (l : Line) (ls : List Line) → Fit before (l ∷ ls) → Fit (before ++ l ∷ []) ls
fit_on before l ls f = record {
  forms = f.forms.1;
  ranges = f.ranges.1;
  lengths = f.lengths.1;
  order = f.order.1;
  names = named_on before l ls f.names;
  names_once = subst (λ xs. (k : ℕ) → 1 ≤ k → k ≤ stages_in xs → times k (all_named xs) ≤ 1) (sym (append_assoc before (l ∷ []) ls)) f.names_once;
  few = subst (λ xs. stages_in xs ≤ 24) (sym (append_assoc before (l ∷ []) ls)) f.few;
}

steps_of_fit : (ls before : List Line) → Fit before ls → AreSteps before ls
steps_of_fit [] before f = tt
steps_of_fit (l ∷ ls) before f = (fit_step before l ls f, steps_of_fit ls (before ++ l ∷ []) (fit_on before l ls f))

fit_page : (p : Page) → IsProper p → Fit [] (page_lines p)
fit_page p h = record {
  forms = h.lines_have_the_form;
  ranges = h.numbers_and_registers_are_in_range;
  lengths = h.lines_are_at_most_120_bytes;
  order = stages_in_order [] p.stages p refl;
  names = h.lines_name_earlier_stages;
  names_once = λ k m n. omega (arith, h.each_stage_is_named_once k m (omega (arith, n, stages_of_page p)));
  few = omega (arith, h.stages_are_at_most_24, stages_of_page p);
}

page_ends : (p : Page) → IsProper p → AtEnd (page_lines p)
page_ends p h = record {
  all_closing_lines = closing_of_page p;
  all_stages_used = all_used_once (stages_in (page_lines p)) (all_named (page_lines p)) (λ k m n. omega (arith, h.each_stage_is_named_once k m (omega (arith, n, stages_of_page p))));
}

some_bytes : (ls : List Line) → 1 ≤ length ls → 1 ≤ length (text_of ls)
some_bytes [] l = absurd (omega (arith, l))
some_bytes (x ∷ ls) l = omega (arith, length-append (line_bytes x ++ 10 ∷ []) (text_of ls), length-append (line_bytes x) (10 ∷ []))

some_lines : (p : Page) → 1 ≤ length (page_lines p)
some_lines p = omega (arith, length-append (map Stage p.stages) (closing_lines p))

proper_is_read : (p : Page) → IsProper p → read_text (text_of (page_lines p)) ≡ Ok (page_lines p)
proper_is_read p h =
    let ls = page_lines p in
    let e = page_ends p h in
    rw (le-leb 1 (length (text_of ls)) (some_bytes ls (some_lines p)), le-leb (length (text_of ls)) 8192 h.text_is_at_most_8192_bytes, lines_of_text ls)
    (ok_of_steps ls [] (steps_of_fit ls [] (fit_page p h)) (ends ls e))

pub no_fault_exactly_in_proper_pages : NoFaultExactlyInProperPages
no_fault_exactly_in_proper_pages = record { lines_without_fault_are_a_proper_page = read_is_proper; a_proper_page_is_without_fault = proper_is_read }
