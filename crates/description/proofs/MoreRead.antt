-- What a line more makes of what was read.
use Rattle.std.proofs.Common.{◌≡◌, ℕ, ◌+◌, ◌<◌, ◌≤◌, Bool, true, false, ◌&&◌, List, [], ◌∷◌, ◌++◌, Option, Some, None, length, refl, ap, sym, subst, ◌∙◌, append-nil, append_assoc, nat_le, arith}
use Rattle.std.proofs.lemmas.Bool.{eq-eqb, le-leb, leb-true}
use Rattle.std.specs.Option.{is_some}
use Rattle.arrayvec.specs.ArrayVec.{ArrayVec}
use Rattle.banks.specs.Lists.{distinct, set_of}
use Rattle.place.specs.declared.registers.RegisterSet.{RegisterSet}
use Rattle.texts.specs.Lists.{listed}
use Rattle.pages.specs.Table.{below_of}
use Rattle.pages.specs.Pages.{is_in_range, named, all_named}
use Rattle.pages.specs.Rules.{stages_in, closing_in, place_of, is_free, are_free, number_of_fault}
use Rattle.pages.proofs.Proper.{named_one, closing_more}
use Rattle.pages.specs.declared.lines.StageLine.{StageLine}
use Rattle.pages.specs.declared.lines.Line.{Line}
use Rattle.pages.specs.declared.lines.Line.TheVariants.{Stage, Arguments, Results, Kept}
use Rattle.description.specs.Plans.{PlanFits, CanBeBuilt, made_behind, Make}
use Rattle.description.specs.Profiles.{Meaning, nothing_said, with_line, meaning_of, stage_at, profile_of}
use Rattle.description.specs.Readings.{Marks, named_behind, IsThereFrom, HasRead}
use Rattle.description.specs.declared.plan.Plan.{Plan}
use Rattle.description.specs.declared.plan.Planned.{Planned}
use Rattle.description.specs.declared.reading.Reading.{Reading}
use Rattle.description.proofs.Counting.{stages_counted, lines_counted, meaning_more}
use Rattle.description.proofs.Making.{made_counted, make_more}

meaning_one : (before : List Line) (l : Line) → meaning_of (before ++ l ∷ []) ≡ with_line (meaning_of before) l
meaning_one = meaning_more nothing_said

-- what HasRead says, by the meaning, the named stages and the count of lines behind the stages
record Reads (m : Meaning) (names : List ℕ) (closing : ℕ) (r : Reading) : Type 0 where
  pub named : List ℕ
  pub plans_make_the_stages : Make r.planned.items [] [] m.stages named
  pub all_are_named : names ≡ named ++ named_behind r.arguments r.results
  pub names_free_stages : are_free (length m.stages) named (named_behind r.arguments r.results) ≡ true
  pub marks : Marks names r.marks
  pub arguments : IsThereFrom 1 closing r.arguments (λ k. m.arguments ≡ stage_at m.stages k)
  pub results : IsThereFrom 2 closing r.results (λ k. m.results ≡ stage_at m.stages k)
  pub kept : IsThereFrom 3 closing r.kept (λ s. s.bits ≡ set_of m.kept)
  pub three_at_most : closing ≤ 3

has_read : (before : List Line) (l : Line) (r : Reading) → Reads (with_line (meaning_of before) l) (all_named before ++ named l) (closing_in before + closing_in (l ∷ [])) r → HasRead (before ++ l ∷ []) r
has_read before l r h =
    let k : Reads (meaning_of (before ++ l ∷ [])) (all_named (before ++ l ∷ [])) (closing_in (before ++ l ∷ [])) r = rw (meaning_one before l, named_one before l, closing_more before l) h in
    record {
      named = k.named;
      plans_make_the_stages = k.plans_make_the_stages;
      all_are_named = k.all_are_named;
      names_free_stages = k.names_free_stages;
      marks = k.marks;
      arguments = k.arguments;
      results = k.results;
      kept = k.kept;
      three_at_most = k.three_at_most;
    }

-- what is not there yet, and what stays there
absent : {X : Type 0} (n c d : ℕ) (slot : Option X) (P Q : X → Type 0) → c < n → d < n → IsThereFrom n c slot P → IsThereFrom n d slot Q
absent n c d None P Q l m h = m
absent n c d (Some x) P Q l m h = absurd (omega (arith, h.0, l))

stays : {X : Type 0} (n c d : ℕ) (slot : Option X) (P : X → Type 0) → n ≤ c → n ≤ d → IsThereFrom n c slot P → IsThereFrom n d slot P
stays n c d None P l m h = absurd (omega (arith, h, l))
stays n c d (Some x) P l m h = (m, h.1)

not_yet : {X : Type 0} (n c : ℕ) (slot : Option X) (P : X → Type 0) → c < n → IsThereFrom n c slot P → slot ≡ None
not_yet n c None P l h = refl
not_yet n c (Some x) P l h = absurd (omega (arith, h.0, l))

-- how many lines behind the stages were read, by what is there and what is not
below_by : {X : Type 0} (n c : ℕ) (slot : Option X) (P : X → Type 0) → is_some slot ≡ false → IsThereFrom n c slot P → c < n
below_by n c None P e h = h
below_by n c (Some x) P e h = grind (arith, e)

from_by : {X : Type 0} (n c : ℕ) (slot : Option X) (P : X → Type 0) → is_some slot ≡ true → IsThereFrom n c slot P → n ≤ c
from_by n c None P e h = grind (arith, e)
from_by n c (Some x) P e h = h.0

none_is_there : {X : Type 0} (slot : Option X) → is_some slot ≡ false → slot ≡ None
none_is_there None e = refl
none_is_there (Some x) e = grind (arith, e)

some_is_there : {X : Type 0} (slot : Option X) → is_some slot ≡ true → (x : X) × (slot ≡ Some x)
some_is_there None e = grind (arith, e)
some_is_there (Some x) e = (x, refl)

abbrev pub reading : ArrayVec Planned → List Bool → Option ℕ → Option ℕ → Option RegisterSet → Reading
reading p m a r k = record { planned = p; marks = m; arguments = a; results = r; kept = k }

module _ (before : List Line) (r : Reading) (h : HasRead before r) where
  abbrev m : Meaning
  m = meaning_of before

  abbrev c : ℕ
  c = closing_in before

  pub plans_counted : stages_in before ≡ length r.planned.items
  plans_counted = omega (arith, stages_counted before, made_counted _ _ _ _ _ h.plans_make_the_stages)

  stages_are_plans : length m.stages ≡ length r.planned.items
  stages_are_plans = omega (arith, made_counted _ _ _ _ _ h.plans_make_the_stages)

  -- the stages that a line names are free by the plans where they are by the rules
  free_here : (ks : List ℕ) (b : Bool) → are_free (length r.planned.items) (all_named before) ks ≡ b → are_free (stages_in before) (all_named before) ks ≡ b
  free_here ks b f = subst (λ n. are_free n (all_named before) ks ≡ b) (sym plans_counted) f

  pub alone : (k : ℕ) (b : Bool) → is_free (length r.planned.items) (all_named before) k ≡ b → are_free (length r.planned.items) (all_named before) (k ∷ []) ≡ b
  alone k true f = rw f refl
  alone k false f = rw f refl

  pub no_arguments : is_some r.arguments ≡ false → c ≡ 0
  no_arguments e = omega (arith, below_by 1 c r.arguments (λ k. m.arguments ≡ stage_at m.stages k) e h.arguments)

  pub arguments_alone : is_some r.arguments ≡ true → is_some r.results ≡ false → c ≡ 1
  arguments_alone e f = omega (arith, from_by 1 c r.arguments (λ k. m.arguments ≡ stage_at m.stages k) e h.arguments, below_by 2 c r.results (λ k. m.results ≡ stage_at m.stages k) f h.results)

  pub results_alone : is_some r.results ≡ true → is_some r.kept ≡ false → c ≡ 2
  results_alone e f = omega (arith, from_by 2 c r.results (λ k. m.results ≡ stage_at m.stages k) e h.results, below_by 3 c r.kept (λ s. s.bits ≡ set_of m.kept) f h.kept)

  -- nothing but stage lines was read
  named_by_stages : is_some r.arguments ≡ false → all_named before ≡ h.named
  named_by_stages e = (rw (none_is_there r.arguments e) at h.all_are_named) ∙ append-nil h.named

  pub no_such_stage : (l : Line) → c ≡ place_of l → is_in_range l ≡ true → are_free (length r.planned.items) (all_named before) (named l) ≡ false → number_of_fault before l ≡ Some 4
  no_such_stage l p range f = rw (eq-eqb c (place_of l) p, range, free_here (named l) false f) refl

  -- a stage line more

  pub one_too_many : (s : StageLine) → is_some r.arguments ≡ false → is_in_range (Stage s) ≡ true → are_free (length r.planned.items) (all_named before) s.below.items ≡ true
      → nat_le 24 (length r.planned.items) ≡ true → number_of_fault before (Stage s) ≡ Some 5
  one_too_many s e range f full =
      rw (no_arguments e, range, free_here s.below.items true f, le-leb 24 (stages_in before) (omega (arith, plans_counted, leb-true 24 (length r.planned.items) full))) refl

  few : (n k : ℕ) → n ≡ k → nat_le 24 k ≡ false → nat_le 24 n ≡ false
  few n k e l = rw e l

  pub with_stage : (t : Reading) → t ≡ record r { marks = t.marks } → (line : ℕ) (s : StageLine) (plan : Plan) → line ≡ length before + 1 → is_some r.arguments ≡ false → is_in_range (Stage s) ≡ true → PlanFits line s plan
      → length s.below.items ≡ below_of s.stage → are_free (length r.planned.items) (all_named before) s.below.items ≡ true → nat_le 24 (length r.planned.items) ≡ false → Marks (all_named before ++ s.below.items) t.marks
      → (number_of_fault before (Stage s) ≡ None) × HasRead (before ++ Stage s ∷ []) (reading (listed (t.planned.items ++ record { plan = plan; below = s.below } ∷ [])) t.marks t.arguments t.results t.kept)
  with_stage t same line s plan l e range fits form f room marked =
      let none = no_arguments e in
      let empty = none_is_there r.arguments e in
      let p : Planned = record { plan = plan; below = s.below } in
      let line_of_stage : line ≡ length m.stages + 1 = omega (arith, l, lines_counted before, stages_counted before, none) in
      let fits_here = subst (λ n. PlanFits n s plan) line_of_stage fits in
      let free : are_free (length m.stages) h.named s.below.items ≡ true = rw (stages_are_plans, ← named_by_stages e) f in
      let built : CanBeBuilt (length m.stages) h.named p = record { begins = fits_here.begins; needs_the_stages_that_it_names = fits_here.needs_the_stages_below ∙ sym form; names_free_stages = free } in
      let made : made_behind m.stages p ≡ profile_of m.stages s = fits_here.makes_what_the_line_says _ _ in (
        rw (none, range, free_here s.below.items true f, few (stages_in before) (length r.planned.items) plans_counted room) refl,
        subst (λ (x : Reading). HasRead (before ++ Stage s ∷ []) (reading (listed (x.planned.items ++ p ∷ [])) t.marks x.arguments x.results x.kept)) (sym same)
            (has_read before (Stage s) (reading (listed (r.planned.items ++ p ∷ [])) t.marks r.arguments r.results r.kept) (record {
              named = h.named ++ s.below.items;
              plans_make_the_stages =
                  subst (λ q. Make (r.planned.items ++ p ∷ []) [] [] (m.stages ++ q ∷ []) (h.named ++ s.below.items)) made
                  (make_more r.planned.items [] [] m.stages h.named p h.plans_make_the_stages built);
              all_are_named = rw empty (ap (λ xs. xs ++ s.below.items) (named_by_stages e) ∙ sym (append-nil (h.named ++ s.below.items)));
              names_free_stages = rw empty refl;
              marks = marked;
              arguments = absent 1 c (c + 0) r.arguments _ _ (omega (arith, none)) (omega (arith, none)) h.arguments;
              results = absent 2 c (c + 0) r.results _ _ (omega (arith, none)) (omega (arith, none)) h.results;
              kept = absent 3 c (c + 0) r.kept _ _ (omega (arith, none)) (omega (arith, none)) h.kept;
              three_at_most = omega (arith, none);
            })),
      )

  -- a line more behind the stages

  pub with_arguments : (t : Reading) → t ≡ record r { marks = t.marks } → (k : ℕ) → is_some r.arguments ≡ false → is_free (length r.planned.items) (all_named before) k ≡ true → Marks (all_named before ++ k ∷ []) t.marks
      → (number_of_fault before (Arguments k) ≡ None) × HasRead (before ++ Arguments k ∷ []) (reading t.planned t.marks (Some k) t.results t.kept)
  with_arguments t same k e f marked =
      let none = no_arguments e in
      let empty : r.results ≡ None = not_yet 2 c r.results _ (omega (arith, none)) h.results in
      let free : is_free (length m.stages) h.named k ≡ true = rw (stages_are_plans, ← named_by_stages e) f in (
        rw (none, free_here (k ∷ []) true (alone k true f)) refl,
        subst (λ (x : Reading). HasRead (before ++ Arguments k ∷ []) (reading x.planned t.marks (Some k) x.results x.kept)) (sym same)
            (has_read before (Arguments k) (reading r.planned t.marks (Some k) r.results r.kept) (record {
              named = h.named;
              plans_make_the_stages = h.plans_make_the_stages;
              all_are_named = rw empty (ap (λ xs. xs ++ k ∷ []) (named_by_stages e));
              names_free_stages = rw (empty, free) refl;
              marks = marked;
              arguments = (omega arith, refl);
              results = absent 2 c (c + 1) r.results _ _ (omega (arith, none)) (omega (arith, none)) h.results;
              kept = absent 3 c (c + 1) r.kept _ _ (omega (arith, none)) (omega (arith, none)) h.kept;
              three_at_most = omega (arith, none);
            })),
      )

  -- two stages behind those that stage lines name
  two_free : (n : ℕ) (names : List ℕ) (a k : ℕ) → are_free n names (a ∷ []) ≡ true → is_free n (names ++ a ∷ []) k ≡ true → are_free n names (a ∷ k ∷ []) ≡ true
  two_free n names a k e f = two (is_free n names a) e
    where
      two : (b : Bool) → (b && true) ≡ true → (b && (is_free n (names ++ a ∷ []) k && true)) ≡ true
      two true e = rw f refl
      two false e = e

  pub with_results : (t : Reading) → t ≡ record r { marks = t.marks } → (k : ℕ) → is_some r.arguments ≡ true → is_some r.results ≡ false → is_free (length r.planned.items) (all_named before) k ≡ true → Marks (all_named before ++ k ∷ []) t.marks
      → (number_of_fault before (Results k) ≡ None) × HasRead (before ++ Results k ∷ []) (reading t.planned t.marks t.arguments (Some k) t.kept)
  with_results t same k d e f marked =
      let one = arguments_alone d e in
      let there = some_is_there r.arguments d in
      let a = there.0 in
      let empty = none_is_there r.results e in
      let names : all_named before ≡ h.named ++ a ∷ [] = rw (there.1, empty) at h.all_are_named in
      let free : is_free (length m.stages) (h.named ++ a ∷ []) k ≡ true = rw (stages_are_plans, ← names) f in
      let first : are_free (length m.stages) h.named (a ∷ []) ≡ true = rw (there.1, empty) at h.names_free_stages in (
        rw (one, free_here (k ∷ []) true (alone k true f)) refl,
        subst (λ (x : Reading). HasRead (before ++ Results k ∷ []) (reading x.planned t.marks x.arguments (Some k) x.kept)) (sym same)
            (has_read before (Results k) (reading r.planned t.marks r.arguments (Some k) r.kept) (record {
              named = h.named;
              plans_make_the_stages = h.plans_make_the_stages;
              all_are_named = rw there.1 (ap (λ xs. xs ++ k ∷ []) names ∙ append_assoc h.named (a ∷ []) (k ∷ []));
              names_free_stages = rw there.1 (two_free (length m.stages) h.named a k first free);
              marks = marked;
              arguments = stays 1 c (c + 1) r.arguments _ (omega (arith, one)) (omega (arith, one)) h.arguments;
              results = (omega (arith, one), refl);
              kept = absent 3 c (c + 1) r.kept _ _ (omega (arith, one)) (omega (arith, one)) h.kept;
              three_at_most = omega (arith, one);
            })),
      )

  pub with_kept : (xs : List ℕ) (set : RegisterSet) → is_some r.results ≡ true → is_some r.kept ≡ false → distinct xs ≡ true → set.bits ≡ set_of xs
      → (number_of_fault before (Kept (listed xs)) ≡ None) × HasRead (before ++ Kept (listed xs) ∷ []) (reading r.planned r.marks r.arguments r.results (Some set))
  with_kept xs set e f d b =
      let two = results_alone e f in
      let same = append-nil (all_named before) in (
        rw (two, d) refl,
        has_read before (Kept (listed xs)) (reading r.planned r.marks r.arguments r.results (Some set)) (record {
          named = h.named;
          plans_make_the_stages = h.plans_make_the_stages;
          all_are_named = same ∙ h.all_are_named;
          names_free_stages = h.names_free_stages;
          marks = subst (λ ks. Marks ks r.marks) (sym same) h.marks;
          arguments = stays 1 c (c + 1) r.arguments _ (omega (arith, two)) (omega (arith, two)) h.arguments;
          results = stays 2 c (c + 1) r.results _ (omega (arith, two)) (omega (arith, two)) h.results;
          kept = (omega (arith, two), b);
          three_at_most = omega (arith, two);
        }),
      )
