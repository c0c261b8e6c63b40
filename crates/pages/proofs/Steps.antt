-- A text is read line by line.
use Rattle.std.proofs.Common.{◌≡◌, inl, inr, ℕ, suc, ◌+◌, ◌≤◌, false, List, [], ◌∷◌, ◌++◌, map, length, Option, Some, None, Result, Ok, Err, refl, ap, sym, subst, ◌∙◌, append-nil, append_assoc, nat_eq, nat_le, ◌&&◌, arith}
use Rattle.std.proofs.lemmas.Bool.{cases_Bool, le-leb, leb-true}
use Rattle.std.specs.Result.{result_ok}
use Rattle.texts.proofs.Options.{the_same}
use Rattle.texts.specs.Parts.{parts}
use Rattle.pages.specs.Lines.{line_bytes, HasTheForm, line_of}
use Rattle.pages.specs.Rules.{fault, number_of_fault, unless, checked, read_line, on_behind, closing_in, stages_in, all_used, ended, read_lines}
use Rattle.pages.specs.Pages.{all_named}
use Rattle.pages.specs.declared.lines.Line.{Line}
use Rattle.pages.proofs.Written.{line_of_its_words, words_of_its_line}
use Rattle.pages.proofs.Bytes.{words_of_bytes, bytes_of_words}

-- a line that may stand behind others
pub record IsStep (before : List Line) (l : Line) : Type 0 where
  pub has_the_form : HasTheForm l
  pub is_without_fault : number_of_fault before l ≡ None
  pub is_at_most_120_bytes : length (line_bytes l) ≤ 120

-- lines of which each may stand behind those before it
abbrev pub AreSteps : List Line → List Line → Type 0
AreSteps before [] = Unit {0}
AreSteps before (l ∷ ls) = IsStep before l × AreSteps (before ++ l ∷ []) ls

-- no answer is a line and a fault
pub apart : {T E : Type 0} (t : T) (e : E) → Ok t ≡ Err e → ⊥
apart t e h = grind (arith, h)

pub the_line : {T E : Type 0} (l k : T) → Path (Result T E) (Ok l) (Ok k) → l ≡ k
the_line l k h = the_same l k (ap result_ok h)

checked_ok : (before : List Line) (r : Option Line) (l : Line) → checked before r ≡ Ok l → (r ≡ Some l) × (number_of_fault before l ≡ None)
checked_ok before None l h = absurd (apart l 2 (sym h))
checked_ok before (Some k) l h = by (number_of_fault before k) refl h
  where
    by : (o : Option ℕ) → number_of_fault before k ≡ o → unless o k ≡ Ok l → (Some k ≡ Some l) × (number_of_fault before l ≡ None)
    by None e h = let same = the_line k l h in (ap Some same, subst (λ x. number_of_fault before x ≡ None) same e)
    by (Some n) e h = absurd (apart l n (sym h))

pub read_line_ok : (before : List Line) (bytes : List ℕ) (l : Line) → read_line before bytes ≡ Ok l → IsStep before l × (line_bytes l ≡ bytes)
read_line_ok before bytes l h =
    elim (cases_Bool (nat_le (length bytes) 120)) [
      | inl y ↦
          let a = checked_ok before (line_of (parts 32 bytes)) l (rw y at h) in
          let b = words_of_its_line (parts 32 bytes) l a.0 in
          let c = bytes_of_words l bytes b.1 in
          (record { has_the_form = b.0; is_without_fault = a.1; is_at_most_120_bytes = omega (arith, ap length c, leb-true (length bytes) 120 y) }, c)
      | inr n ↦ absurd (apart l 2 (sym (rw n at h)))
    ]

pub ok_of_step : (before : List Line) (l : Line) → IsStep before l → read_line before (line_bytes l) ≡ Ok l
ok_of_step before l s =
    rw (le-leb (length (line_bytes l)) 120 s.is_at_most_120_bytes, words_of_bytes l, line_of_its_words l s.has_the_form) (ap (λ o. unless o l) s.is_without_fault)

-- what was read behind the lines before
pub record HasRead (before : List Line) (bs : List (List ℕ)) (ls : List Line) : Type 0 where
  pub lines : List Line
  pub behind : ls ≡ before ++ lines
  pub steps : AreSteps before lines
  pub bytes : bs ≡ map line_bytes lines ++ [] ∷ []
  pub at_end : ended ls ≡ Ok ls

ended_ok : (before ls : List Line) → ended before ≡ Ok ls → (before ≡ ls) × (ended ls ≡ Ok ls)
ended_ok before ls h =
    elim (cases_Bool (nat_eq (closing_in before) 3 && all_used (stages_in before) (all_named before))) [
      | inl y ↦ let same = the_line before ls (rw y at h) in (same, subst (λ x. ended x ≡ Ok ls) same h)
      | inr n ↦ absurd (apart ls (fault 5 (length before)) (sym (rw n at h)))
    ]

at_end : (before ls : List Line) → ended before ≡ Ok ls → HasRead before ([] ∷ []) ls
at_end before ls h =
    let e = ended_ok before ls h in
    record { lines = []; behind = sym e.0 ∙ sym (append-nil before); steps = tt; bytes = refl; at_end = e.1 }

pub read_ok : (bs : List (List ℕ)) (before ls : List Line) → 1 ≤ length bs → read_lines before bs ≡ Ok ls → HasRead before bs ls
read_ok [] before ls l h = absurd (omega arith)
read_ok ([] ∷ []) before ls l h = at_end before ls h
read_ok ((x ∷ b) ∷ []) before ls l h =
    let some : nat_eq (suc (length b)) 0 ≡ false = grind arith in
    absurd (apart ls (fault 2 (length before + 1)) (sym (rw some at h)))
read_ok (b ∷ c ∷ bs) before ls l h = by (λ k. read_ok (c ∷ bs) (before ++ k ∷ []) ls (omega arith)) (read_line before b) refl h
  where
    by : ((k : Line) → read_lines (before ++ k ∷ []) (c ∷ bs) ≡ Ok ls → HasRead (before ++ k ∷ []) (c ∷ bs) ls) → (r : Result Line ℕ) → read_line before b ≡ r → on_behind (length before + 1) (λ l. read_lines (before ++ l ∷ []) (c ∷ bs)) r ≡ Ok ls → HasRead before (b ∷ c ∷ bs) ls
    by go (Err n) e h = absurd (apart ls (fault n (length before + 1)) (sym h))
    by go (Ok k) e h =
        let s = read_line_ok before b k e in
        let more = go k h in
        record {
          lines = k ∷ more.lines;
          behind = more.behind ∙ append_assoc before (k ∷ []) more.lines;
          steps = (s.0, more.steps);
          bytes = ap (λ x. x ∷ c ∷ bs) (sym s.1) ∙ ap (λ xs. line_bytes k ∷ xs) more.bytes;
          at_end = more.at_end;
        }

pub ok_of_steps : (ls before : List Line) → AreSteps before ls → ended (before ++ ls) ≡ Ok (before ++ ls) → read_lines before (map line_bytes ls ++ [] ∷ []) ≡ Ok (before ++ ls)
ok_of_steps [] before s e = subst (λ xs. ended before ≡ Ok xs) (sym (append-nil before)) (subst (λ xs. ended xs ≡ Ok xs) (append-nil before) e)
ok_of_steps (l ∷ ls) before s e = next ls (ok_of_steps ls (before ++ l ∷ []) s.1 (subst (λ xs. ended xs ≡ Ok xs) (sym (append_assoc before (l ∷ []) ls)) e))
  where
    next : (ls : List Line) → read_lines (before ++ l ∷ []) (map line_bytes ls ++ [] ∷ []) ≡ Ok ((before ++ l ∷ []) ++ ls) → read_lines before (line_bytes l ∷ (map line_bytes ls ++ [] ∷ [])) ≡ Ok (before ++ l ∷ ls)
    next [] h = ap (on_behind (length before + 1) (λ k. read_lines (before ++ k ∷ []) ([] ∷ []))) (ok_of_step before l s.0) ∙ (h ∙ ap Ok (append_assoc before (l ∷ []) []))
    next (k ∷ ks) h = ap (on_behind (length before + 1) (λ k'. read_lines (before ++ k' ∷ []) (line_bytes k ∷ (map line_bytes ks ++ [] ∷ [])))) (ok_of_step before l s.0) ∙ (h ∙ ap Ok (append_assoc before (l ∷ []) (k ∷ ks)))
