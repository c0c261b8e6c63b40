-- A list that was granted whole: each of its types is held, in order.
use Rattle.std.proofs.Common.{◌≡◌, ℕ, Bool, true, false, cond, leb, List, [], ◌∷◌, ◌++◌, map, length, Some, None, Ok, Err, Option, Result, sym, refl, ap, ◌∙◌, subst, arith, rules}
use Rattle.std.specs.Option.{option_map, option_to_list}
use Rattle.values.specs.Kinds.{is_type}
use Rattle.values.specs.Sizes.{bytes}
use Rattle.values.specs.declared.kinds.Kind.{Kind}
use Rattle.values.specs.declared.requests.Request.{Request}
use Rattle.values.specs.declared.sizes.Size.{Size}
use Rattle.place.specs.declared.pieces.Place.{Place}
use Rattle.stage.specs.Books.{Profile, said}
use Rattle.stage.specs.Faults.{Fault}
use Rattle.allocation.specs.Faults.{Answer}
use Rattle.allocation.specs.Rules.{size_of, request_in, request_of, reaching_with, reaching, answer_for, pile_answer, placed, place_answer}
use Rattle.allocation.specs.States.{State, opened}
use Rattle.histories.specs.Histories.{placed_all, grant, as_held, grant_by, grants}
use Rattle.allocation.specs.declared.asked.Asked.{Asked}
use Rattle.histories.proofs.Granting.{held_grants}
use Rattle.call.specs.Placing.{asked, fault_else, first_refused}
use Rattle.call.specs.Standing.{HeldFor}

-- a fault is found or not
pub some_none : {X : Type 0} {A : Type 0} (x : X) → ◌≡◌ {A = Option X} (Some x) None → A
some_none x e = let z : ◌≡◌ {A = ℕ} 0 1 = cc in absurd (omega arith)

pub err_ok : {X Y A : Type 0} (x : X) (y : Y) → ◌≡◌ {A = Result X Y} (Err y) (Ok x) → A
err_ok x y e = let z : ◌≡◌ {A = ℕ} 0 1 = cc in absurd (omega arith)

-- the first is granted, and the rest too
head_granted : (a : Answer) (next : Option Fault) → fault_else a next ≡ None → (p : Place) × (a ≡ Ok p) × (next ≡ None)
head_granted (Ok p) next e = (p, refl, e)
head_granted (Err f) next e = some_none f e

-- a list of which none is refused is asked for whole
pub all_asked : (qs : List Asked) (s : State) → first_refused s qs ≡ None → asked s qs ≡ qs
all_asked [] s e = refl
all_asked (q ∷ qs) s e =
    let first = head_granted (place_answer s q) (first_refused (placed s q) qs) e in
    rw first.1 (ap (λ (l : List Asked). q ∷ l) (all_asked qs (placed s q) first.2))

-- a size that is given by a number has that number of bytes
size_bytes : (n : ℕ) (s : Size) → size_of n ≡ Some s → bytes s ≡ n
size_bytes n s e = search rules

picked : (b : Bool) (x r : Request) → ◌≡◌ {A = Option Request} (cond b (Some x) None) (Some r) → x ≡ r
picked true x r e = cc
picked false x r e = some_none r (sym e)

-- a request that is given by numbers has that kind and that width
request_has : (k : Kind) (w a : Option Size) (r : Request) → request_in k w a ≡ Some r → (r.kind ≡ k) × (w ≡ Some r.width)
request_has k None a r e = some_none r (sym e)
request_has k (Some w) None r e = some_none r (sym e)
request_has k (Some w) (Some a) r e =
    let same = picked (is_type k w) (record { kind = k; width = w; alignment = a }) r e in
    (sym (ap (λ (x : Request). x.kind) same), ap (λ (x : Request). Some x.width) same)

let_through : (full sound : Bool) (x r : Request) → ◌≡◌ {A = Result Request ℕ} (cond full (Err 22) (cond sound (Ok x) (Err 23))) (Ok r) → x ≡ r
let_through true sound x r e = err_ok r 22 e
let_through false true x r e = cc
let_through false false x r e = err_ok r 23 e

-- what reaches the pile is the request that was given
reached_is : (held : ℕ) (sound : Bool) (o : Option Request) (r : Request) → reaching_with held sound o ≡ Ok r → o ≡ Some r
reached_is held sound None r e = err_ok r 21 e
reached_is held sound (Some x) r e = ap Some (let_through (leb 16 held) sound x r e)

pile_says : (s : State) (o : Option Place) (p : Place) → pile_answer s o ≡ Ok p → o ≡ Some p
pile_says s None p e = err_ok p (record { layer = 2; number = 24; position = length s.held }) e
pile_says s (Some z) p e = cc

-- a place that is answered was given by the pile, for what reached it
answer_is : (s : State) (t : Result Request ℕ) (p : Place) → answer_for s t ≡ Ok p → (r : Request) × (t ≡ Ok r) × (said s.book r ≡ Some p)
answer_is s (Err n) p e = err_ok p (record { layer = 2; number = n; position = length s.held }) e
answer_is s (Ok r) p e = (r, refl, pile_says s (said s.book r) p e)

-- the grant of a request that was answered with a place
granted_one : (s : State) (t : Result Request ℕ) (r : Request) (p : Place) → t ≡ Ok r → said s.book r ≡ Some p → grant_by s t ≡ grant r p ∷ []
granted_one s t r p e f = ap (grant_by s) e ∙ ap (λ (o : Option Place). option_to_list (option_map (grant r) o)) f

held_for : (qs : List Asked) (s : State) → first_refused s qs ≡ None → HeldFor qs (map as_held (grants s qs))
held_for [] s e = tt
held_for (q ∷ qs) s e =
    let first = head_granted (place_answer s q) (first_refused (placed s q) qs) e in
    let t = reaching s q in
    let got = answer_is s t first.0 first.1 in
    let r = got.0 in
    let has = request_has q.kind (size_of q.width) (size_of q.alignment) r (reached_is (length s.held) s.profile.questions.sound (request_of q) r got.1) in
    subst (λ gs. HeldFor (q ∷ qs) (map as_held (gs ++ grants (placed s q) qs))) (sym (granted_one s t r first.0 got.1 got.2))
    (has.0, size_bytes q.width r.width has.1, held_for qs (placed s q) first.2)

pub placed_holds : (p : Profile) (qs : List Asked) → first_refused (opened p) qs ≡ None → HeldFor qs (placed_all (opened p) qs).held
placed_holds p qs e = subst (HeldFor qs) (sym (held_grants qs (opened p))) (held_for qs (opened p) e)
