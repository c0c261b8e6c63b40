-- What a lawful pile grants after every history.
use Rattle.std.proofs.Common.{◌≡◌, ℕ, ◌<◌, ◌≤◌, Bool, true, false, cond, leb, List, [], ◌∷◌, ◌++◌, map, length, is_some, is_ok, Some, None, Ok, Err, Option, Result, sym, refl, ap, ◌∙◌, inl, inr, arith}
use Rattle.std.proofs.ByRecursion.{All-append, All-map}
use Rattle.std.proofs.lemmas.List.{append-nil, append_assoc, map-append, length_push}
use Rattle.std.proofs.lemmas.Bool.{leb-false, lt-leb, cases_lt, and_parts, both_ways}
use Rattle.std.specs.Option.{option_map, option_to_list}
use Rattle.std.specs.List.{AllByRecursion}
use Rattle.values.specs.Types.{own_request}
use Rattle.values.specs.declared.requests.Request.{Request}
use Rattle.values.specs.declared.value_type.ValueType.{ValueType}
use Rattle.place.specs.Pieces.{PlacesApart, EachApart}
use Rattle.place.specs.declared.pieces.Place.{Place}
use Rattle.stage.proofs.Runs.{Always, always_after, Spares, spares_after}
use Rattle.stage.specs.Books.{Profile, said, used}
use Rattle.stage.specs.Lawful.{Lawful}
use Rattle.allocation.proofs.Numbers.{that_size}
use Rattle.place.specs.Holdings.{Holding}
use Rattle.allocation.specs.States.{State, opened, always_placed}
use Rattle.allocation.specs.Rules.{request_in, request_of, reaching_with, reaching, answer_for, pile_answer, holding_for, placed_by, place_answer, placed}
use Rattle.histories.specs.Histories.{Grant, grant, as_held, grant_by, grants, placed_all}
use Rattle.histories.specs.Laws.{asked_for, WideEnough, AlignedAsRequested, RefusedOnlyWhenFull}
use Rattle.allocation.specs.declared.asked.Asked.{Asked}

-- what is known of a request that reached the pile
pub record Reached (held : ℕ) (sound : Bool) : Type 0 where
  pub room : held < 16
  pub is_sound : sound ≡ true

through : (held : ℕ) (full sound : Bool) (x r : Request) → full ≡ leb 16 held → ◌≡◌ {A = Result Request ℕ} (cond full (Err 22) (cond sound (Ok x) (Err 23))) (Ok r) → Reached held sound
through held true sound x r f e = let z : ◌≡◌ {A = ℕ} 0 1 = cc in absurd (omega arith)
through held false true x r f e = record { room = leb-false 16 held (sym f); is_sound = refl }
through held false false x r f e = let z : ◌≡◌ {A = ℕ} 0 1 = cc in absurd (omega arith)

pub reached : (held : ℕ) (sound : Bool) (o : Option Request) (r : Request) → reaching_with held sound o ≡ Ok r → Reached held sound
reached held sound None r e = let z : ◌≡◌ {A = ℕ} 0 1 = cc in absurd (omega arith)
reached held sound (Some x) r e = through held (leb 16 held) sound x r refl e

abbrev reaching_by : State → Option Request → Result Request ℕ
reaching_by s o = reaching_with (length s.held) s.profile.questions.sound o

-- what holds of each grant, where a fact of the states is kept
module _ (Inv : State → Type 0) (keeps : (s : State) (t : Result Request ℕ) → Inv s → Inv (placed_by s t))
    (P : Grant → Type 0) (gives : (s : State) (r : Request) (p : Place) → Inv s → said s.book r ≡ Some p → P (grant r p)) where
  each_of : (s : State) (r : Request) → Inv s → (o : Option Place) → said s.book r ≡ o → AllByRecursion P (option_to_list (option_map (grant r) o))
  each_of s r i None e = tt
  each_of s r i (Some p) e = (gives s r p i e, tt)

  each_by : (s : State) → Inv s → (t : Result Request ℕ) → AllByRecursion P (grant_by s t)
  each_by s i (Ok r) = each_of s r i (said s.book r) refl
  each_by s i (Err n) = tt

  pub each_grant : (qs : List Asked) (s : State) → Inv s → AllByRecursion P (grants s qs)
  each_grant [] s i = tt
  each_grant (q ∷ qs) s i =
      let t = reaching s q in
      All-append P (grant_by s t) _ (each_by s i t) (each_grant qs (placed s q) (keeps s t i))

-- no place that is ever granted shares a byte with p
spares_by : (p : Place) (s : State) (t : Result Request ℕ) → Spares p s.book → Spares p (placed_by s t).book
spares_by p s (Ok r) h = spares_after p s.book r h
spares_by p s (Err n) h = h

spared : (p : Place) (qs : List Asked) (s : State) → Spares p s.book → AllByRecursion (λ g. PlacesApart p g.place) (grants s qs)
spared p = each_grant (λ s. Spares p s.book) (spares_by p) (λ g. PlacesApart p g.place) (λ s r z h. h [] r z)

abbrev pub places : List Grant → List Place
places = map (λ g. g.place)

pub places_held : (gs : List Grant) → map (λ x. x.place) (map as_held gs) ≡ places gs
places_held [] = refl
places_held (g ∷ gs) = ap (λ ps. g.place ∷ ps) (places_held gs)

-- allocations of one pile whose book is lawful from here on
module _ (p : Profile) where
  abbrev pub Good : State → Type 0
  Good s = (s.profile ≡ p) × Always p.questions s.book

  good_by : (s : State) (t : Result Request ℕ) → Good s → Good (placed_by s t)
  good_by s (Ok r) h = (h.0, always_after p.questions s.book r h.1)
  good_by s (Err n) h = h

  pub good_all : (qs : List Asked) (s : State) → Good s → Good (placed_all s qs)
  good_all [] s h = h
  good_all (q ∷ qs) s h = good_all qs (placed s q) (good_by s (reaching s q) h)

  pub wide : (qs : List Asked) (s : State) → Good s → AllByRecursion WideEnough (grants s qs)
  wide = each_grant Good good_by WideEnough (λ s r z h e. ((h.1 []).places_are_granted_lawfully r z e).is_as_wide_as_requested_or_wider)

  pub aligned : (qs : List Asked) (s : State) → Good s → AllByRecursion AlignedAsRequested (grants s qs)
  aligned = each_grant Good good_by AlignedAsRequested (λ s r z h e. ((h.1 []).places_are_granted_lawfully r z e).low_block_piece_is_aligned)

  abbrev ApartAfter : State → List Asked → Type 0
  ApartAfter s qs = EachApart (places (grants s qs))

  apart_of : (s : State) (qs : List Asked) (r : Request) → Good s → s.profile.questions.sound ≡ true → ApartAfter (placed_by s (Ok r)) qs →
      (o : Option Place) → said s.book r ≡ o → EachApart (places (option_to_list (option_map (grant r) o) ++ grants (placed_by s (Ok r)) qs))
  apart_of s qs r h sound rest None e = rest
  apart_of s qs r h sound rest (Some z) e =
      let lawful = (h.1 []).sound_places_share_no_byte (ap (λ (x : Profile). x.questions.sound) (sym h.0) ∙ sound) r z e in
      (All-map (PlacesApart z) (λ (g : Grant). g.place) (grants (placed_by s (Ok r)) qs) (spared z qs (placed_by s (Ok r)) lawful), rest)

  apart_by : (s : State) (qs : List Asked) (o : Option Request) → Good s → ((x : State) → Good x → ApartAfter x qs) →
      (t : Result Request ℕ) → reaching_by s o ≡ t → EachApart (places (grant_by s t ++ grants (placed_by s t) qs))
  apart_by s qs o h rest (Ok r) e = apart_of s qs r h (reached (length s.held) s.profile.questions.sound o r e).is_sound (rest (placed_by s (Ok r)) (good_by s (Ok r) h)) (said s.book r) refl
  apart_by s qs o h rest (Err n) e = rest s h

  pub apart : (qs : List Asked) (s : State) → Good s → ApartAfter s qs
  apart [] s h = tt
  apart (q ∷ qs) s h = apart_by s qs (request_of q) h (apart qs) (reaching s q) refl

-- what is held was granted
held_of : (xs : List Holding) (r : Request) (o : Option Place) → xs ++ option_to_list (option_map (holding_for r) o) ≡ xs ++ map as_held (option_to_list (option_map (grant r) o))
held_of xs r None = refl
held_of xs r (Some p) = refl

held_by : (s : State) (t : Result Request ℕ) → (placed_by s t).held ≡ s.held ++ map as_held (grant_by s t)
held_by s (Ok r) = held_of s.held r (said s.book r)
held_by s (Err n) = sym (append-nil s.held)

pub held_grants : (qs : List Asked) (s : State) → (placed_all s qs).held ≡ s.held ++ map as_held (grants s qs)
held_grants [] s = sym (append-nil s.held)
held_grants (q ∷ qs) s =
    let t = reaching s q in
    let rest = map as_held (grants (placed s q) qs) in
    held_grants qs (placed s q) ∙ ap (λ xs. xs ++ rest) (held_by s t) ∙ append_assoc s.held (map as_held (grant_by s t)) rest ∙ ap (λ xs. s.held ++ xs) (sym (map-append as_held (grant_by s t) (grants (placed s q) qs)))

-- at most sixteen are held
few_of : (xs : List Holding) (r : Request) (o : Option Place) → length xs < 16 → length (xs ++ option_to_list (option_map (holding_for r) o)) ≤ 16
few_of xs r None l = omega (arith, ap length (append-nil xs))
few_of xs r (Some p) l = omega (arith, length_push xs (holding_for r p))

few_by : (s : State) (o : Option Request) → length s.held ≤ 16 → (t : Result Request ℕ) → reaching_by s o ≡ t → length (placed_by s t).held ≤ 16
few_by s o l (Ok r) e = few_of s.held r (said s.book r) (reached (length s.held) s.profile.questions.sound o r e).room
few_by s o l (Err n) e = l

pub few : (qs : List Asked) (s : State) → length s.held ≤ 16 → length (placed_all s qs).held ≤ 16
few [] s l = l
few (q ∷ qs) s l = few qs (placed s q) (few_by s (request_of q) l (reaching s q) refl)

-- a type at its own alignment is a request
own_request_lem : (t : ValueType) → request_of (asked_for t) ≡ Some (own_request t)
own_request_lem t =
    ap (λ o. request_in t.kind o o) (that_size t.width) ∙ ap (λ b. cond b (Some (own_request t)) None) t.one_of_the_eleven

passes : (held : ℕ) (sound : Bool) (r : Request) → held < 16 → sound ≡ true → reaching_with held sound (Some r) ≡ Ok r
passes held sound r room e = ap (λ b. cond b (Err 22) (cond sound (Ok r) (Err 23))) (lt-leb 16 held room) ∙ ap (λ b. cond b (Ok r) (Err 23)) e

unanswered : (s : State) (o : Option Place) → is_ok (pile_answer s o) ≡ false → is_some o ≡ false
unanswered s None e = refl
unanswered s (Some p) e = e

module _ (p : Profile) (s : State) (good : Good p s) (at_most : length s.held ≤ 16) (t : ValueType) (always : always_placed p.questions t ≡ true) where
  refused_with_room : length s.held < 16 → is_ok (place_answer s (asked_for t)) ≡ false → 4088 < used s.book
  refused_with_room room refused =
      let parts = and_parts p.questions.sound (p.questions.endless (own_request t)) always in
      let sound = ap (λ (x : Profile). x.questions.sound) good.0 ∙ parts.0 in
      let asked = ap (reaching_by s) (own_request_lem t) ∙ passes (length s.held) s.profile.questions.sound (own_request t) room sound in
      let unsaid = unanswered s (said s.book (own_request t)) (ap (λ x. is_ok (answer_for s x)) (sym asked) ∙ refused) in
      elim (cases_lt 4088 (used s.book)) [
        | inl l ↦ l
        | inr l ↦ absurd (both_ways (is_some (said s.book (own_request t))) unsaid ((good.1 []).endless_requests_are_granted_up_to_4088 (own_request t) parts.1 l))
      ]

  pub refused_only_when_full : RefusedOnlyWhenFull s t
  refused_only_when_full refused =
      elim (cases_lt (length s.held) 16) [ inl room ↦ inl (refused_with_room room refused) | inr full ↦ inr (omega (arith, at_most, full)) ]

pub newly_good : (p : Profile) → Lawful p.questions p.first → Good p (opened p)
newly_good p l = (refl, l.after_every_list)
