-- What a lawful pile placed since it was opened.
use Rattle.std.proofs.Common.{◌≡◌, ℕ, ◌≤◌, List, [], ◌∷◌, map, length, Some, None, Ok, Err, Option, Result, sym, refl, subst, arith}
use Rattle.std.proofs.ByRecursion.{All-append, All-map, All-weaker}
use Rattle.std.specs.Option.{option_map, option_to_list}
use Rattle.std.specs.List.{AllByRecursion}
use Rattle.values.specs.declared.requests.Request.{Request}
use Rattle.place.specs.Holdings.{Holding}
use Rattle.place.specs.Pieces.{pieces, EachApart, Below}
use Rattle.place.specs.declared.pieces.Place.{Place}
use Rattle.stage.proofs.Runs.{lifted}
use Rattle.stage.specs.Books.{Profile, said, used, after}
use Rattle.stage.specs.Lawful.{InSet, Granted, Lawful}
use Rattle.allocation.specs.Rules.{placed_by, reaching, placed}
use Rattle.allocation.specs.States.{State, opened}
use Rattle.histories.proofs.After.{placed_apart}
use Rattle.histories.proofs.Granting.{Good, newly_good, good_all, held_grants, few}
use Rattle.histories.specs.Histories.{Grant, grant, as_held, grant_by, grants, placed_all}
use Rattle.allocation.specs.declared.asked.Asked.{Asked}
use Rattle.delivery.proofs.Ready.{Fits, AllPieces}

pub held_few : (p : Profile) (qs : List Asked) → length (placed_all (opened p) qs).held ≤ 16
held_few p qs = few qs (opened p) (omega arith)

module _ (p : Profile) where
  -- the block bytes that are used never get fewer
  used_by : (s : State) (t : Result Request ℕ) → Good p s → used s.book ≤ used (placed_by s t).book
  used_by s (Ok r) h = (h.1 []).reach_never_falls r
  used_by s (Err n) h = omega arith

  next_good : (q : Asked) (s : State) → Good p s → Good p (placed s q)
  next_good q s h = good_all p (q ∷ []) s h

  used_all : (qs : List Asked) (s : State) → Good p s → used s.book ≤ used (placed_all s qs).book
  used_all [] s h = omega arith
  used_all (q ∷ qs) s h =
      let one = used_by s (reaching s q) h in
      let rest = used_all qs (placed s q) (next_good q s h) in
      omega arith

  -- so a lawful grant is one too where more is used
  abbrev GrantedBy : ℕ → Grant → Type 0
  GrantedBy n g = Granted p.questions g.request g.place n

  granted_more : (m n : ℕ) → m ≤ n → (g : Grant) → GrantedBy m g → GrantedBy n g
  granted_more m n l g = lifted p.questions p.questions (λ x h. h) g.request g.place m n l

  granted_of : (s : State) (r : Request) → Good p s → (o : Option Place) → said s.book r ≡ o → AllByRecursion (GrantedBy (used (after s.book r))) (option_to_list (option_map (grant r) o))
  granted_of s r h None e = tt
  granted_of s r h (Some z) e = ((h.1 []).places_are_granted_lawfully r z e, tt)

  granted_by : (s : State) (t : Result Request ℕ) → Good p s → AllByRecursion (GrantedBy (used (placed_by s t).book)) (grant_by s t)
  granted_by s (Ok r) h = granted_of s r h (said s.book r) refl
  granted_by s (Err n) h = tt

  granted_all : (qs : List Asked) (s : State) → Good p s → AllByRecursion (GrantedBy (used (placed_all s qs).book)) (grants s qs)
  granted_all [] s h = tt
  granted_all (q ∷ qs) s h =
      let t : Result Request ℕ = reaching s q in
      let good = next_good q s h in
      let n : ℕ = used (placed_all (placed s q) qs).book in
      let first = All-weaker (GrantedBy (used (placed_by s t).book)) (GrantedBy n) (granted_more (used (placed_by s t).book) n (used_all qs (placed s q) good)) (grant_by s t) (granted_by s t h) in
      All-append (GrantedBy n) (grant_by s t) (grants (placed s q) qs) first (granted_all qs (placed s q) good)

-- what a newly opened allocation of a lawful pile holds after requests
module _ (p : Profile) (qs : List Asked) (l : Lawful p.questions p.first) where
  abbrev filled : State
  filled = placed_all (opened p) qs

  each_held : (P : Holding → Type 0) → ((g : Grant) → GrantedBy p (used filled.book) g → P (as_held g)) → AllByRecursion P filled.held
  each_held P f =
      let gs : List Grant = grants (opened p) qs in
      let given = All-weaker (GrantedBy p (used filled.book)) (λ g. P (as_held g)) f gs (granted_all p qs (opened p) (newly_good p l)) in
      subst (AllByRecursion P) (sym (held_grants qs (opened p))) (All-map P as_held gs given)

  pub held_fits : AllByRecursion Fits filled.held
  held_fits = each_held Fits (λ g h. record {
    is_well_formed = h.is_well_formed;
    is_wide_enough = h.is_as_wide_as_requested_or_wider;
    pieces_share_no_byte = h.pieces_share_no_byte;
  })

  pub held_in_set : AllPieces (InSet p.questions.registers) filled.held
  held_in_set = each_held (λ h. AllByRecursion (InSet p.questions.registers) (pieces h.place)) (λ g h. h.registers_are_in_the_set)

  pub held_below : AllPieces (Below (used filled.book)) filled.held
  held_below = each_held (λ h. AllByRecursion (Below (used filled.book)) (pieces h.place)) (λ g h. h.reach_lies_above_its_block_bytes)

  pub held_apart : EachApart (map (λ x. x.place) filled.held)
  held_apart = placed_apart p qs l

  pub used_at_most_4096 : used filled.book ≤ 4096
  used_at_most_4096 = ((good_all p qs (opened p) (newly_good p l)).1 []).reach_is_at_most_4096
