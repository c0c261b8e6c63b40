-- What the block gives over whole lists of requests.
use Rattle.std.proofs.Common.{◌≡◌, ℕ, ◌+◌, ◌<◌, ◌≤◌, true, ◌&&◌, ◌↔◌, List, [], ◌∷◌, ◌++◌, leb, is_some, Some, None, Option, IsSome, refl, sym, ap, ◌∙◌, subst, inl, inr, arith}
use Rattle.std.proofs.lemmas.Bool.{cond-false, leb-true, le-leb, and_parts, cases_Bool}
use Rattle.std.proofs.lemmas.Grind.{flat_map-append}
use Rattle.std.proofs.lemmas.List.{append-nil}
use Rattle.std.specs.List.{flat_map, last_or}
use Rattle.std.specs.Option.{option_to_list, option_map_or}
use Rattle.place.specs.Pieces.{pieces}
use Rattle.place.specs.declared.pieces.Place.{Place}
use Rattle.stage.proofs.Cursors.{none_given, that_given}
use Rattle.stage.proofs.Runs.{along}
use Rattle.stage.proofs.Traces.{by_what_was_given}
use Rattle.stage.specs.Books.{Book, said, used, after}
use Rattle.stage.specs.Cursors.{Move, grant, refuse}
use Rattle.values.proofs.Rounding.{rounded}
use Rattle.values.specs.Sizes.{bytes, round_up}
use Rattle.values.specs.declared.requests.Request.{Request}
use Rattle.values.specs.declared.sizes.Size.{Size}
use Rattle.values.specs.declared.sizes.Size.TheVariants.{One, Two, Four, Eight}
use Rattle.blocks.specs.Blocks.{up_move, up_book, block_place}
use Rattle.blocks.specs.Grants.{FollowOneAnother, block_end, last_end, GivesUpward}
use Rattle.blocks.specs.BlocksLemmas.{start, up_cases}

abbrev Follows : Book → Type 0
Follows b = (r : Request) (p : Place) → said b r ≡ Some p → (o : ℕ) × (p ≡ block_place o r.width) × (used b ≤ o) × (o < used b + bytes r.alignment) × (used (after b r) ≡ o + bytes r.width)

up_here : (m : Size) (n : ℕ) → Follows (up_book m n)
up_here m n r p e =
    let near = rounded r.alignment n in
    elim (up_cases m n r) [
      | inl k ↦ none_given _ (up_move m n r) n p k e
      | inr h ↦ (round_up (bytes r.alignment) n, sym (that_given (up_move m n r) _ p _ h.0 e), near.not_below, near.close, ap (λ (v : Move). v.cursor) h.0)
    ]

follow_one_another : (m : Size) → FollowOneAnother (up_book m 0)
follow_one_another m rs =
    along (λ n. record { reach = n; answer = λ r. (up_move m n r).answer }) (λ n r. (up_move m n r).cursor) (λ n. Unit {0}) (λ n r h. h) Follows (λ n _. up_here m n) 0 tt rs

last_or_append : {X : Type 0} (o : Option X) (xs ys : List X) → last_or o (xs ++ ys) ≡ last_or (last_or o xs) ys
last_or_append o [] ys = refl
last_or_append o (x ∷ xs) ys = last_or_append (Some x) xs ys

last_after : (given : List Place) (p : Place) → last_end (given ++ p ∷ []) ≡ option_map_or block_end (last_or (last_or None (flat_map pieces given)) (pieces p ++ [])) 0
last_after given p =
    ap (λ ps. option_map_or block_end (last_or None ps) 0) (flat_map-append pieces given (p ∷ []))
    ∙ ap (λ o. option_map_or block_end o 0) (last_or_append None (flat_map pieces given) (pieces p ++ []))

block_place_ends : (given : List Place) (o : ℕ) (w : Size) → last_end (given ++ block_place o w ∷ []) ≡ o + bytes w
block_place_ends given o One = last_after given (block_place o One)
block_place_ends given o Two = last_after given (block_place o Two)
block_place_ends given o Four = last_after given (block_place o Four)
block_place_ends given o Eight = last_after given (block_place o Eight) ∙ omega arith

module _ (m : Size) where
  passes : (given : List Place) (r : Request) → (up_move m (last_end given) r).cursor ≡ last_end (given ++ option_to_list (up_move m (last_end given) r).answer)
  passes given r =
      let n = last_end given in
      elim (up_cases m n r) [
        | inl e ↦ to (refuse n) e (sym (ap last_end (append-nil given)))
        | inr h ↦ to (grant (block_place (start n r) r.width) (start n r + bytes r.width)) h.0 (sym (block_place_ends given (start n r) r.width))
      ]
    where
      to : (v : Move) → up_move m (last_end given) r ≡ v → v.cursor ≡ last_end (given ++ option_to_list v.answer) → (up_move m (last_end given) r).cursor ≡ last_end (given ++ option_to_list (up_move m (last_end given) r).answer)
      to v e h = subst (λ (v : Move). v.cursor ≡ last_end (given ++ option_to_list v.answer)) (sym e) h

  abbrev Fits : ℕ → Request → Type 0
  Fits n r = (bytes r.alignment ≤ bytes m) × (start n r + bytes r.width ≤ 4096)

  -- what up does with n bytes used
  abbrev NextUpward : ℕ → Book → Type 0
  NextUpward n b =
      (used b ≡ n)
      × ((r : Request) → IsSome (said b r) ↔ Fits (used b) r)
      × ((r : Request) (p : Place) → said b r ≡ Some p → p ≡ block_place (start (used b) r) r.width)

  fits_then : (n : ℕ) (r : Request) → Fits n r → is_some (up_move m n r).answer ≡ true
  fits_then n r h =
      let a = le-leb _ _ h.0 in
      let b = le-leb _ _ h.1 in
      rw (a, b) refl

  granted_then : (n : ℕ) (r : Request) → is_some (up_move m n r).answer ≡ true → Fits n r
  granted_then n r e =
      let a = leb (bytes r.alignment) (bytes m) in
      let b = leb (start n r + bytes r.width) 4096 in
      elim (cases_Bool (a && b)) [
        | inl t ↦ let both = and_parts a b t in (leb-true _ _ both.0, leb-true _ _ both.1)
        | inr f ↦
            let k : up_move m n r ≡ refuse n = cond-false (a && b) _ _ f in
            absurd (let no : ◌≡◌ {A = ℕ} 0 1 = cc in omega arith)
      ]

  next_upward : (n : ℕ) → NextUpward n (up_book m n)
  next_upward n = (
    refl,
    λ r. (granted_then n r, fits_then n r),
    λ r p e. elim (up_cases m n r) [
      | inl k ↦ none_given _ (up_move m n r) n p k e
      | inr h ↦ sym (that_given (up_move m n r) _ p _ h.0 e)
    ],
  )

  gives_from_the_first : GivesUpward (bytes m) (up_book m 0)
  gives_from_the_first =
      let next = by_what_was_given (up_move m) (λ n. n) last_end passes NextUpward next_upward refl in
      record {
        uses_the_bytes_up_to_the_end_of_the_last_place = λ rs. (next rs).0;
        grants_what_fits_up_to_the_largest_alignment = λ rs r. (next rs).1 r;
        gives_the_bytes_at_the_next_start = λ rs r p. (next rs).2 r p;
        places_follow_one_another = follow_one_another m;
      }

pub gives_upward : (m : Size) (limit n : ℕ) → bytes m ≡ limit → n ≡ 0 → GivesUpward limit (up_book m n)
gives_upward m limit n e z = subst (λ k. GivesUpward k (up_book m n)) e (rw z (gives_from_the_first m))
