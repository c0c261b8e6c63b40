-- What an allocation holds, requests on its pile's first book got.
use Rattle.std.proofs.Common.{◌≡◌, ℕ, List, [], ◌∷◌, ◌++◌, map, Some, None, Ok, Err, Option, Result, refl, sym, ap, ◌∙◌, append-nil}
use Rattle.std.proofs.lemmas.List.{append_assoc, map-append}
use Rattle.std.specs.Option.{option_to_list, option_map}
use Rattle.place.specs.Holdings.{Holding}
use Rattle.place.specs.declared.pieces.Place.{Place}
use Rattle.values.specs.declared.requests.Request.{Request}
use Rattle.stage.specs.Books.{Book, granted, said, after, past}
use Rattle.allocation.specs.Rules.{reaching, placed_by, holding_for}
use Rattle.allocation.specs.States.{State}
use Rattle.emit.specs.Coding.{HoldsWhatRequestsGot, RequestsGetWhatIsHeld}

past_then : (rs : List Request) (b : Book) (r : Request) → after (past b rs) r ≡ past b (rs ++ r ∷ [])
past_then [] b r = refl
past_then (x ∷ xs) b r = past_then xs (after b x) r

granted_then : (rs : List Request) (b : Book) (r : Request) → granted b (rs ++ r ∷ []) ≡ granted b rs ++ option_to_list (said (past b rs) r)
granted_then [] b r = append-nil (option_to_list (said b r))
granted_then (x ∷ xs) b r = ap (λ ps. option_to_list (said b x) ++ ps) (granted_then xs (after b x) r) ∙ sym (append_assoc (option_to_list (said b x)) (granted (after b x) xs) (option_to_list (said (past b (x ∷ xs)) r)))

place_of : (r : Request) (o : Option Place) → map (λ h. h.place) (option_to_list (option_map (holding_for r) o)) ≡ option_to_list o
place_of r None = refl
place_of r (Some p) = refl

asked_once : (s : State) (a : Result Request ℕ) → HoldsWhatRequestsGot s → HoldsWhatRequestsGot (placed_by s a)
asked_once s (Err n) got = got
asked_once s (Ok r) got =
    let rs = got.requests in
    let first = s.profile.first in
    let same : said s.book r ≡ said (past first rs) r = ap (λ (b : Book). said b r) got.book_is_what_they_left in
    record {
      requests = rs ++ r ∷ [];
      book_is_what_they_left = ap (λ (b : Book). after b r) got.book_is_what_they_left ∙ past_then rs first r;
      held_places_are_what_they_got =
          map-append (λ (h : Holding). h.place) s.held (option_to_list (option_map (holding_for r) (said s.book r)))
          ∙ (ap (λ ps. ps ++ map (λ (h : Holding). h.place) (option_to_list (option_map (holding_for r) (said s.book r)))) got.held_places_are_what_they_got
          ∙ (ap (λ ps. granted first rs ++ ps) (place_of r (said s.book r) ∙ ap option_to_list same) ∙ sym (granted_then rs first r)));
    }

pub requests_get_what_is_held : RequestsGetWhatIsHeld
requests_get_what_is_held = record {
  when_opened = λ p. record { requests = []; book_is_what_they_left = refl; held_places_are_what_they_got = refl };
  after_each_request = λ s q. asked_once s (reaching s q);
}
