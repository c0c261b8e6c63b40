-- A layer that asks for no less than it is asked for is lawful where what is below it is.
use Rattle.std.specs.Prelude.{◌≡◌, ℕ, ◌%◌, ◌≤◌, []}
use Rattle.std.proofs.Common.{ap, arith}
use Rattle.place.specs.Pieces.{low_piece}
use Rattle.place.specs.declared.pieces.Piece.{Piece}
use Rattle.place.specs.declared.pieces.Piece.TheVariants.{Register, Block}
use Rattle.place.specs.declared.pieces.Place.{Place}
use Rattle.stage.proofs.Runs.{along, Always, always_after, Spares, SparesNow, spares_after}
use Rattle.stage.specs.Books.{Book, Questions, Profile, Alike, book_of, after}
use Rattle.stage.specs.Lawful.{Aligned, Granted, LawfulHere, Lawful}
use Rattle.values.proofs.Rounding.{grown, divides}
use Rattle.values.specs.Sizes.{bytes, larger_of}
use Rattle.values.specs.declared.requests.Request.{Request}
use Rattle.adjust.specs.Adjusting.{map_shows, map_book, map_questions, map_profile, raised_to, changed}
use Rattle.adjust.specs.declared.Change.{Change}
use Rattle.adjust.specs.declared.Least.{Least}
use Rattle.adjust.specs.declared.Least.TheVariants.{Width, Alignment}

-- a change that asks for no less
record Grows (f : Request → Request) : Type 0 where
  wider : (r : Request) → bytes r.width ≤ bytes (f r).width
  finer : (r : Request) (o : ℕ) → o % bytes (f r).alignment ≡ 0 → o % bytes r.alignment ≡ 0

still_aligned : (f : Request → Request) → Grows f → (r : Request) (x : Piece) → Aligned (bytes (f r).alignment) x → Aligned (bytes r.alignment) x
still_aligned f w r (Register x) a = a
still_aligned f w r (Block o s) a = w.finer r o a

map_granted : (f : Request → Request) → Grows f → (q : Questions) (r : Request) (z : Place) (n : ℕ) → Granted q (f r) z n → Granted (map_questions f q) r z n
map_granted f w q r z n g = record {
  is_well_formed = g.is_well_formed;
  is_as_wide_as_requested_or_wider = omega (arith, g.is_as_wide_as_requested_or_wider, w.wider r);
  pieces_share_no_byte = g.pieces_share_no_byte;
  registers_are_in_the_set = g.registers_are_in_the_set;
  low_block_piece_is_aligned = still_aligned f w r (low_piece z) g.low_block_piece_is_aligned;
  reach_lies_above_its_block_bytes = g.reach_lies_above_its_block_bytes;
}

abbrev map_next : (Request → Request) → Book → Request → Book
map_next f b r = after b (f r)

map_spares : (f : Request → Request) (z : Place) (b : Book) → Spares z b → Spares z (book_of (map_shows f) (map_next f) b)
map_spares f z = along (map_shows f) (map_next f) (Spares z) (λ b r. spares_after z b (f r)) (SparesNow z) (λ b h r. h [] (f r))

map_here : (f : Request → Request) → Grows f → (q : Questions) (b : Book) → Always q b → LawfulHere (map_questions f q) (book_of (map_shows f) (map_next f) b)
map_here f w q b h = record {
  places_are_granted_lawfully = λ r z e. map_granted f w q r z _ ((h []).places_are_granted_lawfully (f r) z e);
  sound_places_share_no_byte = λ s r z e. map_spares f z (after b (f r)) ((h []).sound_places_share_no_byte s (f r) z e);
  reach_never_falls = λ r. (h []).reach_never_falls (f r);
  reach_is_at_most_4096 = (h []).reach_is_at_most_4096;
  reach_is_0_without_a_block = (h []).reach_is_0_without_a_block;
  endless_requests_are_granted_up_to_4088 = λ r. (h []).endless_requests_are_granted_up_to_4088 (f r);
}

map_lawful : (f : Request → Request) → Grows f → (q : Questions) (b : Book) → Lawful q b → Lawful (map_questions f q) (map_book f b)
map_lawful f w q b l = record {
  registers_are_r0_to_r27 = l.registers_are_r0_to_r27;
  reach_is_0_at_first = l.reach_is_0_at_first;
  after_every_list = along (map_shows f) (map_next f) (Always q) (λ b r. always_after q b (f r)) (LawfulHere (map_questions f q)) (map_here f w q) b l.after_every_list;
}

changes_grow : (c : Least) → Grows (raised_to c)
changes_grow (Width m) = record { wider = λ r. grown m r.width; finer = λ r o e. e }
changes_grow (Alignment m) = record { wider = λ r. omega arith; finer = λ r o. divides (larger_of m r.alignment) r.alignment o (grown m r.alignment) }

pub adjust_lawful : (c : Change) (q : Questions) (b : Book) → Lawful q b → Lawful (map_questions (changed c) q) (map_book (changed c) b)
adjust_lawful c = map_lawful (changed c) (changes_grow c.least)

-- stages that are alike are alike behind a change
pub map_alike : (f : Request → Request) (p q : Profile) → Alike p q → Alike (map_profile f p) (map_profile f q)
map_alike f p q h = record {
  equal_first_books = ap (map_book f) h.equal_first_books;
  equal_answers_to_questions = ap (map_questions f) h.equal_answers_to_questions;
}
