-- The book of a bottom that has r0 and r1 to give.
use Rattle.std.specs.Prelude.{ℕ, ◌+◌, true, false, if◌then◌else◌, nat_lt}
use Rattle.place.specs.Registers.{with}
use Rattle.place.specs.declared.pieces.Piece.TheVariants.{Register}
use Rattle.place.specs.declared.pieces.Place.TheVariants.{Single}
use Rattle.stage.specs.Books.{Book, Profile, Questions, built_in}
use Rattle.stage.specs.Cursors.{Move, grant, refuse, bottom_book}
use Rattle.values.specs.declared.requests.Request.{Request}
use Rattle.values.specs.declared.sizes.Size.{Size}
use Rattle.values.specs.declared.sizes.Size.TheVariants.{One, Two, Four, Eight}

-- how many are given after one more
abbrev pub one_more : ℕ → ℕ
one_more n = n + 1

-- where n are given: the next one for a width of 4, while there is one
abbrev pub two_move : ℕ → Size → Move
two_move n One = refuse n
two_move n Two = refuse n
two_move n Four = if nat_lt n 2 then grant (Single (Register n)) (one_more n) else refuse n
two_move n Eight = refuse n

abbrev pub two_does : ℕ → Request → Move
two_does n r = two_move n r.width

-- it has no block
abbrev pub two_book : ℕ → Book
two_book = bottom_book two_does (λ n. 0)

abbrev pub two_questions : Questions
two_questions = record { registers = with (with 0 0) 1; block = false; sound = true; endless = λ r. false }

abbrev pub two_profile : Profile
two_profile = record { first = two_book 0; first_blame = built_in; questions = two_questions }
