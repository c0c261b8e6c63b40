-- The rules of placing: what each request is answered, and what it makes of an allocation.
use Rattle.std.specs.Prelude.{ℕ, Bool, cond, [], ◌++◌, length, Some, None, Ok, Err, Option, Result, ◌==◌, nat_le}
use Rattle.std.specs.Option.{option_to_list, option_map}
use Rattle.values.specs.Kinds.{is_type}
use Rattle.values.specs.declared.kinds.Kind.{Kind}
use Rattle.values.specs.declared.requests.Request.{Request}
use Rattle.values.specs.declared.sizes.Size.{Size}
use Rattle.values.specs.declared.sizes.Size.TheVariants.{One, Two, Four, Eight}
use Rattle.place.specs.declared.pieces.Place.{Place}
use Rattle.stage.specs.Books.{said, after}
use Rattle.allocation.specs.Faults.{Answer, cause_number}
use Rattle.allocation.specs.declared.asked.Asked.{Asked}
use Rattle.allocation.specs.declared.faults.Cause.{Cause}
use Rattle.allocation.specs.declared.wanted.Wanted.{Wanted}
use Rattle.place.specs.Holdings.{Holding}
use Rattle.allocation.specs.States.{State}

-- the size of n bytes, if there is one
abbrev pub size_of : ℕ → Option Size
size_of n = cond (n == 1) (Some One) (cond (n == 2) (Some Two) (cond (n == 4) (Some Four) (cond (n == 8) (Some Eight) None)))

-- one of the eleven types at an alignment of 1, 2, 4 or 8
abbrev pub request_in : Kind → Option Size → Option Size → Option Request
request_in k None a = None
request_in k (Some w) None = None
request_in k (Some w) (Some a) = cond (is_type k w) (Some (record { kind = k; width = w; alignment = a })) None

-- the request that is given by numbers, if it is one
abbrev pub request_of : Asked → Option Request
request_of q = request_in q.kind (size_of q.width) (size_of q.alignment)

-- a request for a type at an alignment
abbrev pub request_for : Wanted → Request
request_for t = record { kind = t.value.kind; width = t.value.width; alignment = t.alignment }

-- the request that reaches the pile, or the number of the refusal before it, by how many are held and whether the pile is sound
abbrev pub reaching_with : ℕ → Bool → Option Request → Result Request ℕ
reaching_with held sound None = Err 21
reaching_with held sound (Some r) = cond (nat_le 16 held) (Err 22) (cond sound (Ok r) (Err 23))

-- the same, of a request that is given by numbers
abbrev pub reaching : State → Asked → Result Request ℕ
reaching s q = reaching_with (length s.held) s.profile.questions.sound (request_of q)

-- what was let through to the pile
abbrev pub admitted : Result Wanted Cause → Result Request ℕ
admitted (Ok t) = Ok (request_for t)
admitted (Err c) = Err (cause_number c)

-- a refusal has the number of places held as its position
abbrev pub refusal : State → ℕ → Answer
refusal s n = Err (record { layer = 2; number = n; position = length s.held })

-- what the pile gives, or 24
abbrev pub pile_answer : State → Option Place → Answer
pile_answer s None = refusal s 24
pile_answer s (Some p) = Ok p

-- the answer to what reaches the pile, or to what is refused before
abbrev pub answer_for : State → Result Request ℕ → Answer
answer_for s (Err n) = refusal s n
answer_for s (Ok r) = pile_answer s (said s.book r)

-- what place answers
abbrev pub place_answer : State → Asked → Answer
place_answer s q = answer_for s (reaching s q)

-- a place for a request, as it is held
abbrev pub holding_for : Request → Place → Holding
holding_for r p = record { kind = r.kind; width = r.width; place = p }

-- a request that reaches the pile moves its book on, and a granted place is held; a refusal before it changes nothing
abbrev pub placed_by : State → Result Request ℕ → State
placed_by s (Err n) = s
placed_by s (Ok r) = record {
  profile = s.profile;
  book = after s.book r;
  blame = after s.blame r;
  held = s.held ++ option_to_list (option_map (holding_for r) (said s.book r));
}

-- what place makes of an allocation
abbrev pub placed : State → Asked → State
placed s q = placed_by s (reaching s q)

-- the line n where there is no place
abbrev pub line_among : ℕ → Option Place → Option ℕ
line_among n None = Some n
line_among n (Some p) = None

-- the line that is blamed for a request that reaches the pile and is refused
abbrev pub line_by : State → Result Request ℕ → Option ℕ
line_by s (Err n) = None
line_by s (Ok r) = line_among (s.blame [] r) (said s.book r)

-- the line that a refusal of place has, where it has one
abbrev pub blamed_line : State → Asked → Option ℕ
blamed_line s q = line_by s (reaching s q)
