-- The book of a bottom that refuses every request.
use Rattle.std.specs.Prelude.{true, false, None}
use Rattle.stage.specs.Books.{Book, Profile, built_in}

abbrev pub never_book : Book
never_book = λ rs. record { reach = 0; answer = λ r. None }

abbrev pub never_profile : Profile
never_profile = record {
  first = never_book;
  first_blame = built_in;
  questions = record { registers = 0; block = false; sound = true; endless = λ r. false };
}
