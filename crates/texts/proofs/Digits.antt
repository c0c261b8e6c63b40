-- A word stands for the number that it writes.
use Rattle.std.proofs.Common.{◌≡◌, ℕ, ◌<◌, List, [], ◌∷◌, Some, arith}
use Rattle.texts.specs.Words.{number_word, register_word, number_of, register_of}

pub number_of_its_word : (n : ℕ) → n < 100 → number_of (number_word n) ≡ Some n
number_of_its_word n l = grind arith

pub word_of_its_number : (word : List ℕ) (n : ℕ) → number_of word ≡ Some n → (n < 100) × (number_word n ≡ word)
word_of_its_number [] n e = grind arith
word_of_its_number (d ∷ []) n e = grind arith
word_of_its_number (t ∷ d ∷ []) n e = grind arith
word_of_its_number (t ∷ d ∷ c ∷ more) n e = grind arith

pub register_of_its_word : (n : ℕ) → n < 100 → register_of (register_word n) ≡ Some n
register_of_its_word n l = number_of_its_word n l

pub word_of_its_register : (word : List ℕ) (n : ℕ) → register_of word ≡ Some n → (n < 100) × (register_word n ≡ word)
word_of_its_register [] n e = grind arith
word_of_its_register (c ∷ word) n e = grind (arith, word_of_its_number word n)
