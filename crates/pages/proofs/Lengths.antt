-- As many numbers as words.
use Rattle.std.proofs.Common.{◌≡◌, ◌≢◌, ℕ, List, length, Option, Some, None, option_map, arith}
use Rattle.texts.specs.Lists.{all_of_at_most, listed}
use Rattle.texts.specs.Words.{number_of, register_of}
use Rattle.texts.proofs.Gathering.{all_at_most}
use Rattle.arrayvec.specs.ArrayVec.{ArrayVec}
use Rattle.pages.specs.Lines.{registers_of, below_of_the_words}

-- what a list is that was read as the words are, if it was
abbrev Reads : (ws : List (List ℕ)) (n : ℕ) (f : List ℕ → Option ℕ) → Option (ArrayVec ℕ) → Type 0
Reads ws n f r = r ≡ option_map listed (all_of_at_most n f ws)

some_read : (n : ℕ) (f : List ℕ → Option ℕ) (ws : List (List ℕ)) (v : ArrayVec ℕ) → Reads ws n f (Some v) → all_of_at_most n f ws ≡ Some v.items
some_read n f ws v e = read (all_of_at_most n f ws) e
  where
    read : (r : Option (List ℕ)) → Some v ≡ option_map listed r → r ≡ Some v.items
    read None e = grind arith
    read (Some xs) e = grind (arith, e)

pub as_many : (n k : ℕ) (ws : List (List ℕ)) (v : ArrayVec ℕ) → Reads ws k number_of (Some v) → length v.items ≡ n → below_of_the_words n ws ≡ Some v.items
as_many n k ws v e l = let h = all_at_most number_of k ws v.items (some_read k number_of ws v e) in grind (arith, h, l)

pub not_as_many : (n k : ℕ) (ws : List (List ℕ)) (v : ArrayVec ℕ) → Reads ws k number_of (Some v) → length v.items ≢ n → below_of_the_words n ws ≡ None
not_as_many n k ws v e l = let h = all_at_most number_of k ws v.items (some_read k number_of ws v e) in grind (arith, h, l)

pub no_registers : (ws : List (List ℕ)) (v : ArrayVec ℕ) → Reads ws 16 register_of (Some v) → length v.items ≡ 0 → registers_of ws ≡ None
no_registers ws v e l = let h = all_at_most register_of 16 ws v.items (some_read 16 register_of ws v e) in grind (arith, h, l)
