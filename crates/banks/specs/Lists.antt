-- Lists of registers that a bank may hold.
use Rattle.std.specs.Prelude.{◌≡◌, ◌≢◌, ℕ, ◌<◌, ◌≤◌, Bool, true, cond, not, ◌&&◌, ◌⊎◌, List, [], ◌∷◌, length, Some, None, Option, Result, nat_le, slice_index, EachIndex, SomeIndex}
use Rattle.place.specs.Registers.{has, with}
use Rattle.stage.specs.Faults.{Fault, fault_of, unplaced}
use Rattle.stage.specs.declared.ParameterFault.{ParameterFault}

-- each register is at most r27, is not in the set, and does not stand before in the list
abbrev pub fresh_in : ℕ → List ℕ → Bool
fresh_in set [] = true
fresh_in set (x ∷ xs) = nat_le x 27 && (not (has set x) && fresh_in (with set x) xs)

-- distinct registers of r0 to r27
abbrev pub distinct : List ℕ → Bool
distinct = fresh_in 0

-- the set with the registers of a list
abbrev pub with_all : ℕ → List ℕ → ℕ
with_all set [] = set
with_all set (x ∷ xs) = with_all (with set x) xs

abbrev pub set_of : List ℕ → ℕ
set_of = with_all 0

-- 1 to 16 registers
abbrev pub counted : List ℕ → Bool
counted xs = nat_le 1 (length xs) && nat_le (length xs) 16

-- why no bank can hold a list, if so
abbrev pub list_fault : List ℕ → Option Fault
list_fault xs = cond (counted xs) (cond (distinct xs) None (Some (unplaced 3))) (Some (unplaced 2))

-- the same without a set

abbrev pub HasRightCount : List ℕ → Type 0
HasRightCount xs = (1 ≤ length xs) × (length xs ≤ 16)

abbrev pub HasWrongCount : List ℕ → Type 0
HasWrongCount xs = (length xs ≡ 0) ⊎ (16 < length xs)

-- each register is r27 or below, and no two are the same
pub record AreDifferentRegisters (xs : List ℕ) : Type 0 where
  pub each_is_at_most_r27 : EachIndex xs (λ i. slice_index xs i ≤ 27)
  pub no_two_are_the_same : (i j : ℕ) → i < j → j < length xs → slice_index xs i ≢ slice_index xs j

-- what a bank may hold
abbrev pub IsRegisterList : List ℕ → Type 0
IsRegisterList xs = HasRightCount xs × AreDifferentRegisters xs

abbrev pub HasOneAboveR27 : List ℕ → Type 0
HasOneAboveR27 xs = SomeIndex xs (λ i. 27 < slice_index xs i)

abbrev pub HasOneTwice : List ℕ → Type 0
HasOneTwice xs = SomeIndex xs (λ j. (i : ℕ) × (i < j) × (slice_index xs i ≡ slice_index xs j))

-- the count is right, and a register is not
abbrev pub HasWrongRegister : List ℕ → Type 0
HasWrongRegister xs = HasRightCount xs × (HasOneAboveR27 xs ⊎ HasOneTwice xs)

-- an answer that is the fault with this number
abbrev pub IsRefusedWith : {X : Type 0} → ℕ → Result X ParameterFault → Type 0
IsRefusedWith n r = fault_of r ≡ Some (unplaced n)
