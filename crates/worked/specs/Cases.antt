-- The worked cases.
use Rattle.allocation.specs.Rules.{place_answer}
use Rattle.std.specs.Prelude.{◌≡◌, ℕ, ◌+◌, ◌^◌, ◌<◌, ◌≤◌, List, [], ◌∷◌, length, replicate, Some, None, Ok, Err}
use Rattle.values.specs.Sizes.{bytes}
use Rattle.values.specs.declared.kinds.Kind.{Kind}
use Rattle.values.specs.declared.kinds.Kind.TheVariants.{Unsigned, Signed, Float}
use Rattle.values.specs.declared.requests.Request.{Request}
use Rattle.values.specs.declared.sizes.Size.{Size}
use Rattle.values.specs.declared.sizes.Size.TheVariants.{One, Two, Four, Eight}
use Rattle.values.specs.declared.value_type.ValueType.{ValueType}
use Rattle.place.specs.declared.pieces.Piece.TheVariants.{Register, Block}
use Rattle.place.specs.declared.pieces.Place.TheVariants.{Single, Double}
use Rattle.stage.specs.Books.{Book, past, after, said, used}
use Rattle.allocation.specs.Faults.{Answer}
use Rattle.allocation.specs.States.{opened}
use Rattle.delivery.specs.Code.{caller_code, callee_code}
use Rattle.delivery.specs.Delivering.{ended}
use Rattle.allocation.specs.declared.asked.Asked.{Asked}
use Rattle.machine.specs.Machine.{Contents, reg, running, runs, with_reg}
use Rattle.machine.specs.declared.Side.TheVariants.{Caller}
use Rattle.worked.specs.Piles.{wide, shut_pair, open_pair, count_pair, block, shared}
use Rattle.worked.specs.Trials.{Gives}

-- a type, asked for at its own alignment
abbrev pub own : Kind → Size → Asked
own k w = record { kind = k; width = bytes w; alignment = bytes w }

abbrev pub u1 : Asked
u1 = own Unsigned One

abbrev pub u2 : Asked
u2 = own Unsigned Two

abbrev pub u4 : Asked
u4 = own Unsigned Four

abbrev pub u8 : Asked
u8 = own Unsigned Eight

abbrev pub s8 : Asked
s8 = own Signed Eight

abbrev pub f8 : Asked
f8 = own Float Eight

-- u1 and u8 as they reach a stage
abbrev pub one : Request
one = record { kind = Unsigned; width = One; alignment = One }

abbrev pub eight : Request
eight = record { kind = Unsigned; width = Eight; alignment = Eight }

-- what up 8 answers after requests
abbrev pub up_after : List Request → Book
up_after = past block.first

-- a register
abbrev pub in_register : ℕ → Answer
in_register r = Ok (Single (Register r))

-- two registers, the low piece first
abbrev pub in_pair : ℕ → ℕ → Answer
in_pair low high = Ok (Double (Register low) (Register high))

-- 4 bytes of the block
abbrev pub in_block : ℕ → Answer
in_block o = Ok (Single (Block o Four))

-- 8 bytes of the block, as two pieces of 4
abbrev pub in_block_twice : ℕ → Answer
in_block_twice o = Ok (Double (Block o Four) (Block (o + 4) Four))

-- a refusal with its number and its position
abbrev pub fault : ℕ → ℕ → Answer
fault n position = Err (record { layer = 2; number = n; position = position })

pub record WorkedCases : Type 0 where
  pub wide_pile_places_u1_s8_u2 : Gives wide (u1 ∷ s8 ∷ u2 ∷ []) (in_register 0 ∷ in_pair 2 3 ∷ in_block 0 ∷ []) 8
  pub wide_pile_places_f8_f8_u1_s8 : Gives wide (f8 ∷ f8 ∷ u1 ∷ s8 ∷ []) (in_pair 0 1 ∷ in_pair 2 3 ∷ in_block 0 ∷ in_block_twice 8 ∷ []) 16
  pub shut_bits_give_no_register_after_a_refusal : Gives shut_pair (u4 ∷ u8 ∷ u4 ∷ []) (in_register 0 ∷ in_block_twice 0 ∷ in_block 8 ∷ []) 16
  pub open_bits_give_their_last_register_after_a_refusal : Gives open_pair (u4 ∷ u8 ∷ u4 ∷ []) (in_register 0 ∷ in_block_twice 0 ∷ in_register 1 ∷ []) 8
  pub count_refuses_u8_with_24_and_places_u4 : Gives count_pair (u8 ∷ u4 ∷ []) (fault 24 0 ∷ in_register 0 ∷ []) 0
  pub u8_is_granted_at_reach_4088 : (rs : List Request) → used (up_after rs) ≡ 4088 → said (up_after rs) eight ≡ Some (Double (Block 4088 Four) (Block 4092 Four))
  pub u8_is_refused_at_reach_4089 : (rs : List Request) → used (up_after rs) ≡ 4089 → said (up_after rs) eight ≡ None
  -- so both reaches do come up
  pub u8_511_times_reaches_4088 : used (up_after (replicate 511 eight)) ≡ 4088
  pub u1_after_them_reaches_4089 : used (after (up_after (replicate 511 eight)) one) ≡ 4089
  pub a_register_in_two_banks_gets_every_type_23 : (t : ValueType) → place_answer (opened shared) (own t.kind t.width) ≡ fault 23 0
  -- r30 holds the index to return to, and all else is as before
  pub an_empty_call_ends_after_7_steps :
      (x : Contents) → length x.regs ≡ 32 → ((r : ℕ) → reg x r < 2 ^ 32) → (kept budget : ℕ) → 7 ≤ budget →
      runs (caller_code [] [] 0) (callee_code [] [] kept []) budget (running Caller 0 x) ≡ ended (with_reg x 30 2) 7
