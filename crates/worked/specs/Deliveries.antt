-- A call that was worked out, and what it delivers.
use Rattle.std.specs.Prelude.{◌≡◌, ℕ, ◌-◌, ◌^◌, false, List, [], ◌∷◌, pos, slice_set, Ok, Result}
use Rattle.values.specs.Requests.{widened}
use Rattle.values.specs.declared.kinds.Kind.TheVariants.{Unsigned, Signed}
use Rattle.values.specs.declared.sizes.Size.TheVariants.{One, Two, Four, Eight}
use Rattle.place.specs.Holdings.{Holding}
use Rattle.place.specs.declared.pieces.Piece.TheVariants.{Register, Block}
use Rattle.place.specs.declared.pieces.Place.TheVariants.{Single, Double}
use Rattle.stage.specs.Books.{Profile}
use Rattle.banks.specs.Banks.{bits_profile}
use Rattle.adjust.specs.Adjusting.{map_profile}
use Rattle.allocation.specs.States.{opened}
use Rattle.machine.specs.Machine.{Contents}
use Rattle.machine.specs.declared.Instruction.{Instruction}
use Rattle.machine.specs.declared.Instruction.TheVariants.{Load, Store}
use Rattle.machine.specs.declared.Width.TheVariants as Widths
use Rattle.call.specs.Calls.{World, Standing, RunBy}
use Rattle.call.specs.Placing.{Sides, placement, sides_of}
use Rattle.call.specs.Standing.{Delivered}
use Rattle.call.specs.declared.ran.Ran.{Ran}
use Rattle.call_faults.specs.declared.CallFault.{CallFault}
use Rattle.worked.specs.Cases.{u1, u2, s8}
use Rattle.worked.specs.Piles.{wide}

-- bits r0 r1, widened to 4: the results' pile
abbrev pub pair : Profile
pair = map_profile (widened Four) (bits_profile (0 ∷ 1 ∷ []))

-- r16 to r27
abbrev pub kept : ℕ
kept = 2 ^ 28 - 2 ^ 16

-- copies the argument of 8 bytes, which has the second home, to the home of the result, which is the fourth
abbrev pub body : List Instruction
body =
    Load 0 31 (pos 8) Widths.Four false ∷ Store 0 31 (pos 24) Widths.Four ∷ Load 1 31 (pos 12) Widths.Four false ∷
    Store 1 31 (pos 28) Widths.Four ∷ []

-- where u1, s8 and u2 travel
abbrev pub arguments_held : List Holding
arguments_held =
    record { kind = Unsigned; width = One; place = Single (Register 0) } ∷
    record { kind = Signed; width = Eight; place = Double (Register 2) (Register 3) } ∷
    record { kind = Unsigned; width = Two; place = Single (Block 0 Four) } ∷ []

-- where s8 comes back
abbrev pub results_held : List Holding
results_held = record { kind = Signed; width = Eight; place = Double (Register 0) (Register 1) } ∷ []

-- these registers and this memory, with the stack pointer in the middle of 1,024 bytes
abbrev pub start : List ℕ → List ℕ → Contents
start registers memory = record { regs = slice_set registers 31 512; mem = memory }

abbrev pub contents : List ℕ → List ℕ → Contents
contents registers memory = record { regs = registers; mem = memory }

-- both sides, newly opened and asked for u1, s8 and u2, and for s8 as the result
abbrev pub worked_sides : Sides
worked_sides =
    sides_of
    (placement
    (record {
      bench_arguments = opened wide;
      bench_results = opened pair;
      core_arguments = opened wide;
      core_results = opened pair;
    })
    (u1 ∷ s8 ∷ u2 ∷ []) (s8 ∷ []))

-- the call of these sides, from lists and contents
abbrev pub worked_standing : World → Standing
worked_standing world = record { sides = worked_sides; kept = kept; body = body; world = world; budget = 512 }

-- the call from x, which left y, was made and run, and delivered every argument and the result
pub record WorkedCallDelivers (x y : Contents) (answer : Result Ran CallFault) : Type 0 where
  -- both lists, with these contents
  pub before : World
  pub after : World
  pub begins_with_these_contents : before.contents ≡ x
  pub ends_with_these_contents : after.contents ≡ y
  pub ran : Ran
  pub is_not_refused : answer ≡ Ok ran
  pub is_run_by_the_rules : RunBy (worked_standing before) after ran
  -- 11 of the caller, and 14 of the callee
  pub steps_are_one_for_each_record : ran.steps ≡ 25
  pub stack_bytes_of_the_caller : ran.block ≡ 8
  pub stack_bytes_of_the_callee : ran.frame ≡ 32
  pub arguments_travel_so : worked_sides.bench_arguments.held ≡ arguments_held
  pub result_travels_so : worked_sides.bench_results.held ≡ results_held
  pub body_begins_with : Contents
  pub body_ends_with : Contents
  pub arguments_and_result_are_delivered :
      Delivered (worked_standing before) after ran body_begins_with body_ends_with
