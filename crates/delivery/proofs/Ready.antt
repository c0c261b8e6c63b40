-- A call that is ready to run.
use Rattle.std.proofs.Common.{◌≡◌, ℕ, ◌+◌, ◌^◌, ◌<◌, ◌≤◌, true, List, map, length, None, slice_index}
use Rattle.std.specs.List.{AllByRecursion}
use Rattle.machine.specs.Machine.{Contents, reg}
use Rattle.machine.specs.declared.Instruction.{Instruction}
use Rattle.place.specs.Holdings.{Holding}
use Rattle.place.specs.Pieces.{pieces, place_width, Below, WellFormed, PiecesApart, EachApart}
use Rattle.place.specs.Registers.{has}
use Rattle.place.specs.declared.pieces.Piece.{Piece}
use Rattle.place.specs.declared.pieces.Piece.TheVariants.{Register, Block}
use Rattle.values.specs.Sizes.{bytes}
use Rattle.delivery.specs.Bodies.{body_fault}
use Rattle.delivery.specs.Code.{home_bytes, saved, frame_bytes}
use Rattle.delivery.specs.Delivering.{Sized}

-- 32 registers of 32 bits, and bytes
pub record Sane (x : Contents) : Type 0 where
  pub registers_are_32 : length x.regs ≡ 32
  pub registers_have_32_bits : (r : ℕ) → reg x r < 2 ^ 32
  pub bytes_have_8_bits : (a : ℕ) → slice_index x.mem a < 256

-- a place that a value may travel in
pub record Fits (h : Holding) : Type 0 where
  pub is_well_formed : WellFormed h.place
  pub is_wide_enough : bytes h.width ≤ place_width h.place
  pub pieces_share_no_byte : PiecesApart h.place

abbrev pub InRegister : Piece → Type 0
InRegister (Register d) = Unit {0}
InRegister (Block o w) = ⊥

-- a piece that is not register r
abbrev pub Spares : ℕ → Piece → Type 0
Spares r (Register d) = r ≡ d → ⊥
Spares r (Block o w) = Unit {0}

abbrev pub AllPieces : (Piece → Type 0) → List Holding → Type 0
AllPieces P hs = AllByRecursion (λ h. AllByRecursion P (pieces h.place)) hs

-- a call that is ready to run from x: where its values travel, what it keeps, and a stack that is deep enough
pub record Ready (args results : List Holding) (kept : ℕ) (body : List Instruction) (b : ℕ) (x : Contents) : Type 0 where
  pub contents_are_sane : Sane x
  pub arguments_fit : AllByRecursion Fits args
  pub results_fit : AllByRecursion Fits results
  pub arguments_are_apart : EachApart (map (λ h. h.place) args)
  pub results_are_apart : EachApart (map (λ h. h.place) results)
  pub arguments_are_at_most_16 : length args ≤ 16
  pub results_are_at_most_4 : length results ≤ 4
  pub block_ends_by_b : AllPieces (Below b) args
  pub block_is_at_most_4096_bytes : b ≤ 4096
  pub results_travel_in_registers : AllPieces InRegister results
  pub kept_registers_are_r0_to_r27 : (r : ℕ) → has kept r ≡ true → r ≤ 27
  pub no_argument_has_a_kept_register : (r : ℕ) → has kept r ≡ true → AllPieces (Spares r) args
  pub no_result_has_a_kept_register : (r : ℕ) → has kept r ≡ true → AllPieces (Spares r) results
  pub body_has_no_fault : body_fault (home_bytes (length args + length results)) body 0 ≡ None
  pub body_is_sized : AllByRecursion Sized body
  pub stack_is_deep_enough : b + frame_bytes args results (saved kept body) ≤ reg x 31
  pub homes_are_within_memory : reg x 31 + home_bytes (length args + length results) ≤ length x.mem
