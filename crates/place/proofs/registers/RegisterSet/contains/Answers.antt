use Rattle.std.proofs.Common.{◌≡◌, ℕ, ◌/◌, ◌^◌, ◌<◌, ◌≤◌, arith, pow_mono}
use Rattle.std.proofs.lemmas.Nat.{div_below, pow_pos}
use Rattle.std.proofs.lemmas.Bool.Decides.{nat_tests}
use Rattle.place.proofs.registers.RegisterSet.contains.Goals as goal

-- a set has no register above 31
none_above : (set r : ℕ) → set < 2 ^ 32 → 32 ≤ r → set / 2 ^ r ≡ 0
none_above set r small h =
    let up : 2 ^ 32 ≤ 2 ^ r = pow_mono h in
    let below : set / 2 ^ r < 1 = div_below set (2 ^ r) 1 (pow_pos r) (omega arith) in
    omega arith

pub returns-else-r-lt32 : goal.returns-else-r-lt32
returns-else-r-lt32 c =
    let none = none_above c.args.self.bits c.args.r (omega arith) c.if-r-lt32.false in
    record { whether_it_has_the_register = grind (arith, nat_tests) }
