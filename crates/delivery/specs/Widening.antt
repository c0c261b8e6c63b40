-- A value's bytes, widened to its place.
use Rattle.std.specs.Prelude.{ℕ, ◌+◌, ◌-◌, ◌/◌, ◌%◌, ◌^◌, cond, List, nat_lt, slice_index}
use Rattle.values.specs.Sizes.{bytes}
use Rattle.values.specs.declared.kinds.Kind.{Kind}
use Rattle.values.specs.declared.kinds.Kind.TheVariants.{Unsigned, Signed, Float, Address}
use Rattle.values.specs.declared.sizes.Size.{Size}

-- byte i of a number, from the lowest
abbrev pub byte_of : ℕ → ℕ → ℕ
byte_of v i = v / 256 ^ i % 256

-- the byte that goes on behind a value's last byte: its sign for kind s, else zero
abbrev pub extension : Kind → ℕ → ℕ
extension Unsigned last = 0
extension Signed last = cond (nat_lt last 128) 0 255
extension Float last = 0
extension Address last = 0

-- byte j of a value of width w that lies in memory from a on, widened
abbrev pub widened_byte : Kind → Size → List ℕ → ℕ → ℕ → ℕ
widened_byte k w m a j = cond (nat_lt j (bytes w)) (slice_index m (a + j)) (extension k (slice_index m (a + (bytes w - 1))))
