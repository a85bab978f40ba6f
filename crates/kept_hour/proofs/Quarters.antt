-- Sets of quarters made bit by bit.
use Rattle.std.proofs.Common.{◌≡◌, ℕ, ◌+◌, ◌*◌, Bool, true, false, refl}
use Rattle.flow_netting.specs.QuarterSet.{has}
use Rattle.kept_hour.specs.Bits.{bit}

-- a set of four bits has the quarters whose bits are set
pub record HasBits (set : ℕ) (a b c d : Bool) : Type 0 where
  pub one : has (record { 0 = set }) 1 ≡ a
  pub two : has (record { 0 = set }) 2 ≡ b
  pub three : has (record { 0 = set }) 3 ≡ c
  pub four : has (record { 0 = set }) 4 ≡ d

pub bits : (a b c d : Bool) → HasBits (bit a + 2 * bit b + 4 * bit c + 8 * bit d) a b c d
bits true true true true = record { one = refl; two = refl; three = refl; four = refl }
bits true true true false = record { one = refl; two = refl; three = refl; four = refl }
bits true true false true = record { one = refl; two = refl; three = refl; four = refl }
bits true true false false = record { one = refl; two = refl; three = refl; four = refl }
bits true false true true = record { one = refl; two = refl; three = refl; four = refl }
bits true false true false = record { one = refl; two = refl; three = refl; four = refl }
bits true false false true = record { one = refl; two = refl; three = refl; four = refl }
bits true false false false = record { one = refl; two = refl; three = refl; four = refl }
bits false true true true = record { one = refl; two = refl; three = refl; four = refl }
bits false true true false = record { one = refl; two = refl; three = refl; four = refl }
bits false true false true = record { one = refl; two = refl; three = refl; four = refl }
bits false true false false = record { one = refl; two = refl; three = refl; four = refl }
bits false false true true = record { one = refl; two = refl; three = refl; four = refl }
bits false false true false = record { one = refl; two = refl; three = refl; four = refl }
bits false false false true = record { one = refl; two = refl; three = refl; four = refl }
bits false false false false = record { one = refl; two = refl; three = refl; four = refl }
