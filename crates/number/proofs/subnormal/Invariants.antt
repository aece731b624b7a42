use mathlib.Core.Path.{◌≡◌, refl, sym, ap, ◌∙◌}
use Prim.Native.Nat.{ℕ, zero, suc, ◌+◌, ◌-◌, ◌*◌, ◌/◌, ◌%◌, ◌^◌, ◌≤◌, ◌<◌}
use native.Mathlib.Nat.{mul_assoc, mul_comm, mul_left_comm, mul-one, pow-succ', lt_irrefl, le_trans, le_of_eq, lt_of_le_of_lt, lt_of_lt_of_le, mul-le-mul_right, mul-lt-mul_of_pos_right}
use lib.Dec.{lit≤}
use lib.Pow.{pow_pos}
use native.Mathlib.Omega.{arith}
use Rattle.number.proofs.subnormal.Given as goal

abbrev pub invariant-loop-m : goal.invariant-loop-m
invariant-loop-m l = (l.b * 2 ^ 1074 ≡ l.m * 2 ^ 52 * 2 ^ l.z) × (0 < l.m) × (l.m < 2 ^ 53) × (l.z ≤ 1022)

abbrev pub decreases-loop-m : goal.decreases-loop-m
decreases-loop-m l = 2 ^ 52 - l.m
