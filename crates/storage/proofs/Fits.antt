-- What is computed of the degrees of a table fits 64 bits. Assumes nothing.
use Prim.Native.Nat.{ℕ, ◌+◌, ◌*◌, ◌/◌, ◌≤◌, ◌<◌}
use native.Mathlib.Nat.{mul-le-mul}
use native.Mathlib.Omega.{arith}

pub product_fits : {a b : ℕ} → a ≤ 2701 → b ≤ 2702 → a * b < 18446744073709551616
product_fits {a} {b} h g = omega (arith, mul-le-mul {n₁ = a} {m₁ = b} {n₂ = 2701} {m₂ = 2702} h g)

pub index_fits : {a b m : ℕ} → a ≤ 2701 → b ≤ 2702 → m ≤ 2700 → a * b / 2 + m < 18446744073709551616
index_fits {a} {b} {m} h g l = omega (arith, mul-le-mul {n₁ = a} {m₁ = b} {n₂ = 2701} {m₂ = 2702} h g)
