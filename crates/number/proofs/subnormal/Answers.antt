use mathlib.Core.Path.{◌≡◌, refl, sym, ap, ◌∙◌}
use Prim.Native.Nat.{ℕ, zero, suc, ◌+◌, ◌-◌, ◌*◌, ◌/◌, ◌%◌, ◌^◌, ◌≤◌, ◌<◌}
use native.Mathlib.Nat.{mul_assoc, mul_comm, mul_left_comm, mul-one, pow-succ', lt_irrefl, le_trans, le_of_eq, lt_of_le_of_lt, lt_of_lt_of_le, mul-le-mul_right, mul-lt-mul_of_pos_right}
use lib.Dec.{lit≤}
use lib.Pow.{pow_pos}
use native.Mathlib.Omega.{arith}
use Rattle.number.proofs.subnormal.Goals as goal

-- one digit more, and one power of two less
step : (m z : ℕ) → 1 ≤ z → m * 2 * 2 ^ 52 * 2 ^ (z - 1) ≡ m * 2 ^ 52 * 2 ^ z
step m z h = regroup m (2 ^ 52) (2 ^ (z - 1)) ∙ ap (λ (x : ℕ). m * 2 ^ 52 * x) (sym (pow-succ' 2 (z - 1)) ∙ ap (λ (x : ℕ). 2 ^ x) (go z h))
  where
    regroup : (m p c : ℕ) → m * 2 * p * c ≡ m * p * (2 * c)
    regroup m p c = simp (mul_assoc, mul_comm, mul_left_comm) refl

    go : (z : ℕ) → 1 ≤ z → suc (z - 1) ≡ z
    go z h = omega arith

-- 2 ^ z is not 1 while m is short
left_over : (b m z : ℕ) → 0 < b → m < 2 ^ 52 → b * 2 ^ 1074 ≡ m * 2 ^ 52 * 2 ^ z → 1 ≤ z
left_over b m zero p h e = absurd (lt_irrefl (1 * 2 ^ 1074) (lt_of_le_of_lt (le_trans (mul-le-mul_right (2 ^ 1074) p) (le_of_eq (e ∙ mul-one (m * 2 ^ 52)))) (lt_of_lt_of_le (mul-lt-mul_of_pos_right h (pow_pos 52)) (lit≤ tt))))
left_over b m (suc z) p h e = go z
  where
    go : (z : ℕ) → 1 ≤ suc z
    go z = omega arith

-- the digits and the power of two in one number v, as `scaled` takes them
packed : (m z v : ℕ) → v ≡ z * 4503599627370496 + (m - 4503599627370496) → 2 ^ 52 ≤ m → m < 2 ^ 53 → m * 2 ^ 52 * 2 ^ z ≡ (2 ^ 52 + v % 2 ^ 52) * 2 ^ 52 * 2 ^ (v / 2 ^ 52)
packed m z v is h k =
    let digits : m ≡ 2 ^ 52 + v % 2 ^ 52 = omega arith in
    let exponent : z ≡ v / 2 ^ 52 = omega arith in
    ap (λ (x : ℕ). x * 2 ^ 52 * 2 ^ z) digits ∙ ap (λ (x : ℕ). (2 ^ 52 + v % 2 ^ 52) * 2 ^ 52 * 2 ^ x) exponent

pub loop-m-init : goal.loop-m-init
loop-m-init c = (sym (mul_assoc c.args.b (2 ^ 52) (2 ^ 1022)), omega arith, omega arith, omega arith)

pub overflow_sub-z : goal.overflow_sub-z
overflow_sub-z c =
    left_over c.args.b c.loop-m.m c.loop-m.z c.requires.fact_1 c.loop-m-test.true c.loop-m.invariant.0

pub loop-m-preserved : goal.loop-m-preserved
loop-m-preserved c =
    let i = c.loop-m.invariant in
    (i.0 ∙ sym (step c.loop-m.m c.loop-m.z (left_over c.args.b c.loop-m.m c.loop-m.z c.requires.fact_1 c.loop-m-test.true i.0)), omega arith, omega arith, omega arith)

pub returns : goal.returns
returns c =
    let m = c.loop-m.m in
    let z = c.loop-m.z in
    let v = z * 4503599627370496 + (m - 4503599627370496) in
    c.scaled.ensures c.args.b (c.loop-m.invariant.0 ∙ packed m z v refl c.loop-m-test.false c.loop-m.invariant.2)
