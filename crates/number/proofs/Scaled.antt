-- The root of a value above the subnormal ones by its digits and its power of two, both in one number v = z * 2 ^ 52 + t. Assumes nothing.
use mathlib.Core.Path.{◌≡◌, refl, sym, ap, ◌∙◌}
use mathlib.Core.Bool.{true}
use Prim.Native.Nat.{ℕ, zero, suc, ◌+◌, ◌-◌, ◌*◌, ◌/◌, ◌%◌, ◌^◌, ◌<◌}
use native.Mathlib.Nat.{mul_assoc, mul_comm}
use native.Mathlib.Omega.{arith}
use lib.Dec.{T}
use lib.Pow.{pow-add}
use lib.Ieee.{Float, binary64, fits, of_bits, to_bits, lt}
use Rattle.number.specs.Root.{root_of_units, root_of}
use Rattle.number.specs.NearestRoot.{ScaledRoot}
use Rattle.number.proofs.Cases.{normal_above, normal_bits, root_mid}

-- r is the root of (2 ^ 52 + t) * 2 ^ 52 * 2 ^ z / 2 ^ 2148
abbrev pub PackedRoot : ℕ → Float → Type 0
PackedRoot v r = (n : ℕ) → n * 2 ^ 1074 ≡ (2 ^ 52 + v % 2 ^ 52) * 2 ^ 52 * 2 ^ (v / 2 ^ 52) → r ≡ root_of_units binary64 n

-- ---- 2 ^ z by its halves
power : (r : ℕ) → r < 2 → 2 ^ r ≡ 1 + r
power zero h = refl
power (suc zero) h = refl
power (suc (suc r)) h = absurd (go r h)
  where
    go : (r : ℕ) → suc (suc r) < 2 → ⊥
    go r h = omega arith

split_power : (z : ℕ) → 2 ^ z ≡ 2 ^ (z / 2) * 2 ^ (z / 2) * (1 + z % 2)
split_power z =
    ap (λ (x : ℕ). 2 ^ x) (go z)
    ∙ pow-add 2 (z / 2 + z / 2) (z % 2)
    ∙ ap (λ (x : ℕ). x * 2 ^ (z % 2)) (pow-add 2 (z / 2) (z / 2))
    ∙ ap (λ (x : ℕ). 2 ^ (z / 2) * 2 ^ (z / 2) * x) (power (z % 2) (under z))
  where
    go : (z : ℕ) → z ≡ z / 2 + z / 2 + z % 2
    go z = omega arith

    under : (z : ℕ) → z % 2 < 2
    under z = omega arith

regroup : (m p c d : ℕ) → m * p * (c * d) ≡ m * d * p * c
regroup m p c d = simp (mul_assoc, mul_comm) refl

by_halves : (m z : ℕ) → m * 2 ^ 52 * 2 ^ z ≡ m * (1 + z % 2) * 2 ^ 52 * (2 ^ (z / 2) * 2 ^ (z / 2))
by_halves m z = ap (λ (x : ℕ). m * 2 ^ 52 * x) (split_power z) ∙ regroup m (2 ^ 52) (2 ^ (z / 2) * 2 ^ (z / 2)) (1 + z % 2)

pub packed_root : (v a : ℕ) (r : Float) → a ≡ (2 ^ 52 + v % 2 ^ 52) * (1 + v / 2 ^ 52 % 2) → ScaledRoot a (v / 2 ^ 53) r → PackedRoot v r
packed_root v a r is root = λ n e.
    root n
    (e
    ∙ by_halves (2 ^ 52 + v % 2 ^ 52) (v / 2 ^ 52)
    ∙ ap (λ (k : ℕ). (2 ^ 52 + v % 2 ^ 52) * (1 + v / 2 ^ 52 % 2) * 2 ^ 52 * (2 ^ k * 2 ^ k)) (half v)
    ∙ ap (λ (x : ℕ). x * 2 ^ 52 * (2 ^ (v / 2 ^ 53) * 2 ^ (v / 2 ^ 53))) (sym is))
  where
    half : (v : ℕ) → v / 2 ^ 52 / 2 ≡ v / 2 ^ 53
    half v = omega arith

-- ---- of a normal value with the pattern b, v is b + 1021 * 2 ^ 52
powers : (t e : ℕ) → (e ≡ 0 → ⊥) → (2 ^ 52 + t) * 2 ^ (e - 1) * 2 ^ 1074 ≡ (2 ^ 52 + t) * 2 ^ 52 * 2 ^ (e + 1021)
powers t e n =
    mul_assoc (2 ^ 52 + t) (2 ^ (e - 1)) (2 ^ 1074)
    ∙ ap (λ (x : ℕ). (2 ^ 52 + t) * x) (sym (pow-add 2 (e - 1) 1074) ∙ ap (λ (x : ℕ). 2 ^ x) (go e n) ∙ pow-add 2 52 (e + 1021))
    ∙ sym (mul_assoc (2 ^ 52 + t) (2 ^ 52) (2 ^ (e + 1021)))
  where
    go : (e : ℕ) → (e ≡ 0 → ⊥) → e - 1 + 1074 ≡ 52 + (e + 1021)
    go e n = omega arith

by_pattern : (b : ℕ) → (b / 2 ^ 52 ≡ 0 → ⊥)
    → (2 ^ 52 + b % 2 ^ 52) * 2 ^ (b / 2 ^ 52 - 1) * 2 ^ 1074
    ≡ (2 ^ 52 + (b + 4598175219545276416) % 2 ^ 52) * 2 ^ 52 * 2 ^ ((b + 4598175219545276416) / 2 ^ 52)
by_pattern b n =
    powers (b % 2 ^ 52) (b / 2 ^ 52) n
    ∙ ap (λ (t : ℕ). (2 ^ 52 + t) * 2 ^ 52 * 2 ^ (b / 2 ^ 52 + 1021)) (fraction b)
    ∙ ap (λ (z : ℕ). (2 ^ 52 + (b + 4598175219545276416) % 2 ^ 52) * 2 ^ 52 * 2 ^ z) (exponent b)
  where
    fraction : (b : ℕ) → b % 2 ^ 52 ≡ (b + 4598175219545276416) % 2 ^ 52
    fraction b = omega arith

    exponent : (b : ℕ) → b / 2 ^ 52 + 1021 ≡ (b + 4598175219545276416) / 2 ^ 52
    exponent b = omega arith

pub normal_root : (x r : Float) → T (fits binary64 x) → lt (of_bits binary64 0x000f_ffff_ffff_ffff) x ≡ true → to_bits binary64 x < 0x7ff0_0000_0000_0000
    → PackedRoot (to_bits binary64 x + 4598175219545276416) r → r ≡ root_of x
normal_root x r held normal finite root =
    let b = to_bits binary64 x in
    let e = b / 2 ^ 52 in
    let positive = normal_above x normal in
    let n = normal_bits x held positive normal in
    let is : e ≡ suc (e - 1) = back e n in
    root ((2 ^ 52 + b % 2 ^ 52) * 2 ^ (e - 1)) (by_pattern b n)
    ∙ sym (root_mid x held positive (e - 1) is (λ (i : suc (e - 1) ≡ 2047). not_top b finite (is ∙ i)))
  where
    back : (e : ℕ) → (e ≡ 0 → ⊥) → e ≡ suc (e - 1)
    back e n = omega arith

    not_top : (b : ℕ) → b < 0x7ff0_0000_0000_0000 → b / 2 ^ 52 ≡ 2047 → ⊥
    not_top b h e = omega arith
