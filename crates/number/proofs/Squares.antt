-- A square in two digits, compared with a * 2 ^ 52. Assumes nothing.
use mathlib.Core.Path.{◌≡◌, refl, sym, ap, ◌∙◌, subst}
use mathlib.Core.Bool.{Bool, true, false, cond}
use Prim.Native.Nat.{ℕ, ◌+◌, ◌-◌, ◌*◌, ◌/◌, ◌%◌, ◌^◌, ◌≤◌, ◌<◌}
use native.Mathlib.Nat.{add_assoc, add_comm, add_left_comm, mul_assoc, mul_comm, mul_left_comm, mul-add, add-mul, mul-one, one-mul, mul-le-mul, lt_of_not-le, div-add-mod'}
use native.Mathlib.Omega.{arith}
use lib.Dec.{ltb}
use borrow.Author.Tests.{lt-ltb, le-ltb, ltb-true, ltb-false}
use Rattle.number.specs.NearestRoot.{NearestRoot}

square : (P h l : ℕ) → (h * P + l) * (h * P + l) ≡ h * h * (P * P) + (h * l * P + h * l * P) + l * l
square P h l = simp (mul-add, add-mul, mul_assoc, mul_comm, mul_left_comm, add_assoc, add_comm, add_left_comm) refl

-- the square of q by its halves
pub halves : (q : ℕ) → q * q ≡ q / 2 ^ 26 * (q / 2 ^ 26) * 2 ^ 52 + 2 * (q / 2 ^ 26) * (q % 2 ^ 26) * 2 ^ 26 + q % 2 ^ 26 * (q % 2 ^ 26)
halves q =
    let h = q / 2 ^ 26 in
    let l = q % 2 ^ 26 in
    let e : q * q ≡ (h * 2 ^ 26 + l) * (h * 2 ^ 26 + l) = ap (λ (k : ℕ). k * k) (sym (div-add-mod' q (2 ^ 26))) in
    e ∙ square (2 ^ 26) h l ∙ go (h * h) (h * l) (2 * h * l) (l * l) (mul_assoc 2 h l)
  where
    go : (x y m z : ℕ) → m ≡ 2 * y → x * (2 ^ 26 * 2 ^ 26) + (y * 2 ^ 26 + y * 2 ^ 26) + z ≡ x * 2 ^ 52 + m * 2 ^ 26 + z
    go x y m z e = omega arith

-- what `below` compares
abbrev pub left : (q H m L : ℕ) → ℕ
left q H m L = H + m / 67108864 + (m % 67108864 * 67108864 + L + 18014398509481984 - q) / 4503599627370496

there : (a q s H m L : ℕ) → s ≡ H * 2 ^ 52 + m * 2 ^ 26 + L → q ≤ 2 ^ 54 → left q H m L < a + 4 → s < a * 2 ^ 52 + q
there a q s H m L e h k = omega arith

back : (a q s H m L : ℕ) → s ≡ H * 2 ^ 52 + m * 2 ^ 26 + L → q ≤ 2 ^ 54 → a + 4 ≤ left q H m L → a * 2 ^ 52 + q ≤ s
back a q s H m L e h k = omega arith

pub same_test : (x y u v : ℕ) → (x < y → u < v) → (y ≤ x → v ≤ u) → (b : Bool) → ltb x y ≡ b → ltb x y ≡ ltb u v
same_test x y u v f g true e = e ∙ sym (lt-ltb u v (f (ltb-true x y e)))
same_test x y u v f g false e = e ∙ sym (le-ltb u v (g (ltb-false x y e)))

pub compares : (a q : ℕ) → q ≤ 2 ^ 54 → ltb (left q (q / 67108864 * (q / 67108864)) (2 * (q / 67108864) * (q % 67108864)) (q % 67108864 * (q % 67108864))) (a + 4) ≡ ltb (q * q) (a * 2 ^ 52 + q)
compares a q h =
    let H = q / 2 ^ 26 * (q / 2 ^ 26) in
    let m = 2 * (q / 2 ^ 26) * (q % 2 ^ 26) in
    let L = q % 2 ^ 26 * (q % 2 ^ 26) in
    same_test (left q H m L) (a + 4) (q * q) (a * 2 ^ 52 + q) (there a q (q * q) H m L (halves q) h) (back a q (q * q) H m L (halves q) h) (ltb (left q H m L) (a + 4)) refl

-- the bounds of the parts
pub h_le : (q : ℕ) → q ≤ 2 ^ 54 → q / 67108864 ≤ 2 ^ 28
h_le q h = omega arith

pub l_le : (q : ℕ) → q % 67108864 ≤ 2 ^ 26
l_le q = omega arith

pub H-le : (q : ℕ) → q ≤ 2 ^ 54 → q / 67108864 * (q / 67108864) ≤ 2 ^ 56
H-le q h = mul-le-mul (h_le q h) (h_le q h)

pub L-le : (q : ℕ) → q % 67108864 * (q % 67108864) ≤ 2 ^ 52
L-le q = mul-le-mul (l_le q) (l_le q)

pub m_le : (q : ℕ) → q ≤ 2 ^ 54 → 2 * (q / 67108864) * (q % 67108864) ≤ 2 ^ 55
m_le q h = mul-le-mul (twice (q / 67108864) (h_le q h)) (l_le q)
  where
    twice : (k : ℕ) → k ≤ 2 ^ 28 → 2 * k ≤ 2 ^ 29
    twice k p = omega arith

-- (q + 1) - 1/2 is q + 1/2
next_square : (q : ℕ) → (q + 1) * (q + 1) ≡ q * q + q + (q + 1)
next_square q = simp (mul-add, add-mul, mul-one, one-mul, add_assoc, add_comm, add_left_comm) refl

pub next_to : (M q : ℕ) → M + (q + 1) ≤ (q + 1) * (q + 1) → M ≤ q * q + q
next_to M q h = omega (arith, next_square q)

too_large : (a q : ℕ) → a + 2 ≤ 2 ^ 54 → q ≤ 2 ^ 53 → q * q < a * 2 ^ 52 + q → 2 ^ 53 ≤ q → ⊥
too_large a q h k l g = omega (arith, mul-le-mul g g)

too_small : (a q : ℕ) → 2 ^ 52 ≤ a → a * 2 ^ 52 ≤ q * q + q → q ≤ 2 ^ 52 - 1 → ⊥
too_small a q h l g = omega (arith, mul-le-mul g g)

near_of : (a q : ℕ) → 2 ^ 52 ≤ a → a + 2 ≤ 2 ^ 54 → q ≤ 2 ^ 53 → q * q < a * 2 ^ 52 + q → a * 2 ^ 52 ≤ q * q + q → NearestRoot a q
near_of a q h k b lo hi = record {
  low = lo;
  high = hi;
  least = lt_of_not-le (λ (g : q ≤ 2 ^ 52 - 1). too_small a q h hi g);
  most = lt_of_not-le (λ (g : 2 ^ 53 ≤ q). too_large a q k b lo g);
}

-- ---- what `corrected` computes: what a * 2 ^ 52 has over q * q, with 2 ^ 56 added
abbrev pub remainder : (a H m L : ℕ) → ℕ
remainder a H m L = ((a + 8 - H) * 33554432 + 268435456 - m) * 134217728 - L

remainder_of : (a s H m n L : ℕ) → s ≡ H * 2 ^ 52 + n * 2 ^ 26 + L → n ≡ 2 * m → H ≤ a + 8 → m ≤ (a + 8 - H) * 33554432 + 268435456
    → L ≤ ((a + 8 - H) * 33554432 + 268435456 - m) * 134217728 → remainder a H m L + s ≡ a * 2 ^ 52 + 72057594037927936
remainder_of a s H m n L e d h k l = omega arith

pub remainder_is : (a q : ℕ) → q / 67108864 * (q / 67108864) ≤ a + 8
    → q / 67108864 * (q % 67108864) ≤ (a + 8 - q / 67108864 * (q / 67108864)) * 33554432 + 268435456
    → q % 67108864 * (q % 67108864) ≤ ((a + 8 - q / 67108864 * (q / 67108864)) * 33554432 + 268435456 - q / 67108864 * (q % 67108864)) * 134217728
    → remainder a (q / 67108864 * (q / 67108864)) (q / 67108864 * (q % 67108864)) (q % 67108864 * (q % 67108864)) + q * q ≡ a * 2 ^ 52 + 72057594037927936
remainder_is a q h k l =
    let x = q / 2 ^ 26 in
    let y = q % 2 ^ 26 in
    remainder_of a (q * q) (x * x) (x * y) (2 * x * y) (y * y) (halves q) (mul_assoc 2 x y) h k l

module _ (a q o : ℕ) (h : 2 ^ 52 ≤ a) (k : a + 2 ≤ 2 ^ 54) (hi : q < 2 ^ 53) (e : o + q * q ≡ a * 2 ^ 52 + 72057594037927936) (top : o ≤ 72057594037927936 + q + 2 * q) (bottom : 72057594037927938 < o + 3 * q) where
  corrected : (t u : Bool) → ltb (72057594037927936 + q) o ≡ t → ltb 72057594037927936 (o + q) ≡ u → NearestRoot a (q + cond t 1 0 + cond u 1 0 - 1)
  corrected true true x y =
      let g : 72057594037927936 + q < o = ltb-true (72057594037927936 + q) o x in
      let is : q + 1 ≡ q + 1 + 1 - 1 = omega arith in
      subst (λ (r : ℕ). NearestRoot a r) is (near_of a (q + 1) h k (omega arith) (omega (arith, next_square q)) (omega (arith, next_square q)))
  corrected false true x y =
      let f : o ≤ 72057594037927936 + q = ltb-false (72057594037927936 + q) o x in
      let g : 72057594037927936 < o + q = ltb-true 72057594037927936 (o + q) y in
      let is : q ≡ q + 0 + 1 - 1 = omega arith in
      subst (λ (r : ℕ). NearestRoot a r) is (near_of a q h k (omega arith) (omega arith) (omega arith))
  corrected false false x y =
      let g : o + q ≤ 72057594037927936 = ltb-false 72057594037927936 (o + q) y in
      let p = q - 1 in
      let one : q ≡ p + 1 = omega arith in
      let sq : q * q ≡ p * p + p + (p + 1) = ap (λ (r : ℕ). r * r) one ∙ next_square p in
      let is : p ≡ q + 0 + 0 - 1 = omega arith in
      subst (λ (r : ℕ). NearestRoot a r) is (near_of a p h k (omega arith) (omega (arith, sq)) (omega (arith, sq)))
  corrected true false x y =
      let f : 72057594037927936 + q < o = ltb-true (72057594037927936 + q) o x in
      let g : o + q ≤ 72057594037927936 = ltb-false 72057594037927936 (o + q) y in
      absurd (omega arith)

  pub corrected_at : NearestRoot a (q + cond (ltb (72057594037927936 + q) o) 1 0 + cond (ltb 72057594037927936 (o + q)) 1 0 - 1)
  corrected_at = corrected (ltb (72057594037927936 + q) o) (ltb 72057594037927936 (o + q)) refl refl
