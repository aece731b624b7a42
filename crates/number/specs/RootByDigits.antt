-- `root_of_units` by the digits q that are nearest to the root of a * 2 ^ 52. Assumes nothing.
use Rattle.std.specs.Prelude.{◌≡◌, refl, false, Float}
use Rattle.std.proofs.Common.{sym, ap, ◌∙◌, subst, le_trans, le_of_eq, le_antisymm, lt_irrefl, lt_of_lt_of_le, lt_of_le_of_lt, lt_of_not-le, not-le_of_lt, mul_assoc, mul_comm, mul_left_comm, mul-one, mul-pos, mul-le-mul, mul-le-mul_left, mul-le-mul_right, lt_of_mul-lt-mul_right, le_of_mul-le-mul_right, div-mul-le_self, div-add-mod', mod-lt, suc-mul, add-one, arith, pow-add, pow_pos, pow_mono}
use Prim.Native.Nat.{ℕ, zero, suc, ◌+◌, ◌-◌, ◌*◌, ◌/◌, ◌%◌, ◌^◌, ◌≤◌, ◌<◌, compare, Ordering}
use Rattle.std.proofs.Math.Nat.{eq_of_mul-eq-mul_right}
use Rattle.std.specs.Float.{binary64}
use Rattle.std.specs.Float.Ieee.{size, nearest, units}
use Rattle.std.specs.Float.Ieee.Digits.{size-lt, size-le}
use Rattle.number.specs.Compared.{Compared, compared}
use Rattle.number.specs.Root.{floor_root, root_of_units}
use Rattle.number.specs.NearestRoot.{NearestRoot}
use Rattle.number.specs.FloorRoot.{Floor, suc_square, double-square, floor_root_lem}

-- ---- how many digits a number has
pow_lt_back : (i p : ℕ) → 2 ^ i < 2 ^ p → i < p
pow_lt_back i p h = lt_of_not-le (λ (g : p ≤ i). lt_irrefl (2 ^ i) (lt_of_lt_of_le h (pow_mono g)))

pub size_exact : (a n : ℕ) → 2 ^ a ≤ n → n < 2 ^ suc a → size n ≡ suc a
size_exact a n lo hi = le_antisymm (size-le n (suc a) hi) (pow_lt_back a (size n) (lt_of_le_of_lt lo (size-lt n)))

-- ---- the nearest whole number to a root is its whole part w, or the next
module _ (M w : ℕ) (f : Floor M w) where
  not_less : (q : ℕ) → M ≤ q * q + q → q < w → ⊥
  not_less q h g = go (q * q) (suc q * suc q) (w * w) h f.0 (suc_square q) (mul-le-mul g g)
    where
      go : (x y v : ℕ) → M ≤ x + q → v ≤ M → y ≡ x + q + q + 1 → y ≤ v → ⊥
      go x y v a b c d = omega arith

  not_more : (q : ℕ) → q * q < M + q → M ≤ w * w + w → w < q → ⊥
  not_more zero h k g = omega arith
  not_more (suc p) h k g = go (p * p) (suc p * suc p) (w * w) h k (suc_square p) (mul-le-mul (le_of_suc g) (le_of_suc g)) (le_of_suc g)
    where
      le_of_suc : w < suc p → w ≤ p
      le_of_suc g = omega arith

      go : (x y v : ℕ) → y < M + suc p → M ≤ v + w → y ≡ x + p + p + 1 → v ≤ x → w ≤ p → ⊥
      go x y v a b c d e = omega arith

  at_floor : (q : ℕ) → q * q < M + q → M ≤ q * q + q → M ≤ w * w + w → w ≡ q
  at_floor q lo hi h = le_antisymm (pred_le (lt_of_not-le (λ (g : suc q ≤ w). not_less q hi g))) (pred_le (lt_of_not-le (λ (g : suc w ≤ q). not_more q lo h g)))
    where
      pred_le : {a b : ℕ} → a < suc b → a ≤ b
      pred_le h = omega arith

  past : (q : ℕ) → q * q < M + q → suc w < q → ⊥
  past zero h g = omega arith
  past (suc p) h g = go (p * p) (suc p * suc p) (suc w * suc w) h f.1 (suc_square p) (mul-le-mul (le_of_suc g) (le_of_suc g))
    where
      le_of_suc : suc w < suc p → suc w ≤ p
      le_of_suc g = omega arith

      go : (x y v : ℕ) → y < M + suc p → M < v → y ≡ x + p + p + 1 → v ≤ x → ⊥
      go x y v a b c d = omega arith

  short : (q : ℕ) → M ≤ q * q + q → w * w + w < M → q ≤ w → ⊥
  short q h k g = go (q * q) (w * w) h k (mul-le-mul g g)
    where
      go : (x v : ℕ) → M ≤ x + q → v + w < M → x ≤ v → ⊥
      go x v a b c = omega arith

  at_next : (q : ℕ) → q * q < M + q → M ≤ q * q + q → w * w + w < M → suc w ≡ q
  at_next q lo hi h = le_antisymm (lt_of_not-le (λ (g : q ≤ w). short q hi h g)) (pred_le (lt_of_not-le (λ (g : suc (suc w) ≤ q). past q lo g)))
    where
      pred_le : {a b : ℕ} → a < suc b → a ≤ b
      pred_le h = omega arith

-- ---- the comparison with (w + 1/2) * c, doubled and squared
odd_square : (w : ℕ) → (2 * w + 1) * (2 * w + 1) ≡ 4 * (w * w) + 4 * w + 1
odd_square w = subst (λ (k : ℕ). k * k ≡ 4 * (w * w) + 4 * w + 1) (sym (add-one (2 * w))) (suc_square (2 * w) ∙ ap (λ (k : ℕ). k + 2 * w + 2 * w + 1) (double-square w) ∙ go (w * w) w)
  where
    go : (x w : ℕ) → 4 * x + 2 * w + 2 * w + 1 ≡ 4 * x + 4 * w + 1
    go x w = omega arith

pub product-square : (x c : ℕ) → x * c * (x * c) ≡ x * x * (c * c)
product-square x c = simp (mul_assoc, mul_comm, mul_left_comm) refl

chosen : (M w C q : ℕ) → 0 < C → Floor M w → q * q < M + q → M ≤ q * q + q → (o : Ordering) → Compared o (4 * M * C) ((2 * w + 1) * (2 * w + 1) * C) → nearest w o ≡ q
chosen M w C q p f lo hi Ordering.lt h = at_floor M w f q lo hi (go (w * w) ((2 * w + 1) * (2 * w + 1)) (odd_square w) (lt_of_mul-lt-mul_right C h))
  where
    go : (x y : ℕ) → y ≡ 4 * x + 4 * w + 1 → 4 * M < y → M ≤ x + w
    go x y a b = omega arith
chosen M w C q p f lo hi Ordering.eq h = absurd (go (w * w) ((2 * w + 1) * (2 * w + 1)) (odd_square w) (eq_of_mul-eq-mul_right C p (4 * M) ((2 * w + 1) * (2 * w + 1)) h))
  where
    go : (x y : ℕ) → y ≡ 4 * x + 4 * w + 1 → 4 * M ≡ y → ⊥
    go x y a b = omega arith
chosen M w C q p f lo hi Ordering.gt h = at_next M w f q lo hi (go (w * w) ((2 * w + 1) * (2 * w + 1)) (odd_square w) (lt_of_mul-lt-mul_right C h))
  where
    go : (x y : ℕ) → y ≡ 4 * x + 4 * w + 1 → y < 4 * M → x + w < M
    go x y a b = omega arith

-- ---- the root of M * c * c cut by c is the root of M
pub under_next : (s c : ℕ) → 0 < c → s < suc (s / c) * c
under_next s c h = go (s / c * c) (s % c) (suc (s / c) * c) (div-add-mod' s c) (mod-lt s h) (suc-mul (s / c) c)
  where
    go : (a r b : ℕ) → a + r ≡ s → r < c → b ≡ a + c → s < b
    go a r b x y z = omega arith

cut : (M c s : ℕ) → 0 < c → Floor (M * (c * c)) s → Floor M (s / c)
cut M c s h f =
    let w = s / c in
    let lo : w * w * (c * c) ≤ M * (c * c) = le_trans (le_of_eq (sym (product-square w c))) (le_trans (mul-le-mul (div-mul-le_self s c) (div-mul-le_self s c)) f.0) in
    let up : suc s ≤ suc w * c = under_next s c h in
    let hi : M * (c * c) < suc w * suc w * (c * c) = lt_of_lt_of_le f.1 (le_trans (mul-le-mul up up) (le_of_eq (product-square (suc w) c))) in
    (le_of_mul-le-mul_right lo (mul-pos h h), lt_of_mul-lt-mul_right (c * c) hi)

-- ---- M's root has 53 digits
least : (M w : ℕ) → Floor M w → 2 ^ 104 ≤ M → 2 ^ 52 ≤ w
least M w f h = lt_of_not-le (λ (g : w ≤ 2 ^ 52 - 1). go w g)
  where
    go : (w' : ℕ) → w ≤ 2 ^ 52 - 1 → ⊥
    go w' g =
        let k : suc w ≤ 2 ^ 52 = omega arith in
        let l : suc w * suc w ≤ 2 ^ 104 = mul-le-mul k k in
        not-le_of_lt (lt_of_lt_of_le f.1 l) h

most : (M w : ℕ) → Floor M w → M < 2 ^ 106 → w < 2 ^ 53
most M w f h = lt_of_not-le (λ (g : 2 ^ 53 ≤ w). not-le_of_lt h (le_trans (mul-le-mul g g) f.0))

sized : (s K : ℕ) → 2 ^ 52 ≤ s / 2 ^ K → s / 2 ^ K < 2 ^ 53 → size s - 53 ≡ K
sized s K lo hi =
    let c = 2 ^ K in
    let a : 2 ^ (52 + K) ≤ s = le_trans (le_of_eq (pow-add 2 52 K)) (le_trans (mul-le-mul_right c lo) (div-mul-le_self s c)) in
    let b : s < 2 ^ (53 + K) = lt_of_lt_of_le (under_next s c (pow_pos K)) (le_trans (mul-le-mul_right c hi) (le_of_eq (sym (pow-add 2 53 K)))) in
    ap (λ (x : ℕ). x - 53) (size_exact (52 + K) s a (subst (λ (x : ℕ). s < 2 ^ x) (one_more K) b)) ∙ back K
  where
    one_more : (K : ℕ) → 53 + K ≡ suc (52 + K)
    one_more K = omega arith

    back : (K : ℕ) → suc (52 + K) - 53 ≡ K
    back K = omega arith

-- ---- `root_of_units`, with its parts as arguments
abbrev core : ℕ → ℕ → ℕ → Float
core N s k = units binary64 false (nearest (s / 2 ^ k) (compare (4 * N) ((2 * (s / 2 ^ k) + 1) * 2 ^ k * ((2 * (s / 2 ^ k) + 1) * 2 ^ k)))) k

root_of_units_is : (n : ℕ) → root_of_units binary64 n ≡ core (n * 2 ^ 1074) (floor_root (size (n * 2 ^ 1074)) (n * 2 ^ 1074)) (size (floor_root (size (n * 2 ^ 1074)) (n * 2 ^ 1074)) - 53)
unfolding root_of_units
root_of_units_is n = refl

pub floor_of : (N : ℕ) → Floor N (floor_root (size N) N)
floor_of N = floor_root_lem (size N) N (lt_of_lt_of_le (size-lt N) (le_trans (le_of_eq (sym (mul-one (2 ^ size N)))) (mul-le-mul_left (2 ^ size N) (pow_pos (size N)))))

-- for any whole M of 105 or 106 digits that n * 2 ^ 1074 is a square power of two times
pub root_by : (n M K q : ℕ) → n * 2 ^ 1074 ≡ M * (2 ^ K * 2 ^ K) → 2 ^ 104 ≤ M → M < 2 ^ 106 → q * q < M + q → M ≤ q * q + q → root_of_units binary64 n ≡ units binary64 false q K
root_by n M K q e lo hi below above =
    let N = n * 2 ^ 1074 in
    let s = floor_root (size N) N in
    let c = 2 ^ K in
    let w = s / c in
    let f : Floor M w = cut M c s (pow_pos K) (subst (λ (x : ℕ). Floor x s) e (floor_of N)) in
    let k : size s - 53 ≡ K = sized s K (least M w f lo) (most M w f hi) in
    let t = (2 * w + 1) * c in
    let left : 4 * N ≡ 4 * M * (c * c) = ap (λ (x : ℕ). 4 * x) e ∙ sym (mul_assoc 4 M (c * c)) in
    let is : nearest w (compare (4 * N) (t * t)) ≡ q =
    ap (λ (x : ℕ). nearest w (compare x (t * t))) left
    ∙ ap (λ (x : ℕ). nearest w (compare (4 * M * (c * c)) x)) (product-square (2 * w + 1) c)
    ∙ chosen M w (c * c) q (mul-pos (pow_pos K) (pow_pos K)) f below above (compare (4 * M * (c * c)) ((2 * w + 1) * (2 * w + 1) * (c * c))) (compared (4 * M * (c * c)) ((2 * w + 1) * (2 * w + 1) * (c * c))) in
    root_of_units_is n ∙ ap (λ (x : ℕ). core N s x) k ∙ ap (λ (x : ℕ). units binary64 false x K) is

pub root_units : (n a K q : ℕ) → n * 2 ^ 1074 ≡ a * 2 ^ 52 * (2 ^ K * 2 ^ K) → 2 ^ 52 ≤ a → a < 2 ^ 54 → NearestRoot a q → root_of_units binary64 n ≡ units binary64 false q K
root_units n a K q e lo hi near = root_by n (a * 2 ^ 52) K q e (omega arith) (omega arith) near.low near.high
