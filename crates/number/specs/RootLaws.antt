-- Laws of `square_root`, for proofs of callers. Assumes nothing.
-- `root_fits`: the format holds the root. `root_nearest`: no whole number of units of the last digit is nearer to the root. `root_square`: the root of a square is exact.
use Rattle.std.specs.Prelude.{◌≡◌, refl, Bool, true, false, cond, T, ltb, ℤ, Float}
use Rattle.std.proofs.Common.{sym, ap, ◌∙◌, subst, le_refl, le_trans, le_of_eq, le_of_lt, lt_of_le_of_lt, mul_assoc, mul-le-mul, mul-le-mul_left, mul-le-mul_right, div-mul-le_self, le-add_right, add-zero, add-one, arith, ltb→lt, pow_pos}
use Prim.Native.Nat.{ℕ, zero, suc, ◌+◌, ◌-◌, ◌*◌, ◌/◌, ◌%◌, ◌^◌, ◌≤◌, ◌<◌, compare, Ordering}
use Rattle.std.proofs.Math.Pow.{pow-lt}
use Rattle.std.specs.Float.{nan, inf, fin, Format, binary64}
use Rattle.std.specs.Float.Ieee.{prec, emax, low, up, down, size, nearest, odd, units, fits}
use Rattle.std.specs.Float.Ieee.Fits.{odd-fits, nearest-le, kept-lt, nan-fits, inf-fits}
use Rattle.number.specs.Compared.{Compared, compared}
use Rattle.number.specs.Root.{floor_root, root_of_units, square_root, root_of}
use Rattle.number.specs.FloorRoot.{Floor, double-square, floor_root_lem}
use Rattle.number.specs.RootByDigits.{floor_of, under_next, root_by}

-- ---- `root_of_units` by its parts
abbrev core : Format → ℕ → ℕ → ℕ → Float
core f N s k = units f false (nearest (s / 2 ^ k) (compare (4 * N) ((2 * (s / 2 ^ k) + 1) * 2 ^ k * ((2 * (s / 2 ^ k) + 1) * 2 ^ k)))) k

root_of_units_is : (f : Format) (n : ℕ) → root_of_units f n ≡ core f (n * 2 ^ low f) (floor_root (size (n * 2 ^ low f)) (n * 2 ^ low f)) (size (floor_root (size (n * 2 ^ low f)) (n * 2 ^ low f)) - prec f)
unfolding root_of_units
root_of_units_is f n = refl

-- ---- the format holds the root
units_fits : (f : Format) (s : Bool) (q k : ℕ) → q ≤ 2 ^ prec f → T (fits f (units f s q k))
unfolding units
units_fits f s q k a = go (ltb (q * 2 ^ k) (2 ^ (low f + suc (emax f)))) (ltb→lt (q * 2 ^ k) (2 ^ (low f + suc (emax f))))
  where
    go : (b : Bool) → (T b → q * 2 ^ k < 2 ^ (low f + suc (emax f))) → T (fits f (cond b (odd (suc (prec f)) s q k (low f)) (inf s)))
    go true h = odd-fits f (suc (prec f)) s q k (lt_of_le_of_lt a (pow-lt (le_refl (suc (prec f))))) a (h tt)
    go false h = inf-fits f s

root_of_units_fits : (f : Format) (n : ℕ) → T (fits f (root_of_units f n))
root_of_units_fits f n =
    let N = n * 2 ^ low f in
    let s = floor_root (size N) N in
    let k = size s - prec f in
    let q = s / 2 ^ k in
    let o = compare (4 * N) ((2 * q + 1) * 2 ^ k * ((2 * q + 1) * 2 ^ k)) in
    subst (λ (x : Float). T (fits f x)) (sym (root_of_units_is f n)) (units_fits f false (nearest q o) k (le_trans (nearest-le q o) (kept-lt (prec f) s)))

pub root_fits : (f : Format) (x : Float) → T (fits f x) → T (fits f (square_root f x))
unfolding square_root
root_fits f nan h = nan-fits f
root_fits f (inf true) h = nan-fits f
root_fits f (inf false) h = inf-fits f false
root_fits f (fin s zero e) h = h
root_fits f (fin true (suc m) e) h = nan-fits f
root_fits f (fin false (suc m) e) h = root_of_units_fits f (suc m * up e * 2 ^ low f / down e)

-- ---- the result is q units of 2 ^ k, and √N is within half of 2 ^ k of that: (2 * q - 1) * 2 ^ k ≤ 2 * √N ≤ (2 * q + 1) * 2 ^ k, squared
abbrev pub Nearest : ℕ → ℕ → ℕ → Type 0
Nearest N q c = ((2 * q - 1) * c * ((2 * q - 1) * c) ≤ 4 * N) × (4 * N ≤ (2 * q + 1) * c * ((2 * q + 1) * c))

squares : {a b : ℕ} (c : ℕ) → a ≤ b → a * c * (a * c) ≤ b * c * (b * c)
squares c h = mul-le-mul (mul-le-mul_right c h) (mul-le-mul_right c h)

twice_times : (x c : ℕ) → 2 * x * c * (2 * x * c) ≡ 4 * (x * c * (x * c))
twice_times x c = ap (λ (y : ℕ). y * y) (mul_assoc 2 x c) ∙ double-square (x * c)

module _ (N s c : ℕ) (h : 0 < c) (f : Floor N s) where
  -- twice the cut root, and twice the next
  from-below : 2 * (s / c) * c * (2 * (s / c) * c) ≤ 4 * N
  from-below = le_trans (le_of_eq (twice_times (s / c) c)) (mul-le-mul_left 4 (le_trans (mul-le-mul (div-mul-le_self s c) (div-mul-le_self s c)) f.0))

  from_above : 4 * N ≤ 2 * suc (s / c) * c * (2 * suc (s / c) * c)
  from_above =
      let u : suc s ≤ suc (s / c) * c = under_next s c h in
      le_trans (mul-le-mul_left 4 (le_trans (le_of_lt f.1) (mul-le-mul u u))) (le_of_eq (sym (twice_times (suc (s / c)) c)))

  stays : 4 * N ≤ (2 * (s / c) + 1) * c * ((2 * (s / c) + 1) * c) → Nearest N (s / c) c
  stays u = (le_trans (squares c (less (s / c))) from-below, u)
    where
      less : (x : ℕ) → 2 * x - 1 ≤ 2 * x
      less x = omega arith

  moves : (2 * (s / c) + 1) * c * ((2 * (s / c) + 1) * c) ≤ 4 * N → Nearest N (suc (s / c)) c
  moves l = (le_trans (squares c (same (s / c))) l, le_trans from_above (squares c (more (s / c))))
    where
      same : (x : ℕ) → 2 * suc x - 1 ≤ 2 * x + 1
      same x = omega arith

      more : (x : ℕ) → 2 * suc x ≤ 2 * suc x + 1
      more x = omega arith

  picked : (o : Ordering) → Compared o (4 * N) ((2 * (s / c) + 1) * c * ((2 * (s / c) + 1) * c)) → Nearest N (nearest (s / c) o) c
  picked Ordering.lt x = stays (le_of_lt x)
  picked Ordering.gt x = moves (le_of_lt x)
  picked Ordering.eq x = tie (s / c % 2) (bit (s / c))
    where
      bit : (y : ℕ) → y % 2 < 2
      bit y = omega arith

      tie : (r : ℕ) → r < 2 → Nearest N (s / c + r) c
      tie zero b = subst (λ (y : ℕ). Nearest N y c) (sym (add-zero (s / c))) (stays (le_of_eq x))
      tie (suc zero) b = subst (λ (y : ℕ). Nearest N y c) (sym (add-one (s / c))) (moves (le_of_eq (sym x)))
      tie (suc (suc r)) b = absurd (no r b)
        where
          no : (r : ℕ) → suc (suc r) < 2 → ⊥
          no r b = omega arith

pub root_nearest : (f : Format) (n : ℕ) → (q : ℕ) × (k : ℕ) × (root_of_units f n ≡ units f false q k) × (q ≤ 2 ^ prec f) × Nearest (n * 2 ^ low f) q (2 ^ k)
root_nearest f n =
    let N = n * 2 ^ low f in
    let s = floor_root (size N) N in
    let k = size s - prec f in
    let t = (2 * (s / 2 ^ k) + 1) * 2 ^ k in
    let o = compare (4 * N) (t * t) in
    (nearest (s / 2 ^ k) o, k, root_of_units_is f n, le_trans (nearest-le (s / 2 ^ k) o) (kept-lt (prec f) s), picked N s (2 ^ k) (pow_pos k) (floor_of N) o (compared (4 * N) (t * t)))

-- ---- the root of a square is exact: of (q * 2 ^ K) ^ 2 units of 2 ^ -2148, with q of 53 digits, it is q * 2 ^ K units of 2 ^ -1074
pub root_square : (n q K : ℕ) → n * 2 ^ 1074 ≡ q * q * (2 ^ K * 2 ^ K) → 2 ^ 52 ≤ q → q < 2 ^ 53 → root_of_units binary64 n ≡ units binary64 false q K
root_square n q K e lo hi = root_by n (q * q) K q e (mul-le-mul lo lo) (under (mul-le-mul (pred_le hi) (pred_le hi))) (more (q * q)) (le-add_right (q * q) q)
  where
    more : (x : ℕ) → x < x + q
    more x = omega arith

    pred_le : q < 2 ^ 53 → q ≤ 2 ^ 53 - 1
    pred_le h = omega arith

    under : {x : ℕ} → x ≤ (2 ^ 53 - 1) * (2 ^ 53 - 1) → x < 2 ^ 106
    under h = omega arith

-- ---- `floor_root` is the whole part of the root
pub floor_law : (k n : ℕ) → n < 2 ^ k * 2 ^ k → (floor_root k n * floor_root k n ≤ n) × (n < suc (floor_root k n) * suc (floor_root k n))
floor_law k n h = floor_root_lem k n h

-- ---- what has no root, and what is its own
pub root_of_nan : root_of nan ≡ nan
unfolding square_root
root_of_nan = refl

pub root_of_infinity : root_of (inf false) ≡ inf false
unfolding square_root
root_of_infinity = refl

pub root_of_minus_infinity : root_of (inf true) ≡ nan
unfolding square_root
root_of_minus_infinity = refl

pub root_of_zero : (s : Bool) (e : ℤ) → root_of (fin s 0 e) ≡ fin s 0 e
unfolding square_root
root_of_zero s e = refl

pub root_of_negative : (m : ℕ) (e : ℤ) → root_of (fin true (suc m) e) ≡ nan
unfolding square_root
root_of_negative m e = refl
