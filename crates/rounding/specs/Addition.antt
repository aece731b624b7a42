-- The rounding error of one addition: fl(x + y) is within 2 ^ -prec of |x + y|, and exact where x + y is representable. There is no
-- absolute part, since x + y is a whole number of units. First over the sign parts, then over the integers. Assumes nothing.
use Rattle.std.specs.Prelude.{◌≡◌, Bool, not, ◌&&◌, cond, ℕ, ◌+◌, ◌-◌, ◌*◌, ◌%◌, ◌^◌, ◌≤◌, ◌<◌, nat_abs, ◌+ℤ◌, ◌-ℤ◌, Float}
use Rattle.std.proofs.Common.{sym, ap, ◌∙◌, subst₂, le_of_lt, mul-le-mul_right, le_of_mul-le-mul_right, mul-pos, arith, ltb→lt, nltb→le}
use Rattle.std.proofs.Math.Bool.{true, false}
use Rattle.std.proofs.Math.Nat.{eq_of_mul-eq-mul_right, mul-mod_left}
use Rattle.std.proofs.Math.Dec.{T, ltb}
use Rattle.std.specs.Float.{nan, inf, fin, Format}
use Rattle.std.specs.Float.Ieee.{prec, low, up, down, round, fits, sum, add}
use Rattle.std.specs.Float.Ieee.Fits.{down_pos}
use Rattle.std.specs.Float.Ieee.Scale.{finite}
use Rattle.rounding.specs.Distance.{dist, dist-mul, dist_equal, equal_of_dist}
use Rattle.rounding.specs.Integers.{Difference, difference_add, difference_sub, difference_unique, abs_difference}
use Rattle.number.specs.Units.{units_of, units_whole}
use Rattle.rounding.specs.Units.{positive_part, negative_part, exact, exact_difference, common_left, common_right}
use Rattle.rounding.specs.RoundingError.{SignedSize, signed_size, Rounded, rounded}

-- The exact sum is A - B units, the computed one p - n; U is 2 ^ prec.
pub record AdditionError (A B p n U : ℕ) : Type 0 where
  pub error : dist (p + B) (n + A) * U ≤ dist A B
  pub representable : (q j : ℕ) → q < U → dist A B ≡ q * 2 ^ j → p + B ≡ n + A

-- ---- a sum of z units with the sign s, rounded to r units
aligned : (s : Bool) (r z A B : ℕ) → A + cond s z 0 ≡ B + cond s 0 z → (dist (cond s 0 r + B) (cond s r 0 + A) ≡ dist r z) × (dist A B ≡ z)
aligned true r z A B e = (omega arith, omega arith)
aligned false r z A B e = (omega arith, omega arith)

rounded_sum : (f : Format) (s : Bool) (num c z A B : ℕ) → 0 < c → num * 2 ^ low f ≡ z * c → A + cond s z 0 ≡ B + cond s 0 z → T (finite (round f s num c))
    → AdditionError A B (positive_part f (round f s num c)) (negative_part f (round f s num c)) (2 ^ prec f)
rounded_sum f s num c z A B C e g t =
    rw (R.sized.positive, R.sized.negative)
    (record {
      error = subst₂ (λ (x y : ℕ). x * 2 ^ prec f ≤ y) (sym d.0) (sym d.1) error_units;
      representable = λ q j l k. equal_of_dist (cond s 0 R.r + B) (cond s R.r 0 + A) (d.0 ∙ dist_equal R.r z (same q j l (sym d.1 ∙ k)));
    })
  where
    R : Rounded f s num c (round f s num c)
    R = rounded f s num c C t

    d : (dist (cond s 0 R.r + B) (cond s R.r 0 + A) ≡ dist R.r z) × (dist A B ≡ z)
    d = aligned s R.r z A B g

    cancel : (D0 D U n : ℕ) → D0 ≡ D * c → n ≡ z * c → D0 * U ≤ n → D * U ≤ z
    cancel D0 D U n p q h =
        let k : D0 * U ≡ D * c * U = ap (λ (x : ℕ). x * U) p in
        let l : D * U * c ≤ z * c = omega arith in
        le_of_mul-le-mul_right l C

    error_units : dist R.r z * 2 ^ prec f ≤ z
    error_units =
        cancel (dist (R.r * c) (num * 2 ^ low f)) (dist R.r z) (2 ^ prec f) (num * 2 ^ low f) (ap (λ (x : ℕ). dist (R.r * c) x) e ∙ dist-mul R.r z c) e
        (R.error_whole (ap (λ (x : ℕ). x % c) e ∙ mul-mod_left z c))

    same : (q j : ℕ) → q < 2 ^ prec f → z ≡ q * 2 ^ j → R.r ≡ z
    same q j l k = eq_of_mul-eq-mul_right c C R.r z (R.representable q j l (e ∙ ap (λ (x : ℕ). x * c) k) ∙ e)

-- ---- the cases of signs. x is zx units in size and a / c, y is zy units and b / c
difference : (zx zy a b c L : ℕ) → 0 < c → zx * c ≡ a * L → zy * c ≡ b * L → a ≤ b → (zx + (zy - zx) ≡ zy) × ((b - a) * L ≡ (zy - zx) * c)
difference zx zy a b c L C p q h = go (b - a) (omega arith) (zy - zx) more
  where
    more : zx + (zy - zx) ≡ zy
    more = let l : zx * c ≤ zy * c = omega (arith, mul-le-mul_right L h) in omega (arith, le_of_mul-le-mul_right l C)

    go : (d : ℕ) → a + d ≡ b → (z : ℕ) → zx + z ≡ zy → (zx + z ≡ zy) × (d * L ≡ z * c)
    go d e z g = (g, omega (arith, ap (λ (x : ℕ). x * L) e, ap (λ (x : ℕ). x * c) g))

module _ (f : Format) (zx zy a b c : ℕ) (C : 0 < c) (p : zx * c ≡ a * 2 ^ low f) (q : zy * c ≡ b * 2 ^ low f) where
  y_larger : a ≤ b → (zx + (zy - zx) ≡ zy) × ((b - a) * 2 ^ low f ≡ (zy - zx) * c)
  y_larger h = difference zx zy a b c (2 ^ low f) C p q h

  x_larger : b ≤ a → (zy + (zx - zy) ≡ zx) × ((a - b) * 2 ^ low f ≡ (zx - zy) * c)
  x_larger h = difference zy zx b a c (2 ^ low f) C q p h

  sum_error : (s t : Bool) → T (finite (sum f s a t b c))
      → AdditionError (cond s 0 zx + cond t 0 zy) (cond s zx 0 + cond t zy 0) (positive_part f (sum f s a t b c)) (negative_part f (sum f s a t b c)) (2 ^ prec f)
  unfolding sum
  sum_error true true k = rounded_sum f true (a + b) c (zx + zy) (0 + 0) (zx + zy) C (omega (arith, p, q)) (omega arith) k
  sum_error false false k = rounded_sum f false (a + b) c (zx + zy) (zx + zy) (0 + 0) C (omega (arith, p, q)) (omega arith) k
  sum_error true false k = go (ltb a b) (ltb b a) (ltb→lt a b) (nltb→le a b) (nltb→le b a) k
    where
      go : (v w : Bool) → (T v → a < b) → (T (not v) → b ≤ a) → (T (not w) → a ≤ b)
          → T (finite (cond v (round f false (b - a) c) (round f (true && w) (a - b) c)))
          → AdditionError (0 + zy) (zx + 0) (positive_part f (cond v (round f false (b - a) c) (round f (true && w) (a - b) c)))
          (negative_part f (cond v (round f false (b - a) c) (round f (true && w) (a - b) c))) (2 ^ prec f)
      go true w h1 h2 h3 k = let d = y_larger (le_of_lt (h1 tt)) in rounded_sum f false (b - a) c (zy - zx) (0 + zy) (zx + 0) C d.1 (omega (arith, d.0)) k
      go false true h1 h2 h3 k = let d = x_larger (h2 tt) in rounded_sum f true (a - b) c (zx - zy) (0 + zy) (zx + 0) C d.1 (omega (arith, d.0)) k
      go false false h1 h2 h3 k =
          let d = x_larger (h2 tt) in
          let d' = y_larger (h3 tt) in
          rounded_sum f false (a - b) c (zx - zy) (0 + zy) (zx + 0) C d.1 (omega (arith, d.0, d'.0)) k
  sum_error false true k = go (ltb a b) (ltb→lt a b) (nltb→le a b) k
    where
      go : (v : Bool) → (T v → a < b) → (T (not v) → b ≤ a) → T (finite (cond v (round f true (b - a) c) (round f (false && ltb b a) (a - b) c)))
          → AdditionError (zx + 0) (0 + zy) (positive_part f (cond v (round f true (b - a) c) (round f (false && ltb b a) (a - b) c)))
          (negative_part f (cond v (round f true (b - a) c) (round f (false && ltb b a) (a - b) c))) (2 ^ prec f)
      go true h1 h2 k = let d = y_larger (le_of_lt (h1 tt)) in rounded_sum f true (b - a) c (zy - zx) (zx + 0) (0 + zy) C d.1 (omega (arith, d.0)) k
      go false h1 h2 k = let d = x_larger (h2 tt) in rounded_sum f false (a - b) c (zx - zy) (zx + 0) (0 + zy) C d.1 (omega (arith, d.0)) k

-- ---- the error of fl(x + y), over the sign parts
pub add_parts : (f : Format) (x y : Float) → T (fits f x) → T (fits f y) → T (finite (add f x y))
    → AdditionError (positive_part f x + positive_part f y) (negative_part f x + negative_part f y) (positive_part f (add f x y))
    (negative_part f (add f x y)) (2 ^ prec f)
unfolding add
add_parts f nan y hx hy k = absurd k
add_parts f (inf s) nan hx hy k = absurd k
add_parts f (inf true) (inf true) hx hy k = absurd k
add_parts f (inf true) (inf false) hx hy k = absurd k
add_parts f (inf false) (inf true) hx hy k = absurd k
add_parts f (inf false) (inf false) hx hy k = absurd k
add_parts f (inf s) (fin t n d) hx hy k = absurd k
add_parts f (fin s m e) nan hx hy k = absurd k
add_parts f (fin s m e) (inf t) hx hy k = absurd k
add_parts f (fin s m e) (fin t n d) hx hy k =
    let x = fin s m e in
    let y = fin t n d in
    let i : SignedSize f x s (units_of f x) = signed_size f s m e in
    let j : SignedSize f y t (units_of f y) = signed_size f t n d in
    rw (i.positive, i.negative, j.positive, j.negative)
    (sum_error f (units_of f x) (units_of f y) (m * up e * down d) (n * up d * down e) (down e * down d) (mul-pos (down_pos e) (down_pos d))
    (common_left (units_of f x) (m * up e) (down e) (down d) (2 ^ low f) (units_whole f s m e hx))
    (common_right (units_of f y) (n * up d) (down e) (down d) (2 ^ low f) (units_whole f t n d hy)) s t k)

-- ---- over the integers
module _ (f : Format) (x y : Float) (hx : T (fits f x)) (hy : T (fits f y)) (k : T (finite (add f x y))) where
  sum_difference : Difference (exact f x +ℤ exact f y) (positive_part f x + positive_part f y) (negative_part f x + negative_part f y)
  sum_difference = difference_add (exact_difference f x) (exact_difference f y)

  -- |fl(x + y) - (x + y)| ≤ 2 ^ -prec |x + y|
  pub add_error : nat_abs (exact f (add f x y) -ℤ (exact f x +ℤ exact f y)) * 2 ^ prec f ≤ nat_abs (exact f x +ℤ exact f y)
  add_error =
      subst₂ (λ (a b : ℕ). a * 2 ^ prec f ≤ b) (sym (abs_difference (difference_sub (exact_difference f (add f x y)) sum_difference)))
      (sym (abs_difference sum_difference))
      (add_parts f x y hx hy k).error

  -- fl(x + y) = x + y where |x + y| is q * 2 ^ j units with q of at most prec digits
  pub add-exact : (q j : ℕ) → q < 2 ^ prec f → nat_abs (exact f x +ℤ exact f y) ≡ q * 2 ^ j → exact f (add f x y) ≡ exact f x +ℤ exact f y
  add-exact q j l e =
      difference_unique (exact_difference f (add f x y)) sum_difference ((add_parts f x y hx hy k).representable q j l (sym (abs_difference sum_difference) ∙ e))
