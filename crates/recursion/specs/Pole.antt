-- Document 01: at a pole u is 0, and a column that has overflowed gives NaN. It holds from order 1 on, for a zero of either sign, at every degree from the
-- overflow on; column 0 is not put to a power of u. Assumes nothing.
use Rattle.std.specs.Prelude.{◌≡◌, refl, Bool, true, false, not, cond, List, ℤ, pos, eqb, length, get_or, Float}
use Rattle.std.proofs.Common.{sym, ap, ◌∙◌, mul-pos, zero-add, eqb→eq, pow_pos}
use Rattle.std.proofs.Math.Path.{subst}
use Prim.Native.Nat.{ℕ, zero, suc, ◌+◌, ◌-◌, ◌*◌, ◌≤◌}
use Rattle.std.proofs.Math.Numerals.{unary_clauses}
use native.Mathlib.Omega.{arith}
use Rattle.std.proofs.Math.Dec.{T}
use Rattle.std.specs.Float.{nan, inf, fin, binary64}
use Rattle.std.specs.Float.Ieee.{unlike, up, down, eq, of_bits, neg, add, sub, mul, div}
use Rattle.std.specs.Float.Ieee.Fits.{and_l, up_pos, down_pos}
use Rattle.std.specs.Float.Ieee.Scale.{finite}
use Rattle.number.specs.Float64.{◌⊗◌, ◌⊘◌, zero64, one64}
use Rattle.number.specs.Identities.{product_comm, round_zero, zero_times_nan}
use Rattle.storage.specs.Fill.{fill}
use Rattle.storage.specs.Filled.{filled}
use Rattle.storage.specs.Triangle.{idx, table_size, along, rows_at, idx-within}
use Rattle.recursion.specs.Recursion.{scale64, rescale, step, q, q_cell, p_cell}

-- ---- what is not finite, so an infinity or NaN, stays so: a product with it, and a difference from it
not_finite_either : (b s : Bool) → T (not (finite (cond b nan (inf s))))
not_finite_either true s = tt
not_finite_either false s = tt

not_finite_product : (x y : Float) → T (not (finite y)) → T (not (finite (x ⊗ y)))
unfolding mul
not_finite_product nan y h = tt
not_finite_product (inf s) nan h = tt
not_finite_product (inf s) (inf t) h = tt
not_finite_product (inf s) (fin t n d) h = absurd h
not_finite_product (fin s m e) nan h = tt
not_finite_product (fin s m e) (inf t) h = not_finite_either (eqb m 0) (unlike s t)
not_finite_product (fin s m e) (fin t n d) h = absurd h

not_finite_sum : (x y : Float) → T (not (finite x)) → T (not (finite (add binary64 x y)))
unfolding add
not_finite_sum nan y h = tt
not_finite_sum (inf s) nan h = tt
not_finite_sum (inf true) (inf true) h = tt
not_finite_sum (inf true) (inf false) h = tt
not_finite_sum (inf false) (inf true) h = tt
not_finite_sum (inf false) (inf false) h = tt
not_finite_sum (inf s) (fin t n d) h = tt
not_finite_sum (fin s m e) y h = absurd h

not_finite_step : (a b t q2 q1 : Float) → T (not (finite q1)) → T (not (finite (step a b t q2 q1)))
unfolding sub
not_finite_step a b t q2 q1 h = not_finite_sum (a ⊗ t ⊗ q1) (neg (b ⊗ q2)) (not_finite_product (a ⊗ t) q1 h)

-- so in a column, whatever the tables and t: from a degree to the next, and to every later one
module _ (a b : ℕ → Float) (t : Float) where
  not_finite_next : (m i : ℕ) → T (not (finite (q a b t m i))) → T (not (finite (q a b t m (suc i))))
  unfolding q
  not_finite_next m zero h = not_finite_step _ _ _ _ _ h
  not_finite_next m (suc i) h = not_finite_step _ _ _ _ _ h

  not_finite_later : (m i j : ℕ) → T (not (finite (q a b t m i))) → T (not (finite (q a b t m (i + j))))
  not_finite_later m i zero h = simp unary_clauses h
  not_finite_later m i (suc j) h = simp unary_clauses (not_finite_next m (i + j) (not_finite_later m i j h))

  pub not_finite_on : (k n m : ℕ) → k ≤ n → T (not (finite (q_cell a b t k m))) → T (not (finite (q_cell a b t n m)))
  unfolding q_cell
  not_finite_on k n m l h =
      let e : k - m + (n - m - (k - m)) ≡ n - m = omega arith in
      subst (λ (i : ℕ). T (not (finite (q a b t m i)))) e (not_finite_later m (k - m) (n - m - (k - m)) h)

-- ---- a finite number times a zero of either sign is a zero
zero_digits : (s : Bool) (m : ℕ) (e : ℤ) → eq (fin s m e) zero64 ≡ true → m ≡ 0
unfolding eq of_bits
zero_digits s zero e h = refl
zero_digits s (suc m) e h =
    let g = eqb→eq (suc m * up e * 1) (0 * 1 * down e) (and_l (eqb (suc m * up e * 1) (0 * 1 * down e)) _ (subst T (sym h) tt)) in
    absurd (omega (arith, g, mul-pos (pow_pos 0) (up_pos e)))

times_zero : (x u : Float) → T (finite x) → eq u zero64 ≡ true → (s : Bool) × (x ⊗ u ≡ fin s 0 (pos 0))
unfolding mul eq of_bits
times_zero nan u k h = absurd k
times_zero (inf s) u k h = absurd k
times_zero (fin s m e) nan k h = absurd (subst T (sym h) tt)
times_zero (fin s m e) (inf t) k h = absurd (subst T (sym h) tt)
times_zero (fin s m e) (fin t n d) k h =
    let z : m * up e * (n * up d) ≡ 0 = omega (arith, ap (λ (i : ℕ). m * up e * (i * up d)) (zero_digits t n d h)) in
    (unlike s t, round_zero (unlike s t) _ _ z (mul-pos (down_pos e) (down_pos d)))

-- so from order 1 on the powers of a zero are zeros
pole_power : (u : Float) (m : ℕ) → eq u zero64 ≡ true → (s : Bool) × (rescale u (suc m) ≡ fin s 0 (pos 0))
unfolding rescale div of_bits
pole_power u zero h = times_zero (one64 ⊘ scale64) u tt h
pole_power u (suc m) h =
    let (s, e) = pole_power u m h in
    times_zero (rescale u (suc m)) u (subst (λ (x : Float). T (finite x)) (sym e) tt) h

-- ---- so where u is a zero, of either sign, and the number before the power of u is not finite at a degree, P is NaN at that degree and every later one
pub pole_overflow : (a b : ℕ → Float) (t u : Float) (k n m : ℕ) → 1 ≤ m → k ≤ n → eq u zero64 ≡ true → T (not (finite (q_cell a b t k m)))
    → p_cell a b t u n m ≡ nan
unfolding p_cell
pole_overflow a b t u k n zero o l z h = absurd (omega arith)
pole_overflow a b t u k n (suc m) o l z h =
    let (s, e) = pole_power u m z in
    ap (λ (x : Float). q_cell a b t n (suc m) ⊗ x) e
    ∙ product_comm binary64 (q_cell a b t n (suc m)) (fin s 0 (pos 0))
    ∙ zero_times_nan s (q_cell a b t n (suc m)) (not_finite_on a b t k n (suc m) l h)

-- and so in the table that `compute` of `legendre` leaves, with a and b the two tables it is given; x is what a read past the end would give
pub pole_overflow_computed : (a b : ℕ → Float) (t u : Float) (N : ℕ) (p : List Float) (x : Float) (k n m : ℕ) → table_size N ≤ length p → 1 ≤ m → m ≤ n → n ≤ N
    → k ≤ n → eq u zero64 ≡ true → T (not (finite (q_cell a b t k m))) → get_or (fill 0 (along (p_cell a b t u)) (table_size N) p) (idx n m) x ≡ nan
pole_overflow_computed a b t u N p x k n m r o g c l z h =
    let P = p_cell a b t u in
    let w = idx-within n m N g c in
    rows_at P n m x (filled 0 (along P) (table_size N) p refl) g (sym (zero-add (idx n m))) w (omega (arith, w)) ∙ pole_overflow a b t u k n m o l z h
