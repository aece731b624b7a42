-- The error of rounding a fraction num / den to the nearest value of a format, in units of the format's smallest value: half an ulp, that is
-- at most 2 ^ -prec of the fraction or half a unit; nothing where the fraction is representable. Assumes nothing.
use Rattle.std.specs.Prelude.{◌≡◌, refl, ◌⊎◌, Bool, true, false, cond, ℤ, T, ltb, Float}
use Rattle.std.proofs.Common.{sym, ◌∙◌, inl, inr, le_of_eq, mul_comm, mul-le-mul_right, mod-lt, div-add-mod', le-div_iff_mul-le, eq-zero-or-pos, pow-suc, ltb→lt, pow-add, pow_pos, shl_lt}
use Rattle.std.proofs.Math.Path.{ap, subst}
use Prim.Native.Nat.{ℕ, zero, suc, ◌+◌, ◌-◌, ◌*◌, ◌/◌, ◌%◌, ◌^◌, ◌≤◌, ◌<◌, compare, Ordering}
use Rattle.std.proofs.Math.Nat.{le_trans, mul_assoc, mul-pos, mul-mod_left, mul-div_cancel, mul-one}
use native.Mathlib.Omega.{arith}
use Rattle.std.specs.Float.{nan, inf, fin, Format}
use Rattle.std.specs.Float.Ieee.{prec, low, up, down, nearest, size, odd, units, round}
use Rattle.std.specs.Float.Ieee.Digits.{size_reaches, size-le, back}
use Rattle.std.specs.Float.Ieee.Exact.{HasValue, units_val}
use Rattle.std.specs.Float.Ieee.Fits.{round_is, two, two-le_pos, down_pos}
use Rattle.std.specs.Float.Ieee.Nearest.{closest, nearest-ge}
use Rattle.std.specs.Float.Ieee.Order.{drop, kept}
use Rattle.std.specs.Float.Ieee.Scale.{grid, overflow, finite}
use Rattle.rounding.specs.Distance.{dist}
use Rattle.number.specs.Compared.{Compared, compared}
use Rattle.number.specs.Units.{units_of}
use Rattle.rounding.specs.Units.{positive_part, negative_part}

-- ---- the multiple of u nearest to n: at most u / 2 away
tie_error : (b q r u n : ℕ) → b < 2 → q * u + r ≡ n → r * 2 ≡ u → dist ((q + b) * u) n * 2 ≤ u
tie_error zero q r u n l e h = omega arith
tie_error (suc zero) q r u n l e h = omega arith
tie_error (suc (suc b)) q r u n l e h = omega arith

nearest_error : (o : Ordering) (q r u n : ℕ) → q * u + r ≡ n → r < u → Compared o (r * 2) u → dist (nearest q o * u) n * 2 ≤ u
nearest_error Ordering.lt q r u n e h c = omega arith
nearest_error Ordering.eq q r u n e h c = tie_error (q % 2) q r u n (mod-lt q (omega arith)) e c
nearest_error Ordering.gt q r u n e h c = omega arith

nearest-exact : (o : Ordering) (q r u n : ℕ) → q * u + r ≡ n → r ≡ 0 → 0 < u → Compared o (r * 2) u → nearest q o * u ≡ n
nearest-exact Ordering.lt q r u n e z h c = omega arith
nearest-exact Ordering.eq q r u n e z h c = omega arith
nearest-exact Ordering.gt q r u n e z h c = omega arith

closest_error : (n u : ℕ) → 0 < u → dist (closest n u * u) n * 2 ≤ u
closest_error n u h = nearest_error (compare (n % u * 2) u) (n / u) (n % u) u n (div-add-mod' n u) (mod-lt n h) (compared (n % u * 2) u)

closest_exact : (n u : ℕ) → 0 < u → n % u ≡ 0 → closest n u * u ≡ n
closest_exact n u h z = nearest-exact (compare (n % u * 2) u) (n / u) (n % u) u n (div-add-mod' n u) z h (compared (n % u * 2) u)

-- ---- `round`'s result, kept * 2 ^ drop units, against n / c units, for a format of p digits
module _ (p n c : ℕ) (P : 0 < p) (C : 0 < c) where
  -- one ulp of the result, times c
  ulp : ℕ
  ulp = c * 2 ^ drop p n c

  ulp_pos : 0 < ulp
  unfolding ulp
  ulp_pos = mul-pos C (pow_pos (drop p n c))

  in_ulps : kept p n c * 2 ^ drop p n c * c ≡ kept p n c * ulp
  unfolding ulp
  in_ulps = mul_assoc (kept p n c) (2 ^ drop p n c) c ∙ ap (λ (x : ℕ). kept p n c * x) (mul_comm (2 ^ drop p n c) c)

  half_ulp : dist (kept p n c * 2 ^ drop p n c * c) n * 2 ≤ ulp
  unfolding ulp
  half_ulp = subst (λ (x : ℕ). dist x n * 2 ≤ ulp) (sym in_ulps) (closest_error n ulp ulp_pos)

  -- where digits are dropped an ulp is at most 2 ^ (1 - p) of the fraction
  ulp_le : 0 < drop p n c → 2 ^ (p - 1) * ulp ≤ n
  unfolding ulp
  ulp_le K =
      let k = drop p n c in
      let a : 2 ^ (p - 1) * 2 ^ k ≤ n / c = le_trans (le_of_eq (sym (pow-add 2 (p - 1) k))) (size_reaches (n / c) (p - 1 + k) (digits (size (n / c)) K)) in
      let b : 2 ^ (p - 1) * 2 ^ k * c ≤ n = (le-div_iff_mul-le C).0 a in
      omega arith
    where
      digits : (z : ℕ) → 0 < z - p → p - 1 + (z - p) < z
      digits z h = omega (arith, P)

  ulp_one : drop p n c ≡ 0 → ulp ≡ c
  unfolding ulp
  ulp_one e = ap (λ (x : ℕ). c * 2 ^ x) e ∙ mul-one c

  relative_error : 0 < drop p n c → dist (kept p n c * 2 ^ drop p n c * c) n * 2 * 2 ^ (p - 1) ≤ n
  relative_error K = le_trans (mul-le-mul_right (2 ^ (p - 1)) half_ulp) (le_trans (le_of_eq (mul_comm ulp (2 ^ (p - 1)))) (ulp_le K))

  -- twice the error is at most 2 ^ (1 - p) of the fraction, or at most one unit
  kept_error : (dist (kept p n c * 2 ^ drop p n c * c) n * 2 * 2 ^ (p - 1) ≤ n) ⊎ (dist (kept p n c * 2 ^ drop p n c * c) n * 2 ≤ c)
  kept_error =
      elim (eq-zero-or-pos (drop p n c)) [
        | inl e ↦ inr (le_trans half_ulp (le_of_eq (ulp_one e)))
        | inr K ↦ inl (relative_error K)
      ]

  -- no error where the ulp divides the fraction
  kept-exact : n % ulp ≡ 0 → kept p n c * 2 ^ drop p n c * c ≡ n
  unfolding ulp
  kept-exact z = in_ulps ∙ closest_exact n ulp ulp_pos z

  -- at most 2 ^ (1 - p) of the fraction where that is a whole number of units
  kept_error_whole : n % c ≡ 0 → dist (kept p n c * 2 ^ drop p n c * c) n * 2 * 2 ^ (p - 1) ≤ n
  kept_error_whole z =
      elim (eq-zero-or-pos (drop p n c)) [
        | inl e ↦ none (kept p n c * 2 ^ drop p n c * c) (2 ^ (p - 1)) (kept-exact (subst (λ (x : ℕ). n % x ≡ 0) (sym (ulp_one e)) z))
        | inr K ↦ relative_error K
      ]
    where
      none : (a v : ℕ) → a ≡ n → dist a n * 2 * v ≤ n
      none a v e = le_trans (mul-le-mul_right v (zero_dist a n e)) (omega arith)
        where
          zero_dist : (a n : ℕ) → a ≡ n → dist a n * 2 ≤ 0
          zero_dist a n e = omega arith

  -- at most 2 ^ (1 - p) of the result where that is normal, of p digits or more
  kept_error_normal : 2 ^ (p - 1) ≤ kept p n c * 2 ^ drop p n c → dist (kept p n c * 2 ^ drop p n c * c) n * 2 * 2 ^ (p - 1) ≤ kept p n c * 2 ^ drop p n c * c
  kept_error_normal h =
      elim (eq-zero-or-pos (drop p n c)) [
        | inl e ↦ le_trans (mul-le-mul_right (2 ^ (p - 1)) (le_trans half_ulp (le_of_eq (ulp_one e))))
            (le_trans (le_of_eq (mul_comm c (2 ^ (p - 1)))) (mul-le-mul_right c h))
        | inr K ↦
            le_trans (mul-le-mul_right (2 ^ (p - 1)) half_ulp)
            (le_trans (le_of_eq (mul_comm ulp (2 ^ (p - 1)))) (le_trans (mul-le-mul_right ulp (digits K)) (le_of_eq (sym in_ulps))))
      ]
    where
      digits : 0 < drop p n c → 2 ^ (p - 1) ≤ kept p n c
      digits K = le_trans ((le-div_iff_mul-le ulp_pos).1 (ulp_le K)) (unfold ulp in nearest-ge (n / ulp) (compare (n % ulp * 2) ulp))

  -- none where the fraction is q * 2 ^ j units with q of at most p digits
  kept_representable : (q j : ℕ) → q < 2 ^ p → n ≡ q * 2 ^ j * c → kept p n c * 2 ^ drop p n c * c ≡ n
  unfolding ulp
  kept_representable q j h e = kept-exact (ap (λ (x : ℕ). x % ulp) multiple ∙ mul-mod_left (q * 2 ^ (j - drop p n c)) ulp)
    where
      whole : n / c ≡ q * 2 ^ j
      whole = ap (λ (x : ℕ). x / c) e ∙ mul-div_cancel (q * 2 ^ j) C

      fewer : drop p n c ≤ j
      fewer = within (size (n / c)) (size-le (n / c) (p + j) (subst (λ (x : ℕ). x < 2 ^ (p + j)) (sym whole) (shl_lt p j h)))
        where
          within : (z : ℕ) → z ≤ p + j → z - p ≤ j
          within z l = omega arith

      shift : q * 2 ^ (j - drop p n c) * 2 ^ drop p n c ≡ q * 2 ^ j
      shift =
          mul_assoc q (2 ^ (j - drop p n c)) (2 ^ drop p n c)
          ∙ ap (λ (x : ℕ). q * x) (sym (pow-add 2 (j - drop p n c) (drop p n c)) ∙ ap (λ (x : ℕ). 2 ^ x) (back j (drop p n c) fewer))

      multiple : n ≡ q * 2 ^ (j - drop p n c) * ulp
      multiple =
          e
          ∙ ap (λ (x : ℕ). x * c) (sym shift)
          ∙ mul_assoc (q * 2 ^ (j - drop p n c)) (2 ^ drop p n c) c
          ∙ ap (λ (x : ℕ). q * 2 ^ (j - drop p n c) * x) (mul_comm (2 ^ drop p n c) c)

-- ---- the result's sign and size
-- x has the sign s and is z units in size
pub record SignedSize (f : Format) (x : Float) (s : Bool) (z : ℕ) : Type 0 where
  pub positive : positive_part f x ≡ cond s 0 z
  pub negative : negative_part f x ≡ cond s z 0

pub signed_size : (f : Format) (s : Bool) (m : ℕ) (e : ℤ) → SignedSize f (fin s m e) s (units_of f (fin s m e))
unfolding positive_part negative_part
signed_size f true m e = record { positive = refl; negative = refl }
signed_size f false m e = record { positive = refl; negative = refl }

size_of_value : (f : Format) (x : Float) (s : Bool) (g : ℕ) → HasValue x s g (2 ^ low f) → SignedSize f x s g
unfolding units_of positive_part negative_part
size_of_value f nan s g h = absurd h
size_of_value f (inf t) s g h = absurd h
size_of_value f (fin true m e) s g h =
    let q : m * up e * 2 ^ low f / down e ≡ g = ap (λ (x : ℕ). x / down e) h.1 ∙ mul-div_cancel g (down_pos e) in
    subst (λ (t : Bool). SignedSize f (fin true m e) t g) h.0 (record { positive = refl; negative = q })
size_of_value f (fin false m e) s g h =
    let q : m * up e * 2 ^ low f / down e ≡ g = ap (λ (x : ℕ). x / down e) h.1 ∙ mul-div_cancel g (down_pos e) in
    subst (λ (t : Bool). SignedSize f (fin false m e) t g) h.0 (record { positive = q; negative = refl })

under_overflow : (f : Format) (s : Bool) (q k : ℕ) → T (finite (units f s q k)) → q * 2 ^ k < overflow f
unfolding units
under_overflow f s q k = go (ltb (q * 2 ^ k) (overflow f)) (ltb→lt (q * 2 ^ k) (overflow f))
  where
    go : (b : Bool) → (T b → q * 2 ^ k < overflow f) → T (finite (cond b (odd (suc (prec f)) s q k (low f)) (inf s))) → q * 2 ^ k < overflow f
    go true h t = h tt
    go false h t = absurd t

round_size : (f : Format) (s : Bool) (num den : ℕ) → T (finite (round f s num den)) → SignedSize f (round f s num den) s (grid f num den)
round_size f s num den t =
    size_of_value f (round f s num den) s (grid f num den)
    (subst (λ (z : Float). HasValue z s (grid f num den) (2 ^ low f)) (sym (round_is f s num den))
    (units_val f s q k (under_overflow f s q k (subst (λ (z : Float). T (finite z)) (round_is f s num den) t))))
  where
    q : ℕ
    q = kept (prec f) (num * 2 ^ low f) den

    k : ℕ
    k = drop (prec f) (num * 2 ^ low f) den

-- ---- the error of `round`
-- x is num / den rounded, with the sign s: r units in size, against num * 2 ^ low / den units exactly
pub record Rounded (f : Format) (s : Bool) (num den : ℕ) (x : Float) : Type 0 where
  pub r : ℕ
  pub sized : SignedSize f x s r
  -- at most 2 ^ -prec of the fraction and half a unit together
  pub error : dist (r * den) (num * 2 ^ low f) * 2 * 2 ^ prec f ≤ num * 2 ^ low f * 2 + den * 2 ^ prec f
  -- at most 2 ^ -prec of the fraction, where that is a whole number of units
  pub error_whole : num * 2 ^ low f % den ≡ 0 → dist (r * den) (num * 2 ^ low f) * 2 ^ prec f ≤ num * 2 ^ low f
  -- at most 2 ^ -prec of the result, where that is normal: of at least 2 ^ (prec - 1) units
  pub error_normal : 2 ^ prec f ≤ r * 2 → dist (r * den) (num * 2 ^ low f) * 2 ^ prec f ≤ r * den
  -- none, where the fraction is representable
  pub representable : (q j : ℕ) → q < 2 ^ prec f → num * 2 ^ low f ≡ q * 2 ^ j * den → r * den ≡ num * 2 ^ low f

twice_half : (p : ℕ) → 0 < p → 2 * 2 ^ (p - 1) ≡ 2 ^ p
twice_half (suc p) h = ap (λ (x : ℕ). 2 * 2 ^ x) (less p) ∙ mul_comm 2 (2 ^ p) ∙ sym (pow-suc 2 p)
  where
    less : (p : ℕ) → suc p - 1 ≡ p
    less p = omega arith
twice_half zero h = omega arith

pub rounded : (f : Format) (s : Bool) (num den : ℕ) → 0 < den → T (finite (round f s num den)) → Rounded f s num den (round f s num den)
rounded f s num den D t =
    let n = num * 2 ^ low f in
    let P : 0 < prec f = two-le_pos (prec f) (two f) in
    let E = dist (grid f num den * den) n in
    let v : 2 * 2 ^ (prec f - 1) ≡ 2 ^ prec f = twice_half (prec f) P in
    record {
      r = grid f num den;
      sized = round_size f s num den t;
      error = either E n den (2 ^ (prec f - 1)) (2 ^ prec f) v (kept_error (prec f) n den P D);
      error_whole = λ z. double E n (2 ^ (prec f - 1)) (2 ^ prec f) v (kept_error_whole (prec f) n den P D z);
      error_normal = λ h. double E (grid f num den * den) (2 ^ (prec f - 1)) (2 ^ prec f) v
          (kept_error_normal (prec f) n den P D (halve (grid f num den) (2 ^ (prec f - 1)) (2 ^ prec f) v h));
      representable = kept_representable (prec f) n den P D;
    }
  where
    either : (E n c v u : ℕ) → 2 * v ≡ u → (E * 2 * v ≤ n) ⊎ (E * 2 ≤ c) → E * 2 * u ≤ n * 2 + c * u
    either E n c v u e (inl h) = let q : E * (2 * v) ≡ E * u = ap (λ (x : ℕ). E * x) e in omega arith
    either E n c v u e (inr h) = let q : E * 2 * u ≤ c * u = mul-le-mul_right u h in omega arith

    double : (E n v u : ℕ) → 2 * v ≡ u → E * 2 * v ≤ n → E * u ≤ n
    double E n v u e h = let q : E * (2 * v) ≡ E * u = ap (λ (x : ℕ). E * x) e in omega arith

    halve : (r v u : ℕ) → 2 * v ≡ u → u ≤ r * 2 → v ≤ r
    halve r v u e h = omega arith
