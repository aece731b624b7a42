-- Products with 1 and with −1 are exact, and what that says of small powers. Assumes nothing.
use Rattle.std.specs.Prelude.{◌≡◌, refl, Bool, true, false, not, ◌&&◌, cond, ℕ, zero, suc, ◌+◌, ◌-◌, ◌*◌, ◌%◌, ◌^◌, ◌≤◌, ◌<◌, ℤ, pos, negsuc, T, leb, ltb, eqb, Float}
use Rattle.std.proofs.Common.{sym, ap, ◌∙◌, subst₂, mul_assoc, mul_comm, mul_right_comm, mul-pos, mul-one, one-mul, zero-mul, leb→le, ltb→lt, pow-add, pow_pos}
use Rattle.std.proofs.Math.Nat.{eq_of_mul-eq-mul_right}
use Rattle.std.specs.Float.{nan, inf, fin, Format, binary64}
use Rattle.std.specs.Float.Ieee.{prec, emax, low, up, down, unlike, round, mul, neg, fits, to_bits, of_bits}
use Rattle.std.specs.Float.Ieee.Fits.{and_l, and_r, down_pos, neg-fits, mul-fits, round-fits}
use Rattle.std.specs.Float.Ieee.Bits.{of_bits-to_bits}
use Rattle.std.specs.Float.Ieee.Digits.{back}
use Rattle.std.specs.Float.Ieee.Exact.{HasValue, round_exact}
use Rattle.std.specs.Float.Ieee.Nearest.{div_same}
use Rattle.std.specs.Float.Ieee.Scale.{round_same, finite}
use Rattle.number.specs.Float64.{◌⊗◌, one64}
use Rattle.number.specs.Units.{units_of, units_whole, units_under, exponent_le}
use Rattle.number.specs.Power.{power_of, power_turns, times_if_odd, square_unless_zero}

-- ---- a value that its format holds is what it rounds to
-- two values of a format with the same sign and the same size are the same: their bits are
bits_same : (f : Format) (s : Bool) (m n : ℕ) (e d : ℤ) → m * up e * down d ≡ n * up d * down e → to_bits f (fin s m e) ≡ to_bits f (fin s n d)
unfolding to_bits
bits_same f s m n e d h =
    let l = 2 ^ low f in
    let g : m * up e * l * down d ≡ n * up d * l * down e = mul_right_comm (m * up e) l (down d) ∙ ap (λ (x : ℕ). x * l) h ∙ mul_right_comm (n * up d) (down e) l in
    rw (div_same (m * up e * l) (down e) (n * up d * l) (down d) (down_pos e) (down_pos d) g)

value_unique : (f : Format) (x : Float) (s : Bool) (m : ℕ) (e : ℤ) → T (fits f x) → T (fits f (fin s m e)) → HasValue x s (m * up e) (down e) → x ≡ fin s m e
value_unique f nan s m e p q v = absurd v
value_unique f (inf t) s m e p q v = absurd v
value_unique f (fin t n d) s m e p q v =
    sym (of_bits-to_bits f (fin t n d) p)
    ∙ ap (of_bits f) (ap (λ (b : Bool). to_bits f (fin b n d)) v.0 ∙ bits_same f s n m d e v.1)
    ∙ of_bits-to_bits f (fin s m e) q

-- in units of the format's smallest value a size is m times a power of two
scaled : (e : ℤ) (m l : ℕ) → down e ≤ 2 ^ l → (j : ℕ) × (m * up e * 2 ^ l ≡ m * 2 ^ j * down e)
scaled (pos k) m l h = (k + l, mul_assoc m (2 ^ k) (2 ^ l) ∙ ap (λ (x : ℕ). m * x) (sym (pow-add 2 k l)) ∙ sym (mul-one (m * 2 ^ (k + l))))
scaled (negsuc k) m l h = (
  l - suc k,
  ap (λ (x : ℕ). x * 2 ^ l) (mul-one m)
      ∙ ap (λ (x : ℕ). m * x) (ap (λ (x : ℕ). 2 ^ x) (sym (back l (suc k) (exponent_le (suc k) l h))) ∙ pow-add 2 (l - suc k) (suc k))
      ∙ sym (mul_assoc m (2 ^ (l - suc k)) (2 ^ suc k)),
)

digits : (f : Format) (s : Bool) (m : ℕ) (e : ℤ) → T (fits f (fin s m e)) → (m < 2 ^ prec f) × (j : ℕ) × (m * up e * 2 ^ low f ≡ m * 2 ^ j * down e)
unfolding fits
digits f s zero e h =
    let z : (x y : ℕ) → 0 * x * y ≡ 0 = λ x y. ap (λ (i : ℕ). i * y) (zero-mul x) ∙ zero-mul y in
    (pow_pos (prec f), 0, z (up e) (2 ^ low f) ∙ sym (z (2 ^ 0) (down e)))
digits f s (suc m) e h =
    let a : Bool = eqb (suc m % 2) 1 in
    let b : Bool = ltb (suc m) (2 ^ prec f) in
    let c : Bool = leb (down e) (2 ^ low f) in
    let d : Bool = ltb (suc m * up e) (2 ^ suc (emax f) * down e) in
    let k = scaled e (suc m) (low f) (leb→le (down e) (2 ^ low f) (and_r (a && b) c (and_l (a && b && c) d h))) in
    (ltb→lt (suc m) (2 ^ prec f) (and_r a b (and_l (a && b) c (and_l (a && b && c) d h))), k.0, k.1)

pub round_of : (f : Format) (s : Bool) (m : ℕ) (e : ℤ) → T (fits f (fin s m e)) → round f s (m * up e) (down e) ≡ fin s m e
round_of f s m e h =
    let (small, j, g) = digits f s m e h in
    let u : units_of f (fin s m e) ≡ m * 2 ^ j = eq_of_mul-eq-mul_right (down e) (down_pos e) (units_of f (fin s m e)) (m * 2 ^ j) (units_whole f s m e h ∙ g) in
    let p : 2 ^ suc (emax f) * 2 ^ low f ≡ 2 ^ (low f + suc (emax f)) = mul_comm (2 ^ suc (emax f)) (2 ^ low f) ∙ sym (pow-add 2 (low f) (suc (emax f))) in
    value_unique f (round f s (m * up e) (down e)) s m e (round-fits f s (m * up e) (down e)) h
    (round_exact f s (m * up e) (down e) m j (down_pos e) small (subst₂ (λ (x y : ℕ). x < y) u p (units_under f s m e h)) g)

-- ---- products
unlike_comm : (s t : Bool) → unlike s t ≡ unlike t s
unlike_comm true true = refl
unlike_comm true false = refl
unlike_comm false true = refl
unlike_comm false false = refl

pub product_comm : (f : Format) (x y : Float) → mul f x y ≡ mul f y x
unfolding mul
product_comm f nan nan = refl
product_comm f nan (inf t) = refl
product_comm f nan (fin t n d) = refl
product_comm f (inf s) nan = refl
product_comm f (inf s) (inf t) = ap inf (unlike_comm s t)
product_comm f (inf s) (fin t n d) = ap (λ (b : Bool). cond (eqb n 0) nan (inf b)) (unlike_comm s t)
product_comm f (fin s m e) nan = refl
product_comm f (fin s m e) (inf t) = ap (λ (b : Bool). cond (eqb m 0) nan (inf b)) (unlike_comm s t)
product_comm f (fin s m e) (fin t n d) =
    ap (λ (b : Bool). round f b (m * up e * (n * up d)) (down e * down d)) (unlike_comm s t)
    ∙ ap (λ (x : ℕ). round f (unlike t s) x (down e * down d)) (mul_comm (m * up e) (n * up d))
    ∙ ap (λ (x : ℕ). round f (unlike t s) (n * up d * (m * up e)) x) (mul_comm (down e) (down d))

-- 1 or −1
abbrev unit : Bool → Float
unit s = fin s 1 (pos 0)

times_unit : (s t : Bool) (n : ℕ) (d : ℤ) → T (fits binary64 (fin (unlike s t) n d)) → mul binary64 (unit s) (fin t n d) ≡ fin (unlike s t) n d
unfolding mul
times_unit s t n d h =
    ap (λ (x : ℕ). round binary64 (unlike s t) x (1 * down d)) (one-mul (n * up d))
    ∙ ap (λ (x : ℕ). round binary64 (unlike s t) (n * up d) x) (one-mul (down d))
    ∙ round_of binary64 (unlike s t) n d h

pub one_times : (y : Float) → T (fits binary64 y) → one64 ⊗ y ≡ y
unfolding mul of_bits
one_times nan h = refl
one_times (inf true) h = refl
one_times (inf false) h = refl
one_times (fin true n d) h = times_unit false true n d h
one_times (fin false n d) h = times_unit false false n d h

pub times_one : (y : Float) → T (fits binary64 y) → y ⊗ one64 ≡ y
times_one y h = product_comm binary64 y one64 ∙ one_times y h

minus_one_times : (y : Float) → T (fits binary64 y) → unit true ⊗ y ≡ neg y
unfolding mul neg
minus_one_times nan h = refl
minus_one_times (inf true) h = refl
minus_one_times (inf false) h = refl
minus_one_times (fin true n d) h = times_unit true true n d (neg-fits binary64 (fin true n d) h)
minus_one_times (fin false n d) h = times_unit true false n d (neg-fits binary64 (fin false n d) h)

pub times_minus_one : (y : Float) → T (fits binary64 y) → y ⊗ neg one64 ≡ neg y
unfolding neg of_bits
times_minus_one y h = product_comm binary64 y (unit true) ∙ minus_one_times y h

-- 0 rounds to a zero
pub round_zero : (s : Bool) (x c : ℕ) → x ≡ 0 → 0 < c → round binary64 s x c ≡ fin s 0 (pos 0)
unfolding round
round_zero s x c e h = round_same binary64 s x c 0 1 h (pow_pos 0) (ap (λ (i : ℕ). i * 1) e ∙ sym (zero-mul c))

-- a zero times a number: a zero where the number is finite, and NaN where it is not
pub zero_times : (s : Bool) (y : Float) → T (finite y) → (t : Bool) × (fin s 0 (pos 0) ⊗ y ≡ fin t 0 (pos 0))
unfolding mul
zero_times s nan h = absurd h
zero_times s (inf t) h = absurd h
zero_times s (fin t n d) h = (unlike s t, round_zero (unlike s t) (0 * 1 * (n * up d)) (1 * down d) (zero-mul (n * up d)) (mul-pos (pow_pos 0) (down_pos d)))

pub zero_times_nan : (s : Bool) (y : Float) → T (not (finite y)) → fin s 0 (pos 0) ⊗ y ≡ nan
unfolding mul
zero_times_nan s nan h = refl
zero_times_nan s (inf t) h = refl
zero_times_nan s (fin t n d) h = absurd h

-- ---- small powers
pub power_0 : (x : Float) → power_of x 0 ≡ one64
unfolding power_of power_turns
power_0 x = refl

pub power_1 : (x : Float) → T (fits binary64 x) → power_of x 1 ≡ x
unfolding power_of power_turns times_if_odd
power_1 x h = one_times x h

pub power_2 : (x : Float) → power_of x 2 ≡ x ⊗ x
unfolding power_of power_turns times_if_odd square_unless_zero
power_2 x = one_times (x ⊗ x) (mul-fits binary64 x x)
