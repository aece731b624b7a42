-- A finite double as a whole number of units, a unit being the smallest positive double, 2^−1074. Assumes nothing.
use Rattle.std.specs.Prelude.{◌≡◌, Bool, ◌&&◌, ℕ, zero, suc, ◌+◌, ◌-◌, ◌*◌, ◌/◌, ◌%◌, ◌^◌, ◌≤◌, ◌<◌, ℤ, pos, negsuc, T, leb, ltb, eqb, Float}
use Rattle.std.proofs.Common.{sym, ap, ◌∙◌, le_of_eq, lt_of_le_of_lt, lt_of_lt_of_le, mul-pos, mul-lt-mul_of_pos_right, lt_of_mul-lt-mul_right, lt_of_not-le, not-le_of_lt, le_of_suc-le-suc, mul_assoc, mul-div_cancel, mul-one, div-one, zero-mul, sub-add_cancel, arith, leb→le, ltb→lt, pow-add, pow_pos}
use Rattle.std.proofs.Math.Nat.{zero-div}
use Rattle.std.proofs.Math.Pow.{pow-lt}
use Rattle.std.specs.Float.{nan, inf, fin, Format}
use Rattle.std.specs.Float.Ieee.{prec, emax, low, up, down, fits}
use Rattle.std.specs.Float.Ieee.Fits.{and_l, and_r}

-- the size of x in units of its format's smallest value, 2^−low; 0 for what is not finite
unfoldable pub units_of : Format → Float → ℕ
units_of f nan = 0
units_of f (inf s) = 0
units_of f (fin s m e) = m * up e * 2 ^ low f / down e

pub exponent_le : (k l : ℕ) → 2 ^ k ≤ 2 ^ l → k ≤ l
exponent_le k l h = le_of_suc-le-suc (lt_of_not-le (λ (g : suc l ≤ k). not-le_of_lt (pow-lt g) h))

whole_down : (e : ℤ) (x l : ℕ) → down e ≤ 2 ^ l → x * 2 ^ l / down e * down e ≡ x * 2 ^ l
whole_down (pos k) x l h = mul-one (x * 2 ^ l / 1) ∙ div-one (x * 2 ^ l)
whole_down (negsuc k) x l h =
    let p : 2 ^ l ≡ 2 ^ (l - suc k) * 2 ^ suc k = ap (λ (z : ℕ). 2 ^ z) (sym (sub-add_cancel (exponent_le (suc k) l h))) ∙ pow-add 2 (l - suc k) (suc k) in
    let q : x * 2 ^ l ≡ x * 2 ^ (l - suc k) * 2 ^ suc k = ap (λ (z : ℕ). x * z) p ∙ sym (mul_assoc x (2 ^ (l - suc k)) (2 ^ suc k)) in
    ap (λ (z : ℕ). z / 2 ^ suc k * 2 ^ suc k) q
    ∙ ap (λ (z : ℕ). z * 2 ^ suc k) (mul-div_cancel (x * 2 ^ (l - suc k)) (pow_pos (suc k)))
    ∙ sym q

-- a value that its format holds is a whole number of units
pub units_whole : (f : Format) (s : Bool) (m : ℕ) (e : ℤ) → T (fits f (fin s m e)) → units_of f (fin s m e) * down e ≡ m * up e * 2 ^ low f
unfolding units_of fits
units_whole f s zero e h =
    let z : 0 * up e * 2 ^ low f ≡ 0 = ap (λ (x : ℕ). x * 2 ^ low f) (zero-mul (up e)) ∙ zero-mul (2 ^ low f) in
    ap (λ (x : ℕ). x / down e * down e) z ∙ ap (λ (x : ℕ). x * down e) (zero-div (down e)) ∙ zero-mul (down e) ∙ sym z
units_whole f s (suc m) e h =
    let a : Bool = eqb (suc m % 2) 1 in
    let b : Bool = ltb (suc m) (2 ^ prec f) in
    let c : Bool = leb (down e) (2 ^ low f) in
    let d : Bool = ltb (suc m * up e) (2 ^ suc (emax f) * down e) in
    whole_down e (suc m * up e) (low f) (leb→le (down e) (2 ^ low f) (and_r (a && b) c (and_l (a && b && c) d h)))

-- ---- how many units a value can have
bound : (U m d L E : ℕ) → U * d ≡ m * L → m < E * d → 0 < L → U < E * L
bound U m d L E e h l =
    lt_of_mul-lt-mul_right d (lt_of_le_of_lt (le_of_eq e) (lt_of_lt_of_le (mul-lt-mul_of_pos_right h l) (le_of_eq (swap E d L))))
  where
    swap : (E d L : ℕ) → E * d * L ≡ E * L * d
    swap E d L = omega arith

-- a value of the format is below 2^(emax + 1)
pub units_under : (f : Format) (s : Bool) (m : ℕ) (e : ℤ) → T (fits f (fin s m e)) → units_of f (fin s m e) < 2 ^ suc (emax f) * 2 ^ low f
unfolding units_of fits
units_under f s zero e h =
    let z : 0 * up e * 2 ^ low f ≡ 0 = ap (λ (x : ℕ). x * 2 ^ low f) (zero-mul (up e)) ∙ zero-mul (2 ^ low f) in
    lt_of_le_of_lt (le_of_eq (ap (λ (x : ℕ). x / down e) z ∙ zero-div (down e))) (mul-pos (pow_pos (suc (emax f))) (pow_pos (low f)))
units_under f s (suc m) e h =
    let a : Bool = eqb (suc m % 2) 1 in
    let b : Bool = ltb (suc m) (2 ^ prec f) in
    let c : Bool = leb (down e) (2 ^ low f) in
    let d : Bool = ltb (suc m * up e) (2 ^ suc (emax f) * down e) in
    bound (suc m * up e * 2 ^ low f / down e) (suc m * up e) (down e) (2 ^ low f) (2 ^ suc (emax f)) (units_whole f s (suc m) e h)
    (ltb→lt (suc m * up e) (2 ^ suc (emax f) * down e) (and_r (a && b && c) d h)) (pow_pos (low f))
