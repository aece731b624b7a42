-- Operations on numbers whose signs are turned: a product turns where just one factor does, a sum or a difference where both terms do. Assumes nothing.
use Rattle.std.specs.Prelude.{◌≡◌, refl, Bool, true, false, not, ◌&&◌, cond, ℕ, zero, suc, ◌+◌, ◌-◌, ◌*◌, ◌^◌, ◌≤◌, ◌<◌, pos, T, ltb, eqb, Float}
use Rattle.std.proofs.Common.{sym, ap, subst, subst₂, zero-mul, mul-zero, mul-pos, arith, nltb→le, lt-ltb, le-ltb, pow_pos}
use Rattle.std.specs.Bool.{beq}
use Rattle.std.specs.Float.{nan, inf, fin, Format, binary64}
use Rattle.std.specs.Float.Ieee.{prec, emax, low, unlike, up, down, odd, units, round, neg, sum, add, sub, mul, of_bits}
use Rattle.std.specs.Float.Ieee.Fits.{down_pos}
use Rattle.number.specs.Float64.{◌⊕◌, ◌⊖◌, ◌⊗◌, zero64}
use Rattle.number.specs.Identities.{round_zero}
use Rattle.number.specs.Turned.{Turned, nans, infinities, zeros, numbers}

pub turned_same : (x : Float) → Turned false x x
turned_same nan = nans
turned_same (inf true) = infinities true
turned_same (inf false) = infinities false
turned_same (fin true m e) = numbers true m e
turned_same (fin false m e) = numbers false m e

pub turned_neg : (x : Float) → Turned true x (neg x)
unfolding neg
turned_neg nan = nans
turned_neg (inf true) = infinities true
turned_neg (inf false) = infinities false
turned_neg (fin true m e) = numbers true m e
turned_neg (fin false m e) = numbers false m e

-- ---- rounding
odd_turned : (s t : Bool) (d q k l : ℕ) → Turned s (odd d t q k l) (odd d (unlike s t) q k l)
unfolding odd
odd_turned s t d zero k l = zeros t (unlike s t)
odd_turned s t d (suc q) k l = numbers t _ _

units_turned : (f : Format) (s t : Bool) (q k : ℕ) → Turned s (units f t q k) (units f (unlike s t) q k)
unfolding units
units_turned f s t q k = go (ltb (q * 2 ^ k) (2 ^ (low f + suc (emax f))))
  where
    go : (b : Bool) → Turned s (cond b (odd (suc (prec f)) t q k (low f)) (inf t)) (cond b (odd (suc (prec f)) (unlike s t) q k (low f)) (inf (unlike s t)))
    go true = odd_turned s t (suc (prec f)) q k (low f)
    go false = infinities t

pub round_turned : (f : Format) (s t : Bool) (num den : ℕ) → Turned s (round f t num den) (round f (unlike s t) num den)
unfolding round
round_turned f s t num den = units_turned f s t _ _

zeros_of : {s : Bool} {x y : Float} (t t' : Bool) → x ≡ fin t 0 (pos 0) → y ≡ fin t' 0 (pos 0) → Turned s x y
zeros_of {s} t t' e e' = subst₂ (λ (a b : Float). Turned s a b) (sym e) (sym e') (zeros t t')

-- ---- products
exchange : (s t s' t' : Bool) → unlike (unlike s t) (unlike s' t') ≡ unlike (unlike s s') (unlike t t')
exchange true true true true = refl
exchange true true true false = refl
exchange true true false true = refl
exchange true true false false = refl
exchange true false true true = refl
exchange true false true false = refl
exchange true false false true = refl
exchange true false false false = refl
exchange false true true true = refl
exchange false true true false = refl
exchange false true false true = refl
exchange false true false false = refl
exchange false false true true = refl
exchange false false true false = refl
exchange false false false true = refl
exchange false false false false = refl

infinite_turned : (s t : Bool) (z : Bool) → Turned s (cond z nan (inf t)) (cond z nan (inf (unlike s t)))
infinite_turned s t true = nans
infinite_turned s t false = infinities t

pub turned_mul : {s s' : Bool} {x y x' y' : Float} → Turned s x y → Turned s' x' y' → Turned (unlike s s') (x ⊗ x') (y ⊗ y')
unfolding mul
turned_mul nans b = nans
turned_mul (infinities t) nans = nans
turned_mul {s} {s'} (infinities t) (infinities t') = subst (λ (z : Bool). Turned (unlike s s') (inf (unlike t t')) (inf z)) (sym (exchange s t s' t')) (infinities (unlike t t'))
turned_mul (infinities t) (zeros a b) = nans
turned_mul {s} {s'} (infinities t) (numbers t' n d) =
    subst (λ (z : Bool). Turned (unlike s s') (cond (eqb n 0) nan (inf (unlike t t'))) (cond (eqb n 0) nan (inf z))) (sym (exchange s t s' t'))
    (infinite_turned (unlike s s') (unlike t t') (eqb n 0))
turned_mul (zeros a b) nans = nans
turned_mul (zeros a b) (infinities t) = nans
turned_mul (zeros a b) (zeros c d) = zeros_of _ _ (round_zero (unlike a c) (0 * 1 * (0 * 1)) (1 * 1) refl (omega arith)) (round_zero (unlike b d) (0 * 1 * (0 * 1)) (1 * 1) refl (omega arith))
turned_mul {s} {s'} (zeros a b) (numbers t n d) =
    zeros_of _ _ (round_zero (unlike a t) (0 * 1 * (n * up d)) (1 * down d) (zero-mul (n * up d)) (mul-pos (pow_pos 0) (down_pos d)))
    (round_zero (unlike b (unlike s' t)) (0 * 1 * (n * up d)) (1 * down d) (zero-mul (n * up d)) (mul-pos (pow_pos 0) (down_pos d)))
turned_mul (numbers t m e) nans = nans
turned_mul {s} {s'} (numbers t m e) (infinities t') =
    subst (λ (z : Bool). Turned (unlike s s') (cond (eqb m 0) nan (inf (unlike t t'))) (cond (eqb m 0) nan (inf z))) (sym (exchange s t s' t'))
    (infinite_turned (unlike s s') (unlike t t') (eqb m 0))
turned_mul {s} {s'} (numbers t m e) (zeros a b) =
    zeros_of _ _ (round_zero (unlike t a) (m * up e * (0 * 1)) (down e * 1) (mul-zero (m * up e)) (mul-pos (down_pos e) (pow_pos 0)))
    (round_zero (unlike (unlike s t) b) (m * up e * (0 * 1)) (down e * 1) (mul-zero (m * up e)) (mul-pos (down_pos e) (pow_pos 0)))
turned_mul {s} {s'} (numbers t m e) (numbers t' n d) =
    subst (λ (z : Bool). Turned (unlike s s') (round binary64 (unlike t t') (m * up e * (n * up d)) (down e * down d)) (round binary64 z (m * up e * (n * up d)) (down e * down d)))
    (sym (exchange s t s' t')) (round_turned binary64 (unlike s s') (unlike t t') (m * up e * (n * up d)) (down e * down d))

-- ---- sums
-- 0 + x / c is x / c rounded; where x is 0 too it is a zero
none_left : (a t : Bool) (x c : ℕ) → 0 < x → sum binary64 a 0 t x c ≡ round binary64 t x c
unfolding sum
none_left true true x c h = ap (λ (z : ℕ). round binary64 true z c) (omega arith)
none_left false false x c h = ap (λ (z : ℕ). round binary64 false z c) (omega arith)
none_left true false x c h = rw (lt-ltb 0 x h) (ap (λ (z : ℕ). round binary64 false z c) (omega arith))
none_left false true x c h = rw (lt-ltb 0 x h) (ap (λ (z : ℕ). round binary64 true z c) (omega arith))

none_right : (a t : Bool) (x c : ℕ) → 0 < x → sum binary64 t x a 0 c ≡ round binary64 t x c
unfolding sum
none_right true true x c h = ap (λ (z : ℕ). round binary64 true z c) (omega arith)
none_right false false x c h = ap (λ (z : ℕ). round binary64 false z c) (omega arith)
none_right true false x c h = rw (le-ltb x 0 (omega arith)) (ap (λ (z : ℕ). round binary64 false z c) (omega arith))
none_right false true x c h = rw (le-ltb x 0 (omega arith), lt-ltb 0 x h) (ap (λ (z : ℕ). round binary64 true z c) (omega arith))

none_both : (a t : Bool) (c : ℕ) → 0 < c → (u : Bool) × (sum binary64 a 0 t 0 c ≡ fin u 0 (pos 0))
unfolding sum
none_both true true c h = (true, round_zero true (0 + 0) c refl h)
none_both false false c h = (false, round_zero false (0 + 0) c refl h)
none_both true false c h = (false, round_zero false (0 - 0) c refl h)
none_both false true c h = (false, round_zero false (0 - 0) c refl h)

left_turned : (s a b t : Bool) (x c : ℕ) → 0 < c → Turned s (sum binary64 a 0 t x c) (sum binary64 b 0 (unlike s t) x c)
left_turned s a b t zero c h = let (u, e) = none_both a t c h in let (w, g) = none_both b (unlike s t) c h in zeros_of u w e g
left_turned s a b t (suc x) c h =
    subst₂ (λ (y z : Float). Turned s y z) (sym (none_left a t (suc x) c (omega arith))) (sym (none_left b (unlike s t) (suc x) c (omega arith)))
    (round_turned binary64 s t (suc x) c)

right_turned : (s a b t : Bool) (x c : ℕ) → 0 < c → Turned s (sum binary64 t x a 0 c) (sum binary64 (unlike s t) x b 0 c)
right_turned s a b t zero c h = let (u, e) = none_both t a c h in let (w, g) = none_both (unlike s t) b c h in zeros_of u w e g
right_turned s a b t (suc x) c h =
    subst₂ (λ (y z : Float). Turned s y z) (sym (none_right a t (suc x) c (omega arith))) (sym (none_right b (unlike s t) (suc x) c (omega arith)))
    (round_turned binary64 s t (suc x) c)

-- two numbers whose signs turn together
sum_turned : (s t t' : Bool) (a b c : ℕ) → 0 < c → Turned s (sum binary64 t a t' b c) (sum binary64 (unlike s t) a (unlike s t') b c)
unfolding sum
sum_turned false true true a b c h = turned_same _
sum_turned false true false a b c h = turned_same _
sum_turned false false true a b c h = turned_same _
sum_turned false false false a b c h = turned_same _
sum_turned true true true a b c h = round_turned binary64 true true (a + b) c
sum_turned true false false a b c h = round_turned binary64 true false (a + b) c
sum_turned true true false a b c h = go (ltb a b) (ltb b a) (nltb→le a b) (nltb→le b a)
  where
    go : (v w : Bool) → (T (not v) → b ≤ a) → (T (not w) → a ≤ b)
        → Turned true (cond v (round binary64 false (b - a) c) (round binary64 (true && w) (a - b) c))
        (cond v (round binary64 true (b - a) c) (round binary64 (false && w) (a - b) c))
    go true w p q = round_turned binary64 true false (b - a) c
    go false true p q = round_turned binary64 true true (a - b) c
    go false false p q = let e : a - b ≡ 0 = omega (arith, p tt, q tt) in zeros_of false false (round_zero false (a - b) c e h) (round_zero false (a - b) c e h)
sum_turned true false true a b c h = go (ltb a b) (ltb b a) (nltb→le a b) (nltb→le b a)
  where
    go : (v w : Bool) → (T (not v) → b ≤ a) → (T (not w) → a ≤ b)
        → Turned true (cond v (round binary64 true (b - a) c) (round binary64 (false && w) (a - b) c))
        (cond v (round binary64 false (b - a) c) (round binary64 (true && w) (a - b) c))
    go true w p q = round_turned binary64 true true (b - a) c
    go false true p q = round_turned binary64 true false (a - b) c
    go false false p q = let e : a - b ≡ 0 = omega (arith, p tt, q tt) in zeros_of false false (round_zero false (a - b) c e h) (round_zero false (a - b) c e h)

infinite_sum : (s t t' : Bool) → Turned s (cond (beq t t') (inf t) nan) (cond (beq (unlike s t) (unlike s t')) (inf (unlike s t)) nan)
infinite_sum true true true = infinities true
infinite_sum true true false = nans
infinite_sum true false true = nans
infinite_sum true false false = infinities false
infinite_sum false true true = infinities true
infinite_sum false true false = nans
infinite_sum false false true = nans
infinite_sum false false false = infinities false

pub turned_add : {s : Bool} {x y x' y' : Float} → Turned s x y → Turned s x' y' → Turned s (x ⊕ x') (y ⊕ y')
unfolding add
turned_add nans b = nans
turned_add (infinities t) nans = nans
turned_add {s} (infinities t) (infinities t') = infinite_sum s t t'
turned_add (infinities t) (zeros a b) = infinities t
turned_add (infinities t) (numbers t' n d) = infinities t
turned_add (zeros a b) nans = nans
turned_add (zeros a b) (infinities t) = infinities t
turned_add {s} (zeros a b) (zeros c d) = let (u, e) = none_both a c 1 (omega arith) in let (w, g) = none_both b d 1 (omega arith) in zeros_of u w e g
turned_add {s} (zeros a b) (numbers t n d) =
    subst (λ (z : ℕ). Turned s (sum binary64 a z t (n * up d * 1) (1 * down d)) (sum binary64 b z (unlike s t) (n * up d * 1) (1 * down d))) (sym (zero-mul (down d)))
    (left_turned s a b t (n * up d * 1) (1 * down d) (mul-pos (pow_pos 0) (down_pos d)))
turned_add (numbers t m e) nans = nans
turned_add (numbers t m e) (infinities t') = infinities t'
turned_add {s} (numbers t m e) (zeros a b) =
    subst (λ (z : ℕ). Turned s (sum binary64 t (m * up e * 1) a z (down e * 1)) (sum binary64 (unlike s t) (m * up e * 1) b z (down e * 1))) (sym (zero-mul (down e)))
    (right_turned s a b t (m * up e * 1) (down e * 1) (mul-pos (down_pos e) (pow_pos 0)))
turned_add {s} (numbers t m e) (numbers t' n d) = sum_turned s t t' (m * up e * down d) (n * up d * down e) (down e * down d) (mul-pos (down_pos e) (down_pos d))

not_unlike : (s t : Bool) → unlike s (not t) ≡ not (unlike s t)
not_unlike true true = refl
not_unlike true false = refl
not_unlike false true = refl
not_unlike false false = refl

turned_both : {s : Bool} {x y : Float} → Turned s x y → Turned s (neg x) (neg y)
unfolding neg
turned_both nans = nans
turned_both {s} (infinities t) = subst (λ (z : Bool). Turned s (inf (not t)) (inf z)) (not_unlike s t) (infinities (not t))
turned_both (zeros a b) = zeros (not a) (not b)
turned_both {s} (numbers t m e) = subst (λ (z : Bool). Turned s (fin (not t) m e) (fin z m e)) (not_unlike s t) (numbers (not t) m e)

pub turned_sub : {s : Bool} {x y x' y' : Float} → Turned s x y → Turned s x' y' → Turned s (x ⊖ x') (y ⊖ y')
unfolding sub
turned_sub a b = turned_add a (turned_both b)

-- ---- a factor that stays, and +0
pub turned_right : (s : Bool) {x y : Float} (f : Float) → Turned s x y → Turned s (x ⊗ f) (y ⊗ f)
turned_right true f h = turned_mul h (turned_same f)
turned_right false f h = turned_mul h (turned_same f)

pub turned_left : (s : Bool) {x y : Float} (f : Float) → Turned s x y → Turned s (f ⊗ x) (f ⊗ y)
turned_left true f h = turned_mul (turned_same f) h
turned_left false f h = turned_mul (turned_same f) h

pub turned_zero : (s : Bool) → Turned s zero64 zero64
unfolding of_bits
turned_zero s = zeros false false
