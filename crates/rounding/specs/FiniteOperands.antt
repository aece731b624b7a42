-- A finite sum, product or quotient has finite operands (a quotient, a finite dividend): what has overflowed stays so. Negation keeps finite. Assumes nothing.
use Rattle.std.specs.Prelude.{Bool, true, false, cond, T, eqb, Float}
use Rattle.std.specs.Float.{nan, inf, fin, Format}
use Rattle.std.specs.Float.Ieee.{unlike, neg, add, mul, div}
use Rattle.std.specs.Float.Ieee.Scale.{finite}

pub neg_finite : (x : Float) → T (finite x) → T (finite (neg x))
unfolding neg
neg_finite nan k = k
neg_finite (inf s) k = k
neg_finite (fin s m e) k = k

pub add_finite_left : (f : Format) (x y : Float) → T (finite (add f x y)) → T (finite x)
unfolding add
add_finite_left f nan y k = k
add_finite_left f (inf s) nan k = k
add_finite_left f (inf true) (inf true) k = k
add_finite_left f (inf true) (inf false) k = k
add_finite_left f (inf false) (inf true) k = k
add_finite_left f (inf false) (inf false) k = k
add_finite_left f (inf s) (fin t n d) k = k
add_finite_left f (fin s m e) y k = tt

pub add_finite_right : (f : Format) (x y : Float) → T (finite (add f x y)) → T (finite y)
unfolding add
add_finite_right f nan y k = absurd k
add_finite_right f (inf s) nan k = k
add_finite_right f (inf true) (inf true) k = k
add_finite_right f (inf true) (inf false) k = k
add_finite_right f (inf false) (inf true) k = k
add_finite_right f (inf false) (inf false) k = k
add_finite_right f (inf s) (fin t n d) k = tt
add_finite_right f (fin s m e) nan k = k
add_finite_right f (fin s m e) (inf t) k = k
add_finite_right f (fin s m e) (fin t n d) k = tt

-- infinity times zero is NaN, and neither NaN nor infinity is finite
pub not_finite : (b : Bool) (s : Bool) → T (finite (cond b nan (inf s))) → ⊥
not_finite true s k = k
not_finite false s k = k

pub mul_finite_left : (f : Format) (x y : Float) → T (finite (mul f x y)) → T (finite x)
unfolding mul
mul_finite_left f nan y k = k
mul_finite_left f (inf s) nan k = k
mul_finite_left f (inf s) (inf t) k = k
mul_finite_left f (inf s) (fin t n d) k = not_finite (eqb n 0) (unlike s t) k
mul_finite_left f (fin s m e) y k = tt

pub mul_finite_right : (f : Format) (x y : Float) → T (finite (mul f x y)) → T (finite y)
unfolding mul
mul_finite_right f nan y k = absurd k
mul_finite_right f (inf s) nan k = k
mul_finite_right f (inf s) (inf t) k = k
mul_finite_right f (inf s) (fin t n d) k = tt
mul_finite_right f (fin s m e) nan k = k
mul_finite_right f (fin s m e) (inf t) k = not_finite (eqb m 0) (unlike s t) k
mul_finite_right f (fin s m e) (fin t n d) k = tt

pub div_finite_left : (f : Format) (x y : Float) → T (finite (div f x y)) → T (finite x)
unfolding div
div_finite_left f nan y k = k
div_finite_left f (inf s) nan k = k
div_finite_left f (inf s) (inf t) k = k
div_finite_left f (inf s) (fin t n d) k = k
div_finite_left f (fin s m e) y k = tt
