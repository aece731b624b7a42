-- The sign of a number, its magnitude and its signum, as Rust's `is_sign_negative`, `abs` and `signum`. Assumes nothing.
use Rattle.std.specs.Prelude.{◌≡◌, Bool, true, false, Float}
use Rattle.std.proofs.Common.{sym, ap, ◌∙◌, true≢false}
use Rattle.std.specs.Float.{nan, inf, fin}
use Rattle.std.specs.Float.Ieee.{neg, is_nan}
use Rattle.number.specs.Float64.{one64}

-- the sign bit is set; a NaN has no sign here
unfoldable pub negative : Float → Bool
negative nan = false
negative (inf s) = s
negative (fin s m e) = s

unfoldable pub is_infinite : Float → Bool
is_infinite nan = false
is_infinite (inf s) = true
is_infinite (fin s m e) = false

-- |x|: −0 becomes +0, and NaN stays NaN
unfoldable pub magnitude_of : Float → Float
magnitude_of nan = nan
magnitude_of (inf s) = inf false
magnitude_of (fin s m e) = fin false m e

-- 1 or −1
abbrev pub unit_of : Bool → Float
unit_of true = neg one64
unit_of false = one64

-- 1 or −1 by the sign bit, zeros too, and NaN for NaN
unfoldable pub signum_of : Float → Float
signum_of nan = nan
signum_of (inf s) = unit_of s
signum_of (fin s m e) = unit_of s

-- ---- laws
pub negative_nan : (x : Float) → x ≡ nan → false ≡ negative x
unfolding negative
negative_nan x e = sym (ap negative e)

pub signum_nan : (x : Float) → x ≡ nan → x ≡ signum_of x
unfolding signum_of
signum_nan x e = e ∙ sym (ap signum_of e)

pub signum_is : (x : Float) → is_nan x ≡ false → (s : Bool) → negative x ≡ s → unit_of s ≡ signum_of x
unfolding is_nan negative signum_of
signum_is nan h s e = absurd (true≢false h)
signum_is (inf t) h s e = ap unit_of (sym e)
signum_is (fin t m d) h s e = ap unit_of (sym e)
