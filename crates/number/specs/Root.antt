-- The square root of IEEE 754, correctly rounded: to the nearest value of the format, and at a tie to the one whose last digit is even.
-- Stated over whole numbers, by comparing squares. Definitions only.
use Prim.Native.Nat.{ℕ, zero, suc, ◌+◌, ◌-◌, ◌*◌, ◌/◌, ◌^◌, compare}
use Rattle.std.specs.Prelude.{false, cond, leb, Float}
use Rattle.std.specs.Float.{nan, inf, fin, Format, binary64}
use Rattle.std.specs.Float.Ieee.{prec, low, up, down, size, nearest, units}

-- s, or one more where the square of that is still at most n
unfoldable pub or_next : ℕ → ℕ → ℕ
or_next n s = cond (leb (suc s * suc s) n) (suc s) s

-- The whole-number square root of an n below 4 ^ k, the s with s * s ≤ n < (s + 1) * (s + 1): twice the root of n / 4, or one more.
unfoldable pub floor_root : ℕ → ℕ → ℕ
unfolding or_next
floor_root zero n = 0
floor_root (suc k) n = or_next n (2 * floor_root k (n / 4))

-- The root of a number above zero that is n of the format's smallest values, so n * 2 ^ -low. In those values it is √N, where N = n * 2 ^ low.
-- Of √N's whole part s the format keeps the `prec` leading digits, q, and drops k.
-- So the result is q * 2 ^ k of them, or the next multiple of 2 ^ k up, by how √N compares with (q + 1/2) * 2 ^ k: here both are doubled, and then squared.
unfoldable pub root_of_units : Format → ℕ → Float
unfolding floor_root size units
root_of_units f n =
    let N = n * 2 ^ low f in
    let s = floor_root (size N) N in
    let k = size s - prec f in
    let q = s / 2 ^ k in
    let t = (2 * q + 1) * 2 ^ k in
    units f false (nearest q (compare (4 * N) (t * t))) k

-- `nan` and what is below zero have no root. The root of a zero is that zero, with its sign.
unfoldable pub square_root : Format → Float → Float
unfolding root_of_units
square_root f nan = nan
square_root f (inf s) = cond s nan (inf false)
square_root f (fin s zero e) = fin s zero e
square_root f (fin s (suc m) e) = cond s nan (root_of_units f (suc m * up e * 2 ^ low f / down e))

-- of a double
abbrev pub root_of : Float → Float
root_of x = square_root binary64 x
