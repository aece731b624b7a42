-- What the functions below `root` ensure of a root's digits. Definitions only.
use Rattle.std.specs.Prelude.{◌≡◌, ℕ, ◌+◌, ◌*◌, ◌^◌, ◌<◌, ◌≤◌, Float}
use Rattle.std.specs.Float.{binary64}
use Rattle.number.specs.Root.{root_of_units}

-- q, of 53 digits, is the whole number nearest to the root of a * 2 ^ 52: (q - 1/2) ^ 2 < a * 2 ^ 52 < (q + 1/2) ^ 2, with the quarter cut off
pub record NearestRoot (a q : ℕ) : Type 0 where
  pub low : q * q < a * 2 ^ 52 + q
  pub high : a * 2 ^ 52 ≤ q * q + q
  pub least : 2 ^ 52 ≤ q
  pub most : q < 2 ^ 53

-- r is the root of n of the format's smallest values, for the n with n * 2 ^ 1074 = a * 2 ^ 52 * 4 ^ k
abbrev pub ScaledRoot : ℕ → ℕ → Float → Type 0
ScaledRoot a k r = (n : ℕ) → n * 2 ^ 1074 ≡ a * 2 ^ 52 * (2 ^ k * 2 ^ k) → r ≡ root_of_units binary64 n
