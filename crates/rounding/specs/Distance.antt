-- The distance |a - b| of two natural numbers. Assumes nothing.
use Rattle.std.specs.Prelude.{◌≡◌, ℕ, ◌+◌, ◌-◌, ◌*◌, ◌≤◌}
use Rattle.std.proofs.Common.{sym, ap, ◌∙◌, inl, inr, le_trans, mul-le-mul_right, add-mul, eq-zero-or-pos, arith}

-- |a - b|
abbrev pub dist : ℕ → ℕ → ℕ
dist a b = (a - b) + (b - a)

-- the two inequalities that make a distance, and back
pub dist_le : (a b e : ℕ) → a ≤ b + e → b ≤ a + e → dist a b ≤ e
dist_le a b e h k = omega arith

pub dist-left : (a b : ℕ) → a ≤ b + dist a b
dist-left a b = omega arith

pub dist_right : (a b : ℕ) → b ≤ a + dist a b
dist_right a b = omega arith

-- a bound on a multiple of e bounds that multiple of the distance
pub dist_times_le : (a b e u M : ℕ) → a ≤ b + e → b ≤ a + e → e * u ≤ M → dist a b * u ≤ M
dist_times_le a b e u M h k l = le_trans (mul-le-mul_right u (dist_le a b e h k)) l

-- a distance of 0
pub dist_equal : (a b : ℕ) → a ≡ b → dist a b ≡ 0
dist_equal a b h = omega arith

pub equal_of_dist : (a b : ℕ) → dist a b ≡ 0 → a ≡ b
equal_of_dist a b h = omega arith

dist-rising : (a b d : ℕ) → a + d ≡ b → dist a b ≡ d
dist-rising a b d e = omega arith

dist-falling : (a b d : ℕ) → b + d ≡ a → dist a b ≡ d
dist-falling a b d e = omega arith

-- a common factor comes out
pub dist-mul : (a b c : ℕ) → dist (a * c) (b * c) ≡ dist a b * c
dist-mul a b c =
    elim (eq-zero-or-pos (a - b)) [
      | inl e ↦ rising (b - a) (omega (arith, e))
      | inr l ↦ falling (a - b) (omega (arith, l))
    ]
  where
    rising : (d : ℕ) → a + d ≡ b → dist (a * c) (b * c) ≡ dist a b * c
    rising d e =
        dist-rising (a * c) (b * c) (d * c) (sym (add-mul a d c) ∙ ap (λ (z : ℕ). z * c) e)
        ∙ ap (λ (z : ℕ). z * c) (sym (dist-rising a b d e))

    falling : (d : ℕ) → b + d ≡ a → dist (a * c) (b * c) ≡ dist a b * c
    falling d e =
        dist-falling (a * c) (b * c) (d * c) (sym (add-mul b d c) ∙ ap (λ (z : ℕ). z * c) e)
        ∙ ap (λ (z : ℕ). z * c) (sym (dist-falling a b d e))
