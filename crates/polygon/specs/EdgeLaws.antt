-- The vertex after another. Assumes nothing.
use Rattle.std.specs.Prelude.{◌≡◌, ℕ, ◌+◌}
use Rattle.std.proofs.Common.{eq-eqb, ne_eqb}
use Rattle.polygon.specs.Outline.{following}

pub following_first : (v i : ℕ) → i + 1 ≡ v → 0 ≡ following v i
unfolding following
following_first v i e = simp (eq-eqb (i + 1) v e)

pub following_next : (v i : ℕ) → (i + 1 ≡ v → ⊥) → i + 1 ≡ following v i
unfolding following
following_next v i e = simp (ne_eqb (i + 1) v e)
