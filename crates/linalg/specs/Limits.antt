-- What the count of a solver tells, and how large it can be. Assumes nothing.
use Rattle.std.specs.Prelude.{◌≡◌, refl, Bool, List, ℕ, ◌*◌, ◌≤◌, Float, ltb}
use Rattle.std.proofs.Math.Bool.{true, false}
use Rattle.std.proofs.Common.{arith}
use Rattle.ql.specs.RoundCounts.{CountedBelow, counted_rounds}
use Rattle.jacobi.specs.SweepCounts.{sweeps_most}
use Rattle.linalg.specs.Eigen.{householder_ql, householder_rounds, householder_settled, householder_convergence}
use Rattle.linalg.specs.Eigen.{jacobi_convergence, eigen_convergence, eigen_limit}

-- ---- reduction and iteration: a count of 100n or less, of 99n or less where it settled, of at least 100 where it did not
module _ (n : ℕ) (a : List Float) where
  rounds_counted : CountedBelow n (householder_ql n a)
  unfolding householder_ql
  rounds_counted = counted_rounds n _

  pub householder_most : householder_rounds n a ≤ 100 * n
  unfolding householder_rounds
  householder_most = rounds_counted.most

  pub householder_settled_early : householder_settled n a ≡ true → householder_rounds n a ≤ 99 * n
  unfolding householder_rounds householder_settled
  householder_settled_early h = rounds_counted.early h

  pub householder_unsettled : householder_settled n a ≡ false → 100 ≤ householder_rounds n a
  unfolding householder_rounds householder_settled
  householder_unsettled h = rounds_counted.full h

  pub householder_count_limit : (householder_convergence n a).count ≤ 100 * n
  unfolding householder_convergence
  householder_count_limit = householder_most

  -- ---- by the method that the size asks for
  limit_by : (b : Bool) → ltb 32 n ≡ b → (eigen_convergence n a).count ≤ eigen_limit n
  unfolding eigen_convergence eigen_limit jacobi_convergence
  limit_by true h = rw h householder_count_limit
  limit_by false h = rw h (sweeps_most n a)

  pub eigen_count_limit : (eigen_convergence n a).count ≤ eigen_limit n
  eigen_count_limit = limit_by (ltb 32 n) refl

  few_by : (b : Bool) → ltb 32 n ≡ b → n ≤ 512 → eigen_limit n ≤ 51200
  unfolding eigen_limit
  few_by true h g = rw h (omega arith)
  few_by false h g = rw h (omega arith)

  -- in numbers: no count is above 51,200
  pub eigen_few : n ≤ 512 → (eigen_convergence n a).count ≤ 51200
  eigen_few h = omega (arith, eigen_count_limit, few_by (ltb 32 n) refl h)
