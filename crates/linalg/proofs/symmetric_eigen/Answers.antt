-- `symmetric_eigen` meets its contract: past the checks the answer is worked out. Assumes nothing.
use Rattle.std.specs.Prelude.{Ok}
use native.Mathlib.Omega.{arith}
use mathlib.Core.Path.{◌≡◌, sym, ◌∙◌}
use lib.ListN.{length}
use Rattle.linalg.specs.Eigen.{eigen_check}
use Rattle.linalg.specs.Checks.{accepted}
use Rattle.linalg.specs.Solution.{solution_solved, count_within}
use Rattle.linalg.specs.Limits.{eigen_count_limit}
use Rattle.linalg.proofs.symmetric_eigen.Goals as goal

pub eigen-requires : goal.eigen-requires
eigen-requires c =
    let done : Ok tt ≡ eigen_check c.args.n (length c.args.a.now) (length c.args.work.now) (length c.args.values.now) (length c.args.vectors.now) = sym c.in_ok-eigen_check.was ∙ c.eigen_check.ensures in
    let ok = accepted _ _ _ _ _ done in
    record { fact_1 = omega arith; fact_2 = omega arith; fact_3 = omega arith; fact_4 = omega arith; fact_5 = omega arith }

pub returns : goal.returns
returns c =
    let done : Ok tt ≡ eigen_check c.args.n (length c.args.a.now) (length c.args.work.now) (length c.args.values.now) (length c.args.vectors.now) = sym c.in_ok-eigen_check.was ∙ c.eigen_check.ensures in
    let made = c.eigen.ensures in
    let a = c.args in
    let is = made.value in record { value_1 = solution_solved done is; value_2 = count_within is (eigen_count_limit a.n a.a.now); values_after = made.filled.is; vectors_after = made.filled_2.is; work_unchanged = made.kept.behind; work_len_unchanged = made.kept.long }
