-- `geopotential_symmetric_eigen` meets its contract. Assumes nothing.
use mathlib.Core.Path.{◌≡◌, ◌∙◌}
use lib.ListN.{length}
use Rattle.linalg.specs.Eigen.{eigen_check}
use Rattle.geopotential.specs.Matrices.{settled_is, count_is, handed_within}
use Rattle.geopotential.proofs.matrices.geopotential_symmetric_eigen.Goals as goal
use Rattle.refusal.specs.Numbers.{number_is, outcome, outcome_is}

pub returns : goal.returns
returns c =
    let a = c.args in
    let check = eigen_check a.n (length a.a.now) (length a.work.now) (length a.values.now) (length a.vectors.now) in
    let f = c.symmetric_eigen-ended in
    let h = c.hand_on_convergence.ensures in
    let e : outcome f.result ≡ check = outcome_is check _ f.ensures.value_1 in record { value = h.value ∙ number_is check _ f.ensures.value_1; values_after = rw (← e) f.ensures.values_after; vectors_after = rw (← e) f.ensures.vectors_after; work_unchanged = rw (← e) f.ensures.work_unchanged; work_len_unchanged = f.ensures.work_len_unchanged; settled_after = h.settled_after ∙ settled_is check _ a.settled.now f.ensures.value_1; count_after = h.count_after ∙ count_is check _ a.count.now f.ensures.value_1; count_bound = handed_within f.result _ a.count.now h.value h.count_after f.ensures.value_2 }
