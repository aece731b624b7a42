-- `vertices_check` meets its contract: each way through it has its law. Assumes nothing.
use Rattle.polygon.specs.CheckLaws.{too_many, not_pairs, short_work, vertices_done}
use native.Mathlib.Omega.{arith}
use Rattle.polygon.proofs.vertices_check.Goals as goal

pub returns-then-v-gt-MAX_VERTICES : goal.returns-then-v-gt-MAX_VERTICES
returns-then-v-gt-MAX_VERTICES c = too_many _ _ _ (omega arith)

pub returns-then-outline-v : goal.returns-then-outline-v
returns-then-outline-v c = not_pairs _ _ _ (omega arith) (λ e. omega arith)

pub returns-then-work-v : goal.returns-then-work-v
returns-then-work-v c = short_work _ _ _ (omega arith) (omega arith) (omega arith)

pub returns : goal.returns
returns c = vertices_done _ _ _ (omega arith) (omega arith) (omega arith)
