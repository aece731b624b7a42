-- `space_check` meets its contract: each way through it has its law. Assumes nothing.
use Rattle.storage.specs.Checks.{space_first, space_second, space_done}
use native.Mathlib.Omega.{arith}
use Rattle.storage.proofs.space_check.Goals as goal

pub returns-then-a-size : goal.returns-then-a-size
returns-then-a-size c = space_first _ _ _ (omega arith)

pub returns-then-b-size : goal.returns-then-b-size
returns-then-b-size c = space_second _ _ _ (omega arith) (omega arith)

pub returns : goal.returns
returns c = space_done _ _ _ (omega arith) (omega arith)
