-- `matrices::hand_on_convergence` meets its contract: each kind of answer has its numbers. Assumes nothing.
use mathlib.Core.Path.{refl, ◌∙◌}
use Rattle.linalg.specs.Solution.{settled_is_byte}
use Rattle.geopotential.proofs.matrices.hand_on_convergence.Goals as goal

pub returns-in-Ok : goal.returns-in-Ok
returns-in-Ok c = let e = c.in-Ok.is in record { value = rw e refl; settled_after = rw e (c.from.ensures ∙ settled_is_byte _); count_after = rw e refl }

pub returns-in-Err : goal.returns-in-Err
returns-in-Err c = let e = c.in-Err.is in record { value = rw e c.from-in-Err.ensures; settled_after = rw e refl; count_after = rw e refl }
