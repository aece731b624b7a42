-- `following` meets its contract: the vertex is the last one, or not. Assumes nothing.
use Rattle.polygon.specs.EdgeLaws.{following_first, following_next}
use native.Mathlib.Omega.{arith}
use Rattle.polygon.proofs.edges.following.Goals as goal

pub returns-then-i-v : goal.returns-then-i-v
returns-then-i-v c = record { fact_1 = following_first _ _ c.if-i-v.true; fact_2 = omega arith }

pub returns-else-i-v : goal.returns-else-i-v
returns-else-i-v c = record { fact_1 = following_next _ _ c.if-i-v.false; fact_2 = omega (arith, c.if-i-v.false) }
