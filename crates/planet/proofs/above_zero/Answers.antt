-- `above_zero` meets its contract. Assumes nothing.
use native.Mathlib.Omega.{arith}
use Rattle.planet.specs.Planet.{not_zero_test, zero_test}
use Rattle.planet.proofs.above_zero.Goals as goal

pub returns-then-p-eq0 : goal.returns-then-p-eq0
returns-then-p-eq0 c = zero_test c.args.p c.if-p-eq0.true

pub returns : goal.returns
returns c = not_zero_test c.args.p c.if-p-eq0.false (omega arith)
