-- `division::divide_degree` meets its contract: zeros, or the quotients. Assumes nothing.
use Rattle.legendre_analysis.specs.Division.{degree_cleared, degree_over}
use Rattle.storage.specs.Filled.{filled_part}
use native.Mathlib.Omega.{arith}
use Prim.Native.Nat.{◌-◌}
use lib.ListN.{length}
use Rattle.legendre_analysis.proofs.division.divide_degree.Goals as goal

pub returns-then-factor : goal.returns-then-factor
returns-then-factor c =
    let a = c.args in
    degree_cleared a.n a.factor c.if-factor.true
    (filled_part a.at (length a.c.now - a.at) a.c.now c.clear.ensures (omega arith))

pub returns : goal.returns
returns c =
    let a = c.args in
    let if1 = c.if-factor in
    let quotients = c.quotients in
    degree_over a.n a.factor if1.false quotients.ensures
