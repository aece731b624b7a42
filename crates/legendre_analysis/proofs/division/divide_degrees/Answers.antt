-- `division::divide_degrees` meets its contract: the degrees below n are divided. Assumes nothing.
use Rattle.legendre_analysis.specs.Division.{degrees_divided}
use Rattle.storage.specs.Triangle.{row_start, row_start_zero, row_within}
use Rattle.storage.specs.Filled.{filled_none, filled_to}
use native.Mathlib.Omega.{arith}
use mathlib.Core.Path.{◌≡◌, sym, ap}
use Prim.Native.Nat.{◌+◌}
use Rattle.legendre_analysis.proofs.division.divide_degrees.Goals as goal

pub loop-n-init : goal.loop-n-init
loop-n-init c = let z = sym row_start_zero in (z, omega arith, filled_to filled_none z)

pub divide_degree-requires : goal.divide_degree-requires
divide_degree-requires c =
    let l = c.loop-n in
    let a = c.args in
    let k = row_within l.n a.nmax (omega arith) (omega arith) in omega arith

pub overflow_add-at : goal.overflow_add-at
overflow_add-at c =
    let l = c.loop-n in
    let a = c.args in
    let k = row_within l.n a.nmax (omega arith) (omega arith) in omega arith

pub overflow_add-at-in-loop-n : goal.overflow_add-at-in-loop-n
overflow_add-at-in-loop-n c =
    let l = c.loop-n in
    let a = c.args in
    let k = row_within l.n a.nmax (omega arith) (omega arith) in omega arith

pub loop-n-preserved : goal.loop-n-preserved
loop-n-preserved c =
    let l = c.loop-n in
    let a = c.args in
    let divide-degree = c.divide_degree in
    let k = row_within l.n a.nmax (omega arith) (omega arith) in
    (omega arith, omega arith, degrees_divided l.n a.factors.now l.invariant.2 divide-degree.ensures l.invariant.0)

pub returns : goal.returns
returns c =
    let e : c.loop-n.n ≡ c.args.nmax + 1 = omega arith in
    filled_to c.loop-n.invariant.2 (ap row_start e)
