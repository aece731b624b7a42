-- `gauss::four_pairs` meets its contract: each of the four recursions goes as the one of `legendre_pair` does. Assumes nothing.
use Rattle.quadrature.specs.GaussLaws.{Recursion, recursion_start, recursion_turn, recursion_end}
use Rattle.number.specs.Whole.{whole}
use native.Mathlib.Omega.{arith}
use Prim.Native.Nat.{◌+◌, ◌-◌, ◌≤◌, ◌<◌}
use Rattle.quadrature.proofs.gauss.four_pairs.Goals as goal

pub loop-k-init : goal.loop-k-init
loop-k-init c = (omega arith, omega arith, recursion_start _ _, recursion_start _ _, recursion_start _ _, recursion_start _ _)

pub int_to_float-odd : goal.int_to_float-odd
int_to_float-odd c = whole _ (omega arith)

pub int_to_float-kf : goal.int_to_float-kf
int_to_float-kf c = whole _ (omega arith)

pub loop-k-preserved : goal.loop-k-preserved
loop-k-preserved c =
    let i = c.loop-k.invariant in
    let h : c.loop-k.k ≤ c.args.n = omega arith in
    (omega arith, omega arith, recursion_turn i.2 h, recursion_turn i.3 h, recursion_turn i.4 h, recursion_turn i.5 h)

pub returns : goal.returns
returns c =
    let i = c.loop-k.invariant in
    let h : c.args.n < c.loop-k.k = omega arith in
    record { fact_1 = recursion_end i.2 h; fact_2 = recursion_end i.3 h; fact_3 = recursion_end i.4 h; fact_4 = recursion_end i.5 h }
