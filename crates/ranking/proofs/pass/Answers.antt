-- `pass` meets its contract: the runs of twice the width below index lo are merged. Assumes nothing.
use mathlib.Core.Path.{◌≡◌}
use native.Mathlib.Omega.{arith}
use Prim.Native.Nat.{◌+◌, min}
use lib.ListN.{length}
use Rattle.storage.specs.Filled.{filled_none, filled_to}
use Rattle.ranking.specs.Runs.{runs_merged, runs_more}
use Rattle.ranking.proofs.pass.Goals as goal

pub loop-lo-init : goal.loop-lo-init
loop-lo-init c = (record { times = 0; is = omega arith }, filled_to filled_none (omega arith))

pub merge_runs-requires : goal.merge_runs-requires
merge_runs-requires c =
    let m = c.smaller-mid.ensures in
    let h = c.smaller-hi.ensures in
    let long = c.loop-lo.invariant.1.long in
    record { fact_1 = omega (arith, m, c.loop-lo-test.true); fact_2 = omega (arith, m, h); fact_3 = omega (arith, h); fact_4 = omega (arith, h, long) }

pub loop-lo-preserved : goal.loop-lo-preserved
loop-lo-preserved c =
    let a = c.args in
    let w = a.width in
    let m = c.smaller-mid.ensures in
    let h = c.smaller-hi.ensures in
    let at = c.loop-lo.invariant.0 in
    let below : min (length a.keys.now) c.loop-lo.lo ≡ c.loop-lo.lo = omega (arith, c.loop-lo-test.true) in (
      record { times = at.times + 1; is = omega (arith, at.is) },
      filled_to
          (runs_more a.keys.now (w + w) at.times c.loop-lo.lo c.smaller-hi.result at.is c.loop-lo-test.true h
          (runs_merged a.keys.now w a.src.now c.requires.filled c.requires.le_width_4 at.times c.loop-lo.lo c.smaller-mid.result c.smaller-hi.result
          c.type_inv.keys at.is c.loop-lo-test.true m h)
          (filled_to c.loop-lo.invariant.1 below) c.merge_runs.ensures)
          h,
    )

pub returns : goal.returns
returns c = filled_to c.loop-lo.invariant.1 (omega arith)

-- the same where the two runs are the last
pub returns-2 : goal.returns-2
returns-2 c =
    let a = c.args in
    let w = a.width in
    let m = c.smaller-mid.ensures in
    let h = c.smaller-hi.ensures in
    let at = c.loop-lo.invariant.0 in
    let below : min (length a.keys.now) c.loop-lo.lo ≡ c.loop-lo.lo = omega (arith, c.loop-lo-test.true) in
    filled_to
    (runs_more a.keys.now (w + w) at.times c.loop-lo.lo c.smaller-hi.result at.is c.loop-lo-test.true h
    (runs_merged a.keys.now w a.src.now c.requires.filled c.requires.le_width_4 at.times c.loop-lo.lo c.smaller-mid.result c.smaller-hi.result
    c.type_inv.keys at.is c.loop-lo-test.true m h)
    (filled_to c.loop-lo.invariant.1 below) c.merge_runs.ensures)
    (omega (arith, h))
