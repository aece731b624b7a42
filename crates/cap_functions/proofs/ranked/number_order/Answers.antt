-- `ranked::number_order` meets its contract: the functions of the columns below col are numbered. Assumes nothing.
use native.Mathlib.Omega.{arith}
use mathlib.Core.Path.{◌≡◌, refl}
use Prim.Native.Nat.{◌+◌, ◌-◌, ◌*◌, ◌≤◌}
use Rattle.storage.specs.Filled.{Filled, filled_none, filled_more, filled_to}
use Rattle.matrix.specs.Matrix.{row_within}
use Rattle.cap_functions.specs.CapRanked.{same_order, apart_by}
use Rattle.cap_functions.proofs.ranked.number_order.Goals as goal

pub loop-col-init : goal.loop-col-init
loop-col-init c = (omega arith, omega arith, filled_none, filled_none)

pub overflow_add-start : goal.overflow_add-start
overflow_add-start c = omega (arith, row_within c.args.k c.loop-col.col c.loop-col-test.true)

pub loop-col-preserved : goal.loop-col-preserved
unfolding same_order apart_by
loop-col-preserved c = (
  omega arith,
  omega (arith, c.loop-col.invariant.1),
  filled_more c.loop-col.invariant.2 refl refl,
  filled_more
      c.loop-col.invariant.3 refl c.loop-col.invariant.1,
)

pub returns : goal.returns
returns c = record { fact_1 = filled_to c.loop-col.invariant.2 (omega arith); fact_2 = filled_to c.loop-col.invariant.3 (omega arith) }
