-- `tables` meets its contract: the weights are lent their part. Assumes nothing.
use Rattle.point_lists.specs.Tables.{weights_filled}
use Rattle.storage.specs.Filled.{filled_part}
use native.Mathlib.Omega.{arith}
use Prim.Native.Nat.{◌+◌, ◌-◌}
use lib.ListN.{length}
use Rattle.point_lists.proofs.tables.Goals as goal

pub tables_by-requires : goal.tables_by-requires
tables_by-requires c = record { fact_1 = omega (arith, c.requires); fact_2 = omega (arith, c.requires); fact_3 = omega (arith, c.requires); fact_4 = omega (arith, c.requires) }

pub offset_bounds-work-at : goal.offset_bounds-work-at
offset_bounds-work-at c = omega (arith, c.requires, c.tables_by.auto)

pub slice_bounds-weights_rows-count : goal.slice_bounds-weights_rows-count
slice_bounds-weights_rows-count c = omega (arith, c.requires, c.tables_by.auto)

pub weights_rows-requires : goal.weights_rows-requires
weights_rows-requires c = record { fact_1 = omega (arith, c.requires, c.tables_by.auto); fact_2 = omega (arith, c.requires, c.tables_by.auto); fact_3 = omega (arith, c.requires, c.tables_by.auto) }

pub returns : goal.returns
returns c =
    let a = c.args in
    let long = c.tables_by.auto in
    let l = c.tables_by.new.work in
    let at = a.total + a.total in
    let weights = filled_part at (length l - at) l c.weights_rows.ensures (omega (arith, c.requires, long)) in
    weights_filled a.work.now a.nmax at (omega (arith, c.requires)) c.tables_by.ensures weights
