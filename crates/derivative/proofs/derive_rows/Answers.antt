-- `derivative::derive_rows` meets its contract: the rows below n are written. Assumes nothing.
use Rattle.storage.specs.Filled.{Filled, filled_none, filled_to}
use Rattle.storage.specs.Triangle.{row_start, along, row_start_zero, row_within, rows_more, cells}
use Rattle.derivative.specs.Derivative.{d_cell, derived_in_table}
use lib.Ieee.{nan}
use borrow.Author.Rules.{rules}
use native.Mathlib.Omega.{arith}
use mathlib.Core.Path.{◌≡◌, refl, sym, ap, ◌∙◌}
use Prim.Native.Nat.{◌+◌, ◌-◌, ◌≤◌}
use lib.ListN.{length}
use Rattle.derivative.proofs.derive_rows.Goals as goal

pub loop-n-init : goal.loop-n-init
loop-n-init c = let z = sym row_start_zero in (z, omega arith, refl, filled_to filled_none z)

pub derive_row-requires : goal.derive_row-requires
derive_row-requires c =
    let args = c.args in
    let loop = c.loop-n in
    let weights-row = c.weights_row in
    let k = row_within loop.n args.nmax (omega arith) (omega arith) in
    let long = weights-row.ensures.long in
    record { fact_1 = omega arith; fact_2 = omega arith; fact_3 = omega arith }

pub overflow_add-at : goal.overflow_add-at
overflow_add-at c =
    let args = c.args in
    let loop = c.loop-n in
    let k = row_within loop.n args.nmax (omega arith) (omega arith) in
    omega arith

pub overflow_add-at-in-loop-n : goal.overflow_add-at-in-loop-n
overflow_add-at-in-loop-n c =
    let args = c.args in
    let loop = c.loop-n in
    let k = row_within loop.n args.nmax (omega arith) (omega arith) in
    omega arith

pub loop-n-preserved : goal.loop-n-preserved
loop-n-preserved c =
    let a = c.args in
    let l = c.loop-n in
    let k = row_within l.n a.nmax (omega arith) (omega arith) in
    let w = c.weights_row.ensures in
    let row = derived_in_table a.src.now l.invariant.0 (omega arith) (omega arith) w c.derive_row.ensures in
    (omega arith, omega arith, w.long ∙ l.invariant.2, rows_more (d_cell (cells a.src.now nan)) l.n l.invariant.3 row refl (omega arith) refl)

pub returns : goal.returns
returns c =
    let l = c.loop-n in
    let e : l.n ≡ c.args.nmax + 1 = omega arith in
    filled_to l.invariant.3 (ap row_start e)
