-- `derivative::weights_rows` meets its contract: the rows below n are written. Assumes nothing.
use Rattle.storage.specs.Filled.{Filled, filled_none, filled_to}
use Rattle.storage.specs.Triangle.{row_start, along, row_start_zero, row_within, rows_more}
use Rattle.derivative.specs.Derivative.{weight_cell}
use borrow.Author.Rules.{rules}
use native.Mathlib.Omega.{arith}
use mathlib.Core.Path.{◌≡◌, refl, sym, ap}
use Prim.Native.Nat.{◌+◌, ◌-◌, ◌≤◌}
use Rattle.derivative.proofs.weights_rows.Goals as goal

pub loop-n-init : goal.loop-n-init
loop-n-init c = let z = sym row_start_zero in (z, omega arith, filled_to filled_none z)

pub weights_row-requires : goal.weights_row-requires
weights_row-requires c =
    let args = c.args in
    let loop = c.loop-n in
    let k = row_within loop.n args.nmax (omega arith) (omega arith) in
    record { fact_1 = omega arith; fact_2 = omega arith; fact_3 = omega arith }

pub overflow_add-at : goal.overflow_add-at
overflow_add-at c =
    let k = row_within c.loop-n.n c.args.nmax (omega arith) (omega arith) in
    omega arith

pub overflow_add-at-in-loop-n : goal.overflow_add-at-in-loop-n
overflow_add-at-in-loop-n c =
    let k = row_within c.loop-n.n c.args.nmax (omega arith) (omega arith) in
    omega arith

pub loop-n-preserved : goal.loop-n-preserved
loop-n-preserved c =
    let l = c.loop-n in
    let k = row_within l.n c.args.nmax (omega arith) (omega arith) in
    (omega arith, omega arith, rows_more weight_cell l.n l.invariant.2 c.weights_row.ensures refl (omega arith) refl)

pub returns : goal.returns
returns c =
    let l = c.loop-n in
    let e : l.n ≡ c.args.nmax + 1 = omega arith in
    filled_to l.invariant.2 (ap row_start e)
