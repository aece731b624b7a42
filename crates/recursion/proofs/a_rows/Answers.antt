-- `recursion::a_rows` meets its contract: the rows below n are written. Assumes nothing.
use Rattle.recursion.specs.Recursion.{a_cell}
use Rattle.storage.specs.Triangle.{row_start, rows_from, row_within, rows_from_more}
use Rattle.storage.specs.Filled.{Filled, filled_none, filled_to}
use borrow.Author.Rules.{rules}
use native.Mathlib.Omega.{arith}
use mathlib.Core.Path.{◌≡◌, refl, ap}
use Prim.Native.Nat.{ℕ, ◌+◌, ◌-◌, ◌≤◌}
use Rattle.recursion.proofs.a_rows.Goals as goal

pub loop-n-init : goal.loop-n-init
loop-n-init c = (omega arith, omega arith, omega arith, filled_to filled_none (omega arith))

pub a_row-requires : goal.a_row-requires
a_row-requires c =
    let a = c.args in
    let l = c.loop-n in
    let k = row_within l.n a.nmax (omega arith) (omega arith) in
    record { fact_1 = omega arith; fact_2 = omega arith; fact_3 = omega arith }

pub overflow_add-at : goal.overflow_add-at
overflow_add-at c =
    let a = c.args in
    let l = c.loop-n in
    let k = row_within l.n a.nmax (omega arith) (omega arith) in
    omega arith

pub overflow_add-at-in-loop-n : goal.overflow_add-at-in-loop-n
overflow_add-at-in-loop-n c =
    let a = c.args in
    let l = c.loop-n in
    let k = row_within l.n a.nmax (omega arith) (omega arith) in
    omega arith

pub loop-n-preserved : goal.loop-n-preserved
loop-n-preserved c =
    let a = c.args in
    let l = c.loop-n in
    let k = row_within l.n a.nmax (omega arith) (omega arith) in (
      omega arith,
      omega arith,
      omega arith,
      rows_from_more a_cell l.n a.first (omega arith) (omega arith) l.invariant.3 c.a_row.ensures (omega arith) refl,
    )

pub returns : goal.returns
returns c =
    let a = c.args in
    let l = c.loop-n in
    let e : l.n ≡ a.nmax + 1 = omega arith in
    filled_to l.invariant.3 (ap (λ (k : ℕ). row_start k - a.start) e)
