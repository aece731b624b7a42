-- `tables::rescale` meets its contract: the rows below n of both tables are written. Assumes nothing.
use Rattle.coefficients.specs.Values.{rescaled_entry, rescaled_row}
use Rattle.storage.specs.Triangle.{row_start, along, row_start_zero, row_within, rows_more}
use Rattle.storage.specs.Filled.{Filled, filled_none, filled_to, filled_same}
use borrow.Author.Rules.{rules}
use native.Mathlib.Omega.{arith}
use mathlib.Core.Path.{◌≡◌, refl, sym, ap}
use Prim.Native.Nat.{◌+◌, ◌-◌, ◌≤◌}
use Rattle.coefficients.proofs.tables.rescale.Goals as goal

pub loop-n-init : goal.loop-n-init
loop-n-init c = let z = sym row_start_zero in (z, omega arith, filled_to filled_none z, filled_to filled_none z)

pub scale_row-requires : goal.scale_row-requires
scale_row-requires c =
    let a = c.args in
    let l = c.loop-n in
    let k = row_within l.n a.nmax (omega arith) (omega arith) in
    record { fact_1 = omega arith; fact_2 = omega arith }

pub scale_row-requires-in-loop-n : goal.scale_row-requires-in-loop-n
scale_row-requires-in-loop-n c =
    let a = c.args in
    let l = c.loop-n in
    let k = row_within l.n a.nmax (omega arith) (omega arith) in
    record { fact_1 = omega arith; fact_2 = omega arith }

pub overflow_add-at : goal.overflow_add-at
overflow_add-at c =
    let a = c.args in
    let l = c.loop-n in
    let k = row_within l.n a.nmax (omega arith) (omega arith) in
    omega arith

pub overflow_add-at-in-loop-n : goal.overflow_add-at-in-loop-n
overflow_add-at-in-loop-n c =
    let a = c.args in
    let l = c.loop-n in
    let k = row_within l.n a.nmax (omega arith) (omega arith) in
    omega arith

pub loop-n-preserved : goal.loop-n-preserved
loop-n-preserved c =
    let a = c.args in
    let l = c.loop-n in
    let e = l.invariant.0 in
    let k = row_within l.n a.nmax (omega arith) (omega arith) in (
      omega arith,
      omega arith,
      rows_more (rescaled_entry a.q a.t a.c.now) l.n l.invariant.2
          (filled_same (rescaled_entry a.q a.t a.c.now l.n) c.scale_row.ensures (λ i h. rescaled_row a.q a.t a.c.now l.n l.at i c.powi.ensures e))
          refl (omega arith) refl,
      rows_more (rescaled_entry a.q a.t a.s.now) l.n l.invariant.3
          (filled_same (rescaled_entry a.q a.t a.s.now l.n) c.scale_row-in-loop-n.ensures (λ i h. rescaled_row a.q a.t a.s.now l.n l.at i c.powi.ensures e))
          refl (omega arith) refl,
    )

pub returns : goal.returns
returns c =
    let a = c.args in
    let l = c.loop-n in
    let e : l.n ≡ a.nmax + 1 = omega arith in
    record { filled = filled_to l.invariant.2 (ap row_start e); filled_2 = filled_to l.invariant.3 (ap row_start e) }
