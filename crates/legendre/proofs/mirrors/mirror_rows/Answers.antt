-- `legendre::mirrors::mirror_rows` meets its contract: the rows below n are mirrored, and the others stand. Assumes nothing.
use Rattle.storage.specs.Filled.{Filled, filled_none, filled_to}
use Rattle.storage.specs.Triangle.{row_start, along, row_start_zero, row_within, row_start_more}
use Rattle.legendre.specs.Mirrored.{mirrored, mirrored_row_more}
use native.Mathlib.Omega.{arith}
use mathlib.Core.Path.{◌≡◌, sym, ap}
use Prim.Native.Nat.{◌+◌, ◌-◌, ◌≤◌}
use Rattle.legendre.proofs.mirrors.mirror_rows.Goals as goal

pub loop-n-init : goal.loop-n-init
loop-n-init c = let z = sym row_start_zero in (z, omega arith, filled_to filled_none z)

pub mirror_row-requires : goal.mirror_row-requires
mirror_row-requires c =
    let l = c.loop-n in
    let long = l.invariant.2.long in
    let k = row_within l.n c.args.nmax (omega arith) (omega arith) in
    record { fact_1 = omega arith; fact_2 = omega arith; fact_3 = omega arith }

pub overflow_add-at : goal.overflow_add-at
overflow_add-at c =
    let k = row_within c.loop-n.n c.args.nmax (omega arith) (omega arith) in
    omega arith

pub overflow_add-at-in-loop-n : goal.overflow_add-at-in-loop-n
overflow_add-at-in-loop-n c =
    let k = row_within c.loop-n.n c.args.nmax (omega arith) (omega arith) in
    omega arith

pub loop-n-preserved : goal.loop-n-preserved
loop-n-preserved c =
    let l = c.loop-n in
    (omega (arith, row_start_more l.n), omega arith, mirrored_row_more _ l.n _ l.invariant.0 l.invariant.2 c.mirror_row.ensures)

pub returns : goal.returns
returns c =
    let l = c.loop-n in
    let e : l.n ≡ c.args.nmax + 1 = omega arith in
    filled_to l.invariant.2 (ap row_start e)
