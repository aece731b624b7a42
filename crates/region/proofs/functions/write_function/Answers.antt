-- `functions::write_function` meets its contract: the degrees below l are written. Assumes nothing.
use native.Mathlib.Omega.{arith}
use mathlib.Core.Path.{◌≡◌, sym, ap}
use Prim.Native.Nat.{◌+◌, ◌-◌, ◌*◌, ◌≤◌}
use Rattle.storage.specs.Filled.{Filled, filled_none, filled_to}
use Rattle.storage.specs.Triangle.{row_start, along, row_start_zero}
use Rattle.region_nodes.specs.NodeLaws.{DegreeWithin, degree_within}
use Rattle.region.specs.Written.{in_vector, degrees_more}
use Rattle.region.proofs.functions.write_function.Goals as goal

pub loop-l-init : goal.loop-l-init
loop-l-init c = (omega arith, omega arith, omega (arith, row_start_zero), filled_to filled_none (sym row_start_zero))

pub write_degree-requires : goal.write_degree-requires
write_degree-requires c =
    let loop = c.loop-l in
    let d = degree_within loop.l c.args.lmax (omega arith) (omega arith) in
    record { fact_1 = omega (arith, d, loop.invariant.1); fact_2 = omega (arith, d, loop.invariant.2, loop.invariant.3.long) }

pub overflow_add-at : goal.overflow_add-at
overflow_add-at c = let i = c.loop-l.invariant in let d = degree_within c.loop-l.l c.args.lmax (omega arith) (omega arith) in omega (arith, d, i.1, i.2, i.3.long)

pub overflow_add-at-in-loop-l : goal.overflow_add-at-in-loop-l
overflow_add-at-in-loop-l c = let i = c.loop-l.invariant in let d = degree_within c.loop-l.l c.args.lmax (omega arith) (omega arith) in omega (arith, d, i.1, i.2, i.3.long)

pub overflow_add-at-in-loop-l-2 : goal.overflow_add-at-in-loop-l-2
overflow_add-at-in-loop-l-2 c = let i = c.loop-l.invariant in let d = degree_within c.loop-l.l c.args.lmax (omega arith) (omega arith) in omega (arith, d, i.1, i.2, i.3.long)

pub overflow_add-row : goal.overflow_add-row
overflow_add-row c = let i = c.loop-l.invariant in let d = degree_within c.loop-l.l c.args.lmax (omega arith) (omega arith) in omega (arith, d, i.1, i.2, i.3.long)

pub overflow_add-row-in-loop-l : goal.overflow_add-row-in-loop-l
overflow_add-row-in-loop-l c = let i = c.loop-l.invariant in let d = degree_within c.loop-l.l c.args.lmax (omega arith) (omega arith) in omega (arith, d, i.1, i.2, i.3.long)

pub loop-l-preserved : goal.loop-l-preserved
loop-l-preserved c =
    let i = c.loop-l.invariant in
    let d = degree_within c.loop-l.l c.args.lmax (omega arith) (omega arith) in
    (omega arith, omega (arith, d, i.1), omega (arith, d, i.2), degrees_more _ _ _ _ i.3 c.write_degree.ensures i.1 i.2)

pub returns : goal.returns
returns c =
    let e : c.loop-l.l ≡ c.args.lmax + 1 = omega arith in
    filled_to c.loop-l.invariant.3 (ap row_start e)
