-- `add_node` meets its contract: the rows above row i, which is that of place a of degree l, are added. Assumes nothing.
use native.Mathlib.Omega.{arith}
use mathlib.Core.Path.{◌≡◌, refl, ap}
use Prim.Native.Nat.{ℕ, ◌+◌, ◌-◌, ◌*◌, ◌≤◌}
use Rattle.storage.specs.Filled.{Filled, filled_none, filled_to}
use Rattle.storage.specs.Rectangle.{by_rows}
use Rattle.regions.specs.Sums.{added_cell, place_known, node_more}
use Rattle.regions.proofs.sums.add_node.Goals as goal

pub loop-i-init : goal.loop-i-init
loop-i-init c = (omega arith, omega arith, omega arith, filled_to filled_none (omega arith))

pub row-requires : goal.row-requires
row-requires c =
    let known = place_known _ _ _ c.loop-i.l c.loop-i.a c.requires.lmax_bound_1 c.requires.lmax_bound_2 c.requires.lmax_bound_3 (omega arith) in
    record { fact_1 = omega (arith, known.products); fact_2 = omega (arith, known.inside) }

pub row-requires-in-loop-i : goal.row-requires-in-loop-i
row-requires-in-loop-i c =
    let known = place_known _ _ _ c.loop-i.l c.loop-i.a c.requires.lmax_bound_1 c.requires.lmax_bound_2 c.requires.lmax_bound_3 (omega arith) in
    record { fact_1 = omega (arith, known.rows); fact_2 = c.loop-i-test.true }

pub add_row-requires : goal.add_row-requires
add_row-requires c =
    let known = place_known _ _ _ c.loop-i.l c.loop-i.a c.requires.lmax_bound_1 c.requires.lmax_bound_2 c.requires.lmax_bound_3 (omega arith) in
    record { lmax_bound_1 = c.requires.lmax_bound_1; lmax_bound_2 = known.top; lmax_bound_3 = omega arith; lmax_bound_4 = omega arith; lmax_bound_5 = omega (arith, known.inside, c.row.ensures); a_in_bounds = omega (arith, c.row-in-loop-i.ensures, c.loop-i.invariant.3.long) }

pub next_place-next-requires : goal.next_place-next-requires
next_place-next-requires c =
    let known = place_known _ _ _ c.loop-i.l c.loop-i.a c.requires.lmax_bound_1 c.requires.lmax_bound_2 c.requires.lmax_bound_3 (omega arith) in
    (omega (arith, known.top), c.loop-i.invariant.2)

pub loop-i-preserved : goal.loop-i-preserved
loop-i-preserved c =
    let known = place_known _ _ _ c.loop-i.l c.loop-i.a c.requires.lmax_bound_1 c.requires.lmax_bound_2 c.requires.lmax_bound_3 (omega arith) in
    let next = c.next_place-next.ensures in (
      omega arith,
      omega (arith, next.is, c.loop-i.invariant.1),
      next.inside,
      node_more _ _ _ _ _ _ _ _ _ known.top c.loop-i.invariant.2 c.loop-i.invariant.1 c.loop-i-test.true c.requires.lmax_bound_3 c.row.ensures.is c.row-in-loop-i.ensures.is refl c.loop-i.invariant.3 c.add_row.ensures,
    )

pub returns : goal.returns
returns c =
    let e : c.loop-i.i ≡ c.args.n = omega arith in
    filled_to c.loop-i.invariant.3 (ap (λ (j : ℕ). j * c.args.n) e)
