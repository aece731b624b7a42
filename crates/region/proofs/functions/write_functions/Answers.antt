-- `functions::write_functions` meets its contract: i functions are written. Assumes nothing.
use native.Mathlib.Omega.{arith}
use mathlib.Core.Path.{◌≡◌, sym, ap, ◌∙◌}
use Prim.Native.Nat.{ℕ, ◌*◌}
use native.Mathlib.Nat.{mul-le-mul_right}
use Rattle.storage.specs.Filled.{filled_none, filled_to}
use Rattle.region_nodes.specs.NodeLaws.{degree_within}
use Rattle.region.specs.Written.{functions_more}
use Rattle.region.proofs.functions.write_functions.Goals as goal

pub loop-i-init : goal.loop-i-init
loop-i-init c = (omega arith, omega arith, filled_to filled_none (omega arith))

pub offset_bounds-places-i : goal.offset_bounds-places-i
offset_bounds-places-i c = omega (arith, c.requires.lmax_bound_4.long)

pub bounds-places-i : goal.bounds-places-i
bounds-places-i c = omega (arith, c.requires.lmax_bound_4.long)

pub row-requires : goal.row-requires
row-requires c =
    let d = degree_within 0 c.args.lmax (omega arith) (omega arith) in
    let f = c.requires.lmax_bound_4.inside c.loop-i.i c.loop-i-test.true in
    record { fact_1 = omega (arith, d, c.requires.lmax_bound_2); fact_2 = omega arith }

pub overflow_add-at : goal.overflow_add-at
overflow_add-at c = omega (arith, c.row.ensures.inside, c.requires.lmax_bound_5)

pub write_function-requires : goal.write_function-requires
write_function-requires c =
    let loop = c.loop-i in
    let up = mul-le-mul_right c.args.table c.loop-i-test.true in record {
      fact_1 = c.requires.lmax_bound_1;
      fact_2 = omega (arith, c.row.ensures.inside, c.requires.lmax_bound_2, c.requires.lmax_bound_5);
      fact_3 = omega (
        arith,
        up,
        c.requires.lmax_bound_3,
        c.requires.table_in_bounds,
        loop.invariant.1,
        loop.invariant.2.long,
      );
    }

pub overflow_add-to : goal.overflow_add-to
overflow_add-to c =
    let loop = c.loop-i in
    let loop-test = c.loop-i-test in
    let up = mul-le-mul_right c.args.table loop-test.true in
    omega (arith, up, c.requires.lmax_bound_3, c.requires.table_in_bounds, loop.invariant.1, loop.invariant.2.long)

pub loop-i-preserved : goal.loop-i-preserved
loop-i-preserved c =
    let loop = c.loop-i in
    let place = c.from-place.ensures in (
      omega arith,
      omega (arith, loop.invariant.1),
      functions_more _ _ _ _ _ _ _ loop.invariant.2 (filled_to c.write_function.ensures
          (sym c.requires.lmax_bound_3)) (c.row.ensures.is ∙ ap (λ (f : ℕ). f * c.args.n) place) loop.invariant.1,
    )

pub returns : goal.returns
returns c =
    let e : c.loop-i.i ≡ c.args.n = omega arith in
    filled_to c.loop-i.invariant.2 (ap (λ (j : ℕ). j * c.args.table) e)
