-- `solve::compute` meets its contract: what is written is picked from the values and the vectors. Assumes nothing.
use native.Mathlib.Omega.{arith}
use mathlib.Core.Path.{ap, ap₂}
use Prim.Native.Nat.{ℕ, ◌*◌}
use borrow.Author.Rules.{rules}
use mathlib.Core.Bool.{true, false}
use Rattle.region_nodes.specs.Regions.{concentration_matrix}
use Rattle.region.specs.Storage.{products}
use Rattle.region.specs.RegionSolve.{solve_room, region-convergence}
use Rattle.region.specs.RegionAnswer.{concentrations_are, numbers_are}
use Rattle.region.proofs.solve.compute.Goals as goal

pub region_sizes-sizes-requires : goal.region_sizes-sizes-requires
region_sizes-sizes-requires c = c.requires.lists.top

pub overflow_mul-at : goal.overflow_mul-at
overflow_mul-at c = let z = c.region_sizes-sizes.ensures in omega (arith, z)

pub solve-ended-requires : goal.solve-ended-requires
solve-ended-requires c =
    let z = c.region_sizes-sizes.ensures in
    let a = c.requires in
    record { fact_1 = a.lists; fact_2 = z.of_functions; fact_3 = ap (λ (x : ℕ). 3 * x) z.of_table; fact_4 = a.of_work; fact_5 = z.few }

pub overflow_mul-n : goal.overflow_mul-n
overflow_mul-n c =
    let region-sizes = c.region_sizes-sizes in
    let z = region-sizes.ensures in
    let p = products z.few z.short in
    omega (arith, p)

pub overflow_add-at : goal.overflow_add-at
overflow_add-at c =
    let region-sizes = c.region_sizes-sizes in
    let z = region-sizes.ensures in
    let p = products z.few z.short in
    omega (arith, p, z)

pub write-requires : goal.write-requires
write-requires c =
    let region-sizes = c.region_sizes-sizes in
    let solve = c.solve-ended in
    let z = region-sizes.ensures in
    let a = c.requires in
    let r = solve_room a.lists.top z.of_functions (ap (λ (x : ℕ). 3 * x) z.of_table) a.of_work in
    let rows = ap₂ (λ (x y : ℕ). x * y) z.of_functions z.of_table in
    let done = solve.ensures in record {
      lmax_bound_1 = a.lists.top;
      lmax_bound_2 = z.of_functions;
      lmax_bound_3 = z.of_table;
      lmax_bound_4 = omega (arith, z.few, done.filled.long);
      lmax_bound_5 = omega (arith, r.long, done.vectors_in_2.long);
      n_in_bounds_1 = omega (
        arith,
        z.of_functions,
        a.of_concentrations,
      );
      n_in_bounds_2 = omega (arith, rows, a.of_cosines);
      n_in_bounds_3 = omega (arith, rows, a.of_sines);
    }

pub returns : goal.returns
returns c =
    let region-sizes = c.region_sizes-sizes in
    let solve = c.solve-ended in
    let write = c.write in
    let z = region-sizes.ensures in
    let a = c.requires in
    let done = solve.ensures in
    let written = write.ensures in
    let D = concentration_matrix c.args.lmax c.args.weights.now c.args.latitudes.now c.args.marks.now c.args.s.now c.args.c.now c.args.nodes in record {
      region_made = record {
        concentrations = concentrations_are c.args.lmax D z.of_functions a.lists.top done.filled z.few written.filled;
        cosines =
            numbers_are c.args.lmax D z.of_functions a.lists.top done.filled z.few false done.vectors_in_1 z.of_table written.filled_2;
        sines =
            numbers_are c.args.lmax D z.of_functions a.lists.top done.filled z.few true done.vectors_in_1 z.of_table written.filled_3;
        kept =
            done.vectors_in_2;
      };
      value = region-convergence c.args.lmax D z.of_functions done.value;
    }
