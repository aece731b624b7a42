-- `polar::cap_in` meets its contract: what is stored of all orders is ranked and written over the outputs. Assumes nothing.
use native.Mathlib.Omega.{arith}
use mathlib.Core.Path.{refl, ◌∙◌}
use Prim.Native.Nat.{◌≤◌}
use lib.ListN.{length}
use Rattle.matrix.specs.Layout.{kept_then}
use Rattle.polar_cap.specs.PolarCap.{cap_work}
use Rattle.cap_functions.specs.CapPlaces.{order_within, divided, room_kept}
use Rattle.polar_cap.specs.CapStorage.{tables_in, kept_filled}
use Rattle.polar_cap.specs.CapAnswer.{runs_in, numbers_are, orders_picked, concentrations_picked, vectors_picked}
use Rattle.polar_cap.proofs.polar.cap_in.Goals as goal

pub cap_sizes-sizes-requires : goal.cap_sizes-sizes-requires
cap_sizes-sizes-requires c =
    let r = c.requires.cap_room in r.top

pub tables-requires : goal.tables-requires
tables-requires c =
    let a = c.args in
    let r = c.requires.cap_room in
    let s = c.cap_sizes-sizes.ensures in
    let d = divided a.lmax r.top in
    (omega (arith, r.top), (s.of_functions, omega (arith, s.of_functions, d.concentrations_at_lem, d.vectors_at_lem, d.end, r.of_work)))

pub all_orders-requires : goal.all_orders-requires
all_orders-requires c =
    let a = c.args in
    let r = c.requires.cap_room in
    let s = c.cap_sizes-sizes.ensures in
    let d = divided a.lmax r.top in
    let t = tables_in a.lmax
    c.cap_sizes-sizes.result.functions a.work.now
    s.of_functions c.tables.ensures r.of_work d in
    record { fact_1 = s.of_concentrations; fact_2 = t.0; fact_3 = room_kept r refl refl refl t.1.long refl refl refl; fact_4 = c.requires.lmax_in_bounds_5 }

pub overflow_add-at : goal.overflow_add-at
overflow_add-at c =
    let a = c.args in
    let r = c.requires.cap_room in
    let s = c.cap_sizes-sizes.ensures in
    let d = divided a.lmax r.top in
    omega (arith, s.of_functions, s.of_concentrations, d.vectors_at_lem, d.end, d.work_small)

pub number_functions-requires : goal.number_functions-requires
number_functions-requires c =
    let a = c.args in
    let p = c.requires in
    let r = c.requires.cap_room in
    let s = c.cap_sizes-sizes.ensures in
    let d = divided a.lmax r.top in record { fact_1 = r.top; fact_2 = omega (arith, s.of_functions, s.of_concentrations, d.vectors_at_lem); fact_3 = c.requires.lmax_in_bounds_1; fact_4 = c.requires.lmax_in_bounds_2 }

pub write-requires : goal.write-requires
write-requires c =
    let a = c.args in
    let p = c.requires in
    let r = c.requires.cap_room in
    let n = c.cap_sizes-sizes.result in
    let s = c.cap_sizes-sizes.ensures in
    let d = divided a.lmax r.top in
    let t = tables_in a.lmax n.functions a.work.now s.of_functions
    c.tables.ensures r.of_work d in
    let numbered = c.number_functions.ensures in
    let done = c.all_orders.ensures in
    let w = c.all_orders.new.work in
    let room : cap_work a.lmax ≤ length w = omega (arith, r.of_work, t.1.long, done.stored_2.long) in
    let o = order_within a.lmax 0 (omega arith) r.top in
    let m = numbers_are a.lmax a.x0 a.weights.now a.latitudes.now w n.functions n.at done.stored_1
    numbered.fact_1 numbered.fact_2 c.requires.lmax_in_bounds_1 c.requires.lmax_in_bounds_2 room r.top s.of_functions s.of_concentrations in
    let f = s.of_functions in record {
      runs_in_1 = runs_in a.lmax a.x0 a.weights.now a.latitudes.now w n.functions n.at done.stored_1
          numbered.fact_1 numbered.fact_2 c.requires.lmax_in_bounds_1 c.requires.lmax_in_bounds_2 room r.top s.of_functions s.of_concentrations;
      runs_in_2 = omega (arith, f, s.of_concentrations, room, d.vectors_at_lem, d.end);
      runs_in_3 = omega (arith, f, o.functions_small);
      runs_in_4 = omega (arith, f, c.requires.lmax_in_bounds_3);
      runs_in_5 = omega (arith, f, c.requires.lmax_in_bounds_4);
      n_in_bounds_1 = omega (arith, f, r.of_orders, done.kept_1.long);
      n_in_bounds_2 = omega (arith, f, r.of_concentrations, done.kept_2.long);
      n_in_bounds_3 = omega (arith, m, r.of_vectors, done.kept_3.long);
    }

pub returns : goal.returns
returns c =
    let a = c.args in
    let p = c.requires in
    let r = c.requires.cap_room in
    let n = c.cap_sizes-sizes.result in
    let s = c.cap_sizes-sizes.ensures in
    let d = divided a.lmax r.top in
    let t = tables_in a.lmax n.functions a.work.now s.of_functions
    c.tables.ensures r.of_work d in
    let numbered = c.number_functions.ensures in
    let done = c.all_orders.ensures in
    let w = c.all_orders.new.work in
    let room : cap_work a.lmax ≤ length w = omega (arith, r.of_work, t.1.long, done.stored_2.long) in
    let made = c.write.ensures in
    record {
      orders = kept_filled done.kept_1 (orders_picked a.lmax a.x0 a.weights.now a.latitudes.now w
          n.functions n.at done.stored_1 numbered.fact_1 numbered.fact_2 c.requires.lmax_in_bounds_1 c.requires.lmax_in_bounds_2 room r.top s.of_functions
          s.of_concentrations made.filled_1) r.of_orders;
      concentrations = kept_filled done.kept_2 (concentrations_picked a.lmax a.x0 a.weights.now a.latitudes.now w
          n.functions n.at done.stored_1 numbered.fact_1 numbered.fact_2 c.requires.lmax_in_bounds_1 c.requires.lmax_in_bounds_2 room r.top s.of_functions
          s.of_concentrations made.filled_2) r.of_concentrations;
      vectors = kept_filled done.kept_3 (vectors_picked a.lmax a.x0 a.weights.now a.latitudes.now w
          n.functions n.at done.stored_1 numbered.fact_1 numbered.fact_2 c.requires.lmax_in_bounds_1 c.requires.lmax_in_bounds_2 room r.top s.of_functions
          s.of_concentrations made.filled_3) r.of_vectors;
      settled = done.filled;
      kept = kept_then t.1 done.stored_2;
    }
