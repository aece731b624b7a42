-- `nodes::add_node` meets its contract: a node that is marked 0 is skipped, any other is added degree by degree. Assumes nothing.
use native.Mathlib.Nat.{le_refl}
use Rattle.basin_kernel.specs.Working.{part_kept, tables_kept, legendre_is, powers_there}
use Rattle.basin_kernel.specs.NodeLaws.{node_skipped, node_cosines, node_sines}
use Rattle.regions.specs.Nodes.{integrals_at, width_is}
use Rattle.storage.specs.Triangle.{row_start_least, table_size_most}
use Rattle.storage.specs.Filled.{filled_part}
use Rattle.matrix.specs.Layout.{kept_none}
use native.Mathlib.Omega.{arith}
use mathlib.Core.Path.{refl, ap}
use Prim.Native.Nat.{ℕ, ◌+◌, ◌-◌, ◌*◌}
use lib.ListN.{length}
use Rattle.basin_kernel.proofs.nodes.add_node.Goals as goal

pub returns-then-marks-v-eq0 : goal.returns-then-marks-v-eq0
returns-then-marks-v-eq0 c =
    record { filled = node_skipped _ _ _ _ _ _ _ _ _ c.if-marks-v-eq0.true; filled_2 = node_skipped _ _ _ _ _ _ _ _ _ c.if-marks-v-eq0.true; tables_in_1 = c.requires.v_lt_nodes_3; tables_in_2 = kept_none; tables_in_3 = refl; tables_in_4 = refl }

pub overflow_mul-start : goal.overflow_mul-start
overflow_mul-start c =
    let start = integrals_at c.args.v (omega arith) c.requires.v_lt_nodes_2 c.requires.v_lt_nodes_1 in
    omega (arith, start.small)

pub rescales-requires : goal.rescales-requires
rescales-requires c =
    let pre = c.requires in
    omega (arith, row_start_least (c.args.lmax + 1))

pub offset_bounds-b-total : goal.offset_bounds-b-total
offset_bounds-b-total c =
    let a = c.args in
    let pre = c.requires in
    let w = a.work.now in
    let at = a.total + a.total in
    let tables = pre.v_lt_nodes_3 in
    let least = row_start_least (a.lmax + 1) in
    let most = table_size_most a.lmax pre.v_lt_nodes_2.top in
    let powers = filled_part at (length w - at) w c.rescales.ensures (omega arith) in
    let long = powers.long in
    omega arith

pub add_degrees-requires : goal.add_degrees-requires
add_degrees-requires c =
    let a = c.args in
    let pre = c.requires in
    let w = a.work.now in
    let at = a.total + a.total in
    let tables = pre.v_lt_nodes_3 in
    let least = row_start_least (a.lmax + 1) in
    let powers = filled_part at (length w - at) w c.rescales.ensures (omega arith) in
    let node = integrals_at a.v (omega arith) pre.v_lt_nodes_2 pre.v_lt_nodes_1 in
    record { lmax_bound_1 = pre.v_lt_nodes_2.top; lmax_bound_2 = omega (arith, tables.size, tables.long, powers.long); lmax_bound_3 = omega (arith, tables.size, tables.long, powers.long); lmax_bound_4 = omega (arith, least, tables.size, tables.long, powers.long); lmax_bound_5 = omega (arith, node.of_s); lmax_in_bounds_1 = omega (arith, node.of_c); lmax_in_bounds_2 = c.requires.lmax_in_bounds_1; lmax_in_bounds_3 = c.requires.lmax_in_bounds_2; lmax_in_bounds_4 = omega (arith, tables.size, pre.lmax_in_bounds_3); lmax_in_bounds_5 = omega (arith, tables.size, pre.lmax_in_bounds_4); filled = powers_there a.total _ _ powers (omega arith) }

pub returns : goal.returns
returns c =
    let a = c.args in
    let pre = c.requires in
    let w = a.work.now in
    let at = a.total + a.total in
    let tables = pre.v_lt_nodes_3 in
    let least = row_start_least (a.lmax + 1) in
    let powers = filled_part at (length w - at) w c.rescales.ensures (omega arith) in
    let kept = tables_kept tables powers (le_refl at) in
    let et = c.latitude_of-latitude.ensures.fact_1 in let eu = c.latitude_of-latitude.ensures.fact_2 in
    let marked = c.if-marks-v-eq0.false in
    let row = legendre_is kept a.latitudes.now a.v et eu in
    let node = ap (λ (k : ℕ). a.v * k) (width_is a.lmax) in
    let x = c.add_degrees.ensures.filled_2 in let y = c.add_degrees.ensures.filled_3 in
    let lists = c.add_degrees.auto in
    record { filled = node_cosines _ _ _ _ _ _ a.v _ marked refl row node x; filled_2 = node_sines _ _ _ _ _ _ a.v _ marked refl row node y; tables_in_1 = kept; tables_in_2 = part_kept (3 * a.total) powers (omega arith); tables_in_3 = lists.even; tables_in_4 = lists.odd }
