-- `node` meets its contract: a node that is marked 0 is skipped, any other is added by its functions and its products. Assumes nothing.
use native.Mathlib.Omega.{arith}
use mathlib.Core.Path.{refl, ap}
use Prim.Native.Nat.{ℕ, ◌*◌}
use Rattle.regions.specs.Nodes.{node_skipped, node_added_lem, table_is, integrals_at, width_is}
use borrow.Author.Rules.{rules}
use Rattle.regions.proofs.nodes.node.Goals as goal

pub returns-then-marks-v-eq0 : goal.returns-then-marks-v-eq0
returns-then-marks-v-eq0 c = record { filled = node_skipped _ _ _ _ _ _ _ _ c.if-marks-v-eq0.true; p_len_unchanged_1 = refl; p_len_unchanged_2 = refl; p_len_unchanged_3 = refl }

pub compute_short-requires : goal.compute_short-requires
compute_short-requires c =
    let r = c.requires.fact_3 in
    (omega (arith, r.top), (r.room_a, (r.room_b, r.room_p)))

pub functions-requires : goal.functions-requires
functions-requires c =
    let r = c.requires.fact_3 in
    record { fact_1 = r.top; fact_2 = omega (arith, r.room_p, c.compute_short.ensures.long); fact_3 = r.room_functions }

pub overflow_mul-v : goal.overflow_mul-v
overflow_mul-v c =
    let at = integrals_at c.args.v (omega arith) c.requires.fact_2 c.requires.fact_1 in
    omega (arith, at.small)

pub products-requires : goal.products-requires
products-requires c =
    let r = c.requires.fact_3 in
    let at = integrals_at c.args.v (omega arith) c.requires.fact_2 c.requires.fact_1 in
    record { fact_1 = r.top; fact_2 = at.of_s; fact_3 = at.of_c; fact_4 = r.room_products }

pub offset_bounds-weights-v : goal.offset_bounds-weights-v
offset_bounds-weights-v c =
    omega (arith, c.requires.fact_1, c.requires.fact_2.few)

pub bounds-weights-v : goal.bounds-weights-v
bounds-weights-v c = omega (arith, c.requires.fact_2.of_weights)

pub add_node-requires : goal.add_node-requires
add_node-requires c =
    let r = c.requires.fact_3 in
    let e = c.basis_size-n.ensures.fact_1 in
    let w = width_is c.args.lmax in record { lmax_bound_1 = r.top; lmax_bound_2 = e; lmax_bound_3 = w; lmax_bound_4 = omega (arith, e, r.room_functions, c.functions.ensures.long); lmax_bound_5 = omega (arith, ap (λ (c : ℕ). c * c) w, r.room_products, c.products.ensures.long); n_in_bounds = omega (arith, ap (λ (c : ℕ). c * c) e, r.room_matrix) }

pub returns : goal.returns
returns c =
    let r = c.requires.fact_3 in
    let table = table_is _ _ c.args.v r.of_a r.of_b r.room_a r.room_b c.latitude_of-latitude.ensures.fact_1 c.latitude_of-latitude.ensures.fact_2 c.compute_short.ensures in record { filled = node_added_lem _ _ _ _ _ _ _ c.if-marks-v-eq0.false r.room_p r.room_functions r.room_products c.basis_size-n.ensures.fact_1 table c.functions.ensures c.products.ensures c.add_node.ensures; p_len_unchanged_1 = c.compute_short.ensures.long; p_len_unchanged_2 = c.functions.ensures.long; p_len_unchanged_3 = c.products.ensures.long }
