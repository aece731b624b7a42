-- `nodes::add_nodes` meets its contract: the nodes below v are added, and the tables of the recursion stand. Assumes nothing.
use Rattle.basin_kernel.specs.NodeLaws.{sums_none, sums_more}
use Rattle.matrix.specs.Layout.{kept_none, kept_then}
use mathlib.Core.Bool.{true, false}
use native.Mathlib.Omega.{arith}
use mathlib.Core.Path.{◌≡◌, refl, ◌∙◌}
use Rattle.basin_kernel.proofs.nodes.add_nodes.Goals as goal

pub loop-v-init : goal.loop-v-init
loop-v-init c =
    let pre = c.requires in
    (omega arith, refl, refl, pre.node_lists_to_2, kept_none, sums_none _ _ _ _ _ _ false c.requires.filled_1, sums_none _ _ _ _ _ _ true c.requires.filled_2)

pub add_node-requires : goal.add_node-requires
add_node-requires c =
    let pre = c.requires in
    let loop = c.loop-v in
    let long-c = loop.invariant.5.long in
    let long-s = loop.invariant.6.long in
    record {
      v_lt_nodes_1 = c.loop-v-test.true;
      v_lt_nodes_2 = pre.node_lists_to_1;
      v_lt_nodes_3 = loop.invariant.3;
      lmax_in_bounds_1 = omega arith;
      lmax_in_bounds_2 = omega arith;
      lmax_in_bounds_3 = omega arith;
      lmax_in_bounds_4 = omega arith;
    }

pub loop-v-smaller : goal.loop-v-smaller
loop-v-smaller c =
    let test = c.loop-v-test.true in
    omega arith

pub loop-v-preserved : goal.loop-v-preserved
loop-v-preserved c =
    let pre = c.requires in
    let loop = c.loop-v in
    let test = c.loop-v-test.true in
    let x = c.add_node.ensures.filled in let y = c.add_node.ensures.filled_2 in let tables = c.add_node.ensures.tables_in_1 in let kept = c.add_node.ensures.tables_in_2 in let even = c.add_node.ensures.tables_in_3 in let odd = c.add_node.ensures.tables_in_4 in
    let size = pre.node_lists_to_2.size in (
      omega arith,
      even ∙ loop.invariant.1,
      odd ∙ loop.invariant.2,
      tables,
      kept_then loop.invariant.4 kept,
      sums_more _ _ _ _ _ _ false loop.v (omega arith) loop.invariant.5 x,
      sums_more _ _ _ _ _ _ true loop.v (omega arith) loop.invariant.6 y,
    )

pub returns : goal.returns
returns c =
    let loop = c.loop-v in
    let e : loop.v ≡ c.args.nodes = omega arith in
    record { filled_2 = rw (← e) loop.invariant.5; filled_3 = rw (← e) loop.invariant.6; kept = loop.invariant.4 }
