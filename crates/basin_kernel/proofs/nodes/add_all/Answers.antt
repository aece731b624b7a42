-- `add_all` meets its contract: the sums over the nodes, divided. Assumes nothing.
use Rattle.basin_kernel.specs.NodeLaws.{kernel_is}
use mathlib.Core.Bool.{true, false}
use native.Mathlib.Omega.{arith}
use Rattle.basin_kernel.proofs.nodes.add_all.Goals as goal

pub add_nodes-requires : goal.add_nodes-requires
add_nodes-requires c =
    let pre = c.requires in
    let top = pre.node_lists_to_1.top in
    let size = pre.node_lists_to_2.size in
    record {
      node_lists_to_1 = pre.node_lists_to_1;
      node_lists_to_2 = pre.node_lists_to_2;
      lmax_in_bounds_1 = omega arith;
      lmax_in_bounds_2 = omega arith;
      lmax_in_bounds_3 = omega arith;
      lmax_in_bounds_4 = omega arith;
      filled_1 = pre.filled_1;
      filled_2 = pre.filled_2;
    }

pub divide-requires : goal.divide-requires
divide-requires c = let pre = c.requires in let size = pre.node_lists_to_2.size in let long = c.add_nodes.ensures.filled_2.long in omega arith

pub divide-requires-2 : goal.divide-requires-2
divide-requires-2 c = let pre = c.requires in let size = pre.node_lists_to_2.size in let long = c.add_nodes.ensures.filled_3.long in omega arith

pub returns : goal.returns
returns c =
    let pre = c.requires in
    let size = pre.node_lists_to_2.size in
    let x = c.add_nodes.ensures.filled_2 in let y = c.add_nodes.ensures.filled_3 in let kept = c.add_nodes.ensures.kept in record { filled_2 = kernel_is _ _ _ _ _ _ false c.args.nodes size pre.node_lists_to_3 x c.divide.ensures; filled_3 = kernel_is _ _ _ _ _ _ true c.args.nodes size pre.node_lists_to_4 y c.divide-2.ensures; kept = kept }
