-- `node` meets its contract. Assumes nothing.
use Rattle.caps.specs.Nodes.{node_is}
use native.Mathlib.Omega.{arith}
use borrow.Author.Rules.{rules}
use Rattle.caps.proofs.nodes.node.Goals as goal

pub column-requires : goal.column-requires
column-requires c =
    let r = c.requires.fact_3 in
    record { fact_1 = c.requires.fact_1; fact_2 = c.requires.fact_2; fact_3 = r.column; fact_4 = omega (arith, r.small); fact_5 = r.tables }

pub add_node-requires : goal.add_node-requires
add_node-requires c =
    let r = c.requires.fact_3 in
    record { fact_1 = omega (arith, r.small); fact_2 = omega (arith, r.column, c.column.ensures.long); fact_3 = r.matrix }

pub returns : goal.returns
returns c =
    record {
      fact_1 = node_is _ _ _ _ _ _ _ c.column.ensures c.requires.fact_3.column
          c.add_node.ensures;
      fact_2 = c.column.ensures.long;
    }
