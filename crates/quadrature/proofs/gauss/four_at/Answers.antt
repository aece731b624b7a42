-- `gauss::four_at` meets its contract. Assumes nothing.
use native.Mathlib.Omega.{arith}
use mathlib.Core.Path.{◌∙◌}
use lib.Ieee.{nan}
use Rattle.storage.specs.Elements.{from}
use Rattle.quadrature.specs.Gauss.{upper_node, upper_weight}
use Rattle.quadrature.specs.GaussLaws.{root_node, root_weight}
use native.Mathlib.Omega.{arith}
use mathlib.Core.Path.{◌∙◌}
use borrow.Author.Rules.{rules}
use Rattle.quadrature.proofs.gauss.four_at.Goals as goal

pub store_four-requires-2 : goal.store_four-requires-2
store_four-requires-2 c = c.requires.fact_4

pub returns : goal.returns
returns c =
    let a = c.args in
    let g = from a.at a.guesses.now nan in
    let r = c.four_roots-r.ensures in
    let v = c.four_weights.ensures in record {
      filled = c.store_four.ensures.filled_by (upper_node g a.n)
          (root_node _ _ _ 0 (omega arith) r.fact_1) (root_node _ _ _ 1 (omega arith) r.fact_2)
          (root_node _ _ _ 2 (omega arith) r.fact_3) (root_node _ _ _ 3 (omega arith) r.fact_4);
      filled_2 = c.store_four-2.ensures.filled_by (upper_weight g a.n)
          (v.0 ∙ root_weight _ _ _ 0 (omega arith) r.fact_1) (v.1.0 ∙ root_weight _ _ _ 1 (omega arith) r.fact_2)
          (v.1.1.0 ∙ root_weight _ _ _ 2 (omega arith) r.fact_3) (v.1.1.1 ∙ root_weight _ _ _ 3 (omega arith) r.fact_4);
    }
