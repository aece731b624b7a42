-- `concentration` meets its contract: the nodes below i are added. Assumes nothing.
use Rattle.caps.specs.Nodes.{nodes_none, nodes_more, nodes_all, tables_kept, room_kept}
use Rattle.storage.specs.Filled.{filled_self, filled_in, filled_again}
use Rattle.number.specs.Float64.{◌⊗◌}
use native.Mathlib.Nat.{zero-add, le_refl}
use lib.ListN.{get_or}
use lib.Ieee.{Float, nan}
use native.Mathlib.Omega.{arith}
use mathlib.Core.Path.{refl, sym, ap, ◌∙◌}
use Prim.Native.Nat.{◌*◌}
use Rattle.caps.proofs.nodes.concentration.Goals as goal

pub clear-requires : goal.clear-requires
clear-requires c =
    let r = c.requires.sectoral_value_3 in
    record { fact_1 = omega (arith, r.small); fact_2 = r.matrix }

pub loop-i-init : goal.loop-i-init
loop-i-init c = (
  omega arith,
  refl,
  nodes_none c.args.lmax
      c.args.m
      c.args.k
      c.args.total
      c.args.at
      c.args.x0
      c.args.weights.now
      c.args.latitudes.now (filled_self
      c.clear.ensures),
)

pub node-requires : goal.node-requires
node-requires c =
    let r = c.requires.sectoral_value_3 in record {
      fact_1 = c.requires.sectoral_value_1;
      fact_2 = c.requires.sectoral_value_2;
      fact_3 = room_kept r
          c.loop-i.invariant.1
          (c.loop-i.invariant.2.long ∙ c.clear.ensures.long);
    }

pub loop-i-preserved : goal.loop-i-preserved
loop-i-preserved c =
    let a = c.args in
    let r = c.requires.sectoral_value_3 in
    let tables =
    tables_kept a.lmax a.m a.k a.total a.at a.x0 a.weights.now a.latitudes.now
    (tables_kept a.lmax a.m a.k a.total a.at a.x0 a.weights.now a.latitudes.now c.requires.sectoral_value_4 r.behind
    c.clear.ensures)
    r.behind c.loop-i.invariant.2 in
    let x = filled_in {j = c.loop-i.i} nan
    c.requires.lmax_in_bounds_4 (omega arith) (sym (zero-add
    c.loop-i.i)) (omega arith) in (
      omega arith,
      c.node.ensures.fact_2 ∙ c.loop-i.invariant.1,
      nodes_more a.lmax a.m a.k a.total a.at a.x0 a.weights.now a.latitudes.now
          c.loop-i.i
          c.loop-i.invariant.2
          (omega (arith, r.matrix, c.clear.ensures.long)) tables c.requires.sectoral_value_5 c.latitude_of-latitude.ensures.fact_1 x (ap (λ (v : Float). v ⊗ get_or
          a.weights.now c.loop-i.i nan)
          c.factor-factor.ensures)
          c.node.ensures.fact_1,
    )

pub returns : goal.returns
returns c =
    let a = c.args in record {
      fact_1 = filled_again c.clear.ensures
          (nodes_all a.lmax a.m a.k a.total a.at a.x0 a.weights.now a.latitudes.now (omega arith)
          c.loop-i.invariant.2) (le_refl (a.k * a.k));
      fact_2 = c.loop-i.invariant.1;
    }
