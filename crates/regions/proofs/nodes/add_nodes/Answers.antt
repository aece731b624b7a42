-- `add_nodes` meets its contract: the nodes below v are added. Assumes nothing.
use native.Mathlib.Omega.{arith}
use mathlib.Core.Path.{refl, ap, ◌∙◌}
use Prim.Native.Nat.{ℕ, ◌*◌}
use native.Mathlib.Nat.{mul-le-mul}
use Rattle.region_nodes.specs.Basis.{basis_size}
use Rattle.regions.specs.Nodes.{arrays_kept, nodes_none, nodes_more, nodes_all}
use Rattle.regions.proofs.nodes.add_nodes.Goals as goal

pub overflow_mul-n : goal.overflow_mul-n
overflow_mul-n c = let h = c.basis_size-n.ensures.fact_2 in omega (arith, mul-le-mul h h)

pub clear-requires : goal.clear-requires
clear-requires c = omega (arith, c.requires.fact_2.room_matrix, ap (λ (k : ℕ). k * k) c.basis_size-n.ensures.fact_1)

pub loop-v-init : goal.loop-v-init
loop-v-init c = (omega arith, refl, refl, refl, nodes_none _ _ _ _ _ _ c.basis_size-n.ensures.fact_1 c.clear.ensures)

pub node-requires : goal.node-requires
node-requires c =
    record { fact_1 = c.loop-v-test.true; fact_2 = c.requires.fact_1; fact_3 = arrays_kept c.requires.fact_2 c.loop-v.invariant.1 c.loop-v.invariant.2 c.loop-v.invariant.3 (c.loop-v.invariant.4.long ∙ c.clear.ensures.long) }

pub loop-v-preserved : goal.loop-v-preserved
loop-v-preserved c = (
  omega (arith, c.loop-v-test.true),
  c.node.ensures.p_len_unchanged_1 ∙ c.loop-v.invariant.1,
  c.node.ensures.p_len_unchanged_2 ∙ c.loop-v.invariant.2,
  c.node.ensures.p_len_unchanged_3 ∙ c.loop-v.invariant.3,
  nodes_more _ _ _ _ _ _ c.loop-v.v (omega (arith, c.requires.fact_2.room_matrix, c.clear.ensures.long)) c.loop-v.invariant.4 c.node.ensures.filled,
)

pub returns : goal.returns
returns c = nodes_all _ _ _ _ _ _ c.basis_size-n.ensures.fact_1 (omega (arith, c.loop-v.invariant.0, c.loop-v-test.false)) c.clear.ensures c.loop-v.invariant.4
