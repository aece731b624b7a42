-- `add_node` meets its contract: the rows above row i are added. Assumes nothing.
use Rattle.caps.specs.Nodes.{added_node, node_more}
use Rattle.storage.specs.Filled.{Filled, filled_none, filled_to}
use Rattle.storage.specs.Rectangle.{by_rows}
use native.Mathlib.Nat.{mul-le-mul_right}
use native.Mathlib.Omega.{arith}
use mathlib.Core.Path.{◌≡◌, ap}
use Prim.Native.Nat.{ℕ, ◌+◌, ◌-◌, ◌*◌, ◌≤◌}
use Rattle.caps.proofs.nodes.add_node.Goals as goal

pub loop-i-init : goal.loop-i-init
loop-i-init c = (omega arith, omega arith, filled_to filled_none (omega arith))

pub add_row-requires : goal.add_row-requires
add_row-requires c =
    let up = mul-le-mul_right c.args.k c.loop-i-test.true in
    record { fact_1 = omega arith; fact_2 = omega (arith, up, c.loop-i.invariant.1, c.loop-i.invariant.2.long) }

pub overflow_add-row : goal.overflow_add-row
overflow_add-row c = let up = mul-le-mul_right c.args.k
    c.loop-i-test.true in omega (
      arith,
      up,
      c.loop-i.invariant.1,
      c.loop-i.invariant.2.long,
    )

pub loop-i-preserved : goal.loop-i-preserved
loop-i-preserved c = (
  omega arith,
  omega (arith, c.loop-i.invariant.1),
  node_more _ _ _ _ _ _
      c.loop-i.invariant.1 c.loop-i.invariant.2
      c.add_row.ensures,
)

pub returns : goal.returns
returns c =
    let e : c.loop-i.i ≡ c.args.k = omega arith in
    filled_to c.loop-i.invariant.2 (ap (λ (j : ℕ). j * c.args.k) e)
