-- `grunbaum` meets its contract: the rows above row i are written. Assumes nothing.
use Rattle.caps.specs.Caps.{grunbaum_cell}
use Rattle.storage.specs.Filled.{Filled, filled_none, filled_to}
use Rattle.storage.specs.Rectangle.{by_rows, by_rows_more}
use native.Mathlib.Nat.{mul-le-mul_right}
use native.Mathlib.Omega.{arith}
use mathlib.Core.Path.{◌≡◌, refl, ap}
use Prim.Native.Nat.{ℕ, ◌-◌, ◌*◌, ◌≤◌}
use Rattle.caps.proofs.grunbaum.grunbaum.Goals as goal

pub loop-i-init : goal.loop-i-init
loop-i-init c = (omega arith, omega arith, filled_to filled_none (omega arith))

pub row-requires : goal.row-requires
row-requires c =
    let up = mul-le-mul_right c.args.k c.loop-i-test.true in record {
      fact_1 = c.requires.fact_1;
      fact_2 = c.loop-i-test.true;
      fact_3 = c.requires.fact_2;
      fact_4 = omega
          (arith, up, c.loop-i.invariant.1, c.loop-i.invariant.2.long, c.requires.fact_3);
    }

pub overflow_add-at : goal.overflow_add-at
overflow_add-at c = let up = mul-le-mul_right c.args.k
    c.loop-i-test.true in omega
    (arith, up, c.loop-i.invariant.1, c.loop-i.invariant.2.long)

pub loop-i-preserved : goal.loop-i-preserved
loop-i-preserved c = (
  omega arith,
  omega (arith, c.loop-i.invariant.1),
  by_rows_more _ _
      c.loop-i.i c.loop-i.invariant.2
      c.row.ensures refl c.loop-i.invariant.1,
)

pub returns : goal.returns
returns c =
    let e : c.loop-i.i ≡ c.args.k = omega arith in
    filled_to c.loop-i.invariant.2 (ap (λ (j : ℕ). j * c.args.k) e)
