-- `quotients` meets its contract: the rows above row i are added to each column's sum. Assumes nothing.
use Rattle.caps.specs.Quotients.{rows_sum, rows_none, rows_more, rows_all}
use Rattle.storage.specs.Filled.{Filled, filled_self, filled_again}
use native.Mathlib.Nat.{le_refl, mul-le-mul_right}
use native.Mathlib.Omega.{arith}
use mathlib.Core.Path.{◌≡◌, refl, ◌∙◌}
use Prim.Native.Nat.{◌-◌, ◌*◌, ◌≤◌}
use lib.ListN.{length}
use Rattle.caps.proofs.quotients.quotients.Goals as goal

pub loop-i-init : goal.loop-i-init
loop-i-init c = (
  omega arith,
  omega arith,
  refl,
  rows_none c.args.k
      c.args.at
      c.args.vectors.now
      c.args.work.now (filled_self c.clear.ensures),
)

pub overflow_add-at : goal.overflow_add-at
overflow_add-at c = let up = mul-le-mul_right c.args.k
    c.loop-i-test.true in omega (
      arith,
      up,
      c.loop-i.invariant.1,
      c.requires.fact_2,
      c.requires.fact_3,
    )

pub product_row-requires : goal.product_row-requires
product_row-requires c =
    let up = mul-le-mul_right c.args.k
    c.loop-i-test.true in record {
      fact_1 = c.requires.fact_1;
      fact_2 = omega (
        arith,
        up,
        c.loop-i.invariant.1,
        c.requires.fact_2,
      );
      fact_3 = c.requires.fact_3;
      fact_4 = omega (
        arith,
        c.loop-i.invariant.2,
        c.requires.fact_4,
      );
    }

pub add_products-requires : goal.add_products-requires
add_products-requires c =
    let up = mul-le-mul_right c.args.k c.loop-i-test.true in record {
      fact_1 = omega (
        arith,
        c.loop-i.invariant.2,
        c.requires.fact_4,
        c.product_row.ensures.long,
      );
      fact_2 = omega
          (arith, up, c.loop-i.invariant.1, c.requires.fact_3);
      fact_3 = omega (
        arith,
        c.loop-i.invariant.3.long,
        c.clear.ensures.long,
        c.requires.fact_5,
      );
    }

pub overflow_add-row : goal.overflow_add-row
overflow_add-row c =
    let up = mul-le-mul_right c.args.k
    c.loop-i-test.true in omega (
      arith,
      up,
      c.loop-i.invariant.1,
      c.requires.fact_2,
      c.requires.fact_3,
    )

pub loop-i-preserved : goal.loop-i-preserved
loop-i-preserved c = (
  omega arith,
  omega (arith, c.loop-i.invariant.1),
  c.product_row.ensures.long ∙ c.loop-i.invariant.2,
  rows_more c.args.k
      c.args.at
      c.args.vectors.now
      c.args.work.now
      c.loop-i.i
      c.loop-i.row
      c.loop-i.invariant.1
      (omega (
        arith,
        c.loop-i.invariant.2,
        c.requires.fact_4,
      )) (omega
      (arith, c.clear.ensures.long, c.requires.fact_5))
      c.product_row.ensures
      c.loop-i.invariant.3 c.add_products.ensures,
)

pub returns : goal.returns
returns c =
    let e : c.loop-i.i ≡ c.args.k = omega arith in record {
      fact_1 = filled_again c.clear.ensures (rows_all
          c.args.k
          c.args.at
          c.args.vectors.now
          c.args.work.now e c.loop-i.invariant.3) (le_refl
          c.args.k);
      fact_2 = c.loop-i.invariant.2;
    }
