-- `product_row` meets its contract: the first j products of each column are added. Assumes nothing.
use Rattle.number.specs.Identities.{times_one}
use Rattle.caps.specs.Quotients.{row_sum, row_none, row_more, row_all}
use Rattle.storage.specs.Filled.{Filled, filled_self, filled_again}
use native.Mathlib.Nat.{le_refl, mul-le-mul_right}
use native.Mathlib.Omega.{arith}
use mathlib.Core.Path.{◌≡◌, refl, ◌∙◌}
use Prim.Native.Nat.{◌+◌, ◌-◌, ◌*◌, ◌≤◌}
use lib.ListN.{length}
use Rattle.caps.proofs.quotients.product_row.Goals as goal

pub loop-j-init : goal.loop-j-init
loop-j-init c = (
  omega arith,
  omega arith,
  row_none c.args.k
      c.args.row
      c.args.vectors.now
      c.args.work.now (filled_self c.clear.ensures),
)

pub offset_bounds-vectors-at : goal.offset_bounds-vectors-at
offset_bounds-vectors-at c = let up = mul-le-mul_right c.args.k
    c.loop-j-test.true in omega
    (arith, up, c.loop-j.invariant.1, c.requires.fact_3)

pub slice_bounds-add_row-count : goal.slice_bounds-add_row-count
slice_bounds-add_row-count c = let up = mul-le-mul_right c.args.k
    c.loop-j-test.true in omega
    (arith, up, c.loop-j.invariant.1, c.requires.fact_3)

pub add_row-requires : goal.add_row-requires
add_row-requires c =
    let up = mul-le-mul_right c.args.k c.loop-j-test.true in record {
      fact_1 = omega (arith, up, c.loop-j.invariant.1, c.requires.fact_3);
      fact_2 = omega (
        arith,
        c.loop-j.invariant.2.long,
        c.clear.ensures.long,
        c.requires.fact_4,
      );
    }

pub overflow_add-at : goal.overflow_add-at
overflow_add-at c =
    let up = mul-le-mul_right c.args.k c.loop-j-test.true in omega
    (arith, up, c.loop-j.invariant.1, c.requires.fact_3)

pub loop-j-preserved : goal.loop-j-preserved
loop-j-preserved c =
    let up = mul-le-mul_right c.args.k c.loop-j-test.true in (
      omega arith,
      omega (arith, c.loop-j.invariant.1),
      row_more c.args.k c.args.row c.args.vectors.now
          c.args.work.now c.loop-j.j
          c.loop-j.at (length
          c.args.vectors.now - c.loop-j.at)
          c.loop-j.invariant.1 (omega
          (arith, up, c.loop-j.invariant.1, c.requires.fact_3))
          (times_one _ (c.type_inv.work (c.args.row + c.loop-j.j)))
          (omega (
            arith,
            c.clear.ensures.long,
            c.requires.fact_4,
          )) c.loop-j.invariant.2 c.add_row.ensures,
    )

pub returns : goal.returns
returns c =
    let e : c.loop-j.j ≡ c.args.k = omega arith in
    filled_again c.clear.ensures (row_all
    c.args.k
    c.args.row
    c.args.vectors.now
    c.args.work.now e c.loop-j.invariant.2) (le_refl
    c.args.k)
