-- `fill_matrix` meets its contract: the sums over the nodes, divided, and the lower half in both. Assumes nothing.
use native.Mathlib.Omega.{arith}
use mathlib.Core.Path.{sym, ap, ◌∙◌}
use Prim.Native.Nat.{ℕ, ◌*◌}
use native.Mathlib.Nat.{mul-le-mul}
use Rattle.storage.specs.Filled.{filled_self}
use Rattle.recursion.specs.Recursion.{a_cell, b_cell}
use Rattle.storage.specs.Triangle.{row_start_zero, rows_from_zero}
use Rattle.regions.specs.Nodes.{array_sizes, region_is}
use borrow.Author.Rules.{rules}
use Rattle.regions.proofs.whole.fill_matrix.Goals as goal

pub a_rows-requires : goal.a_rows-requires
a_rows-requires c =
    let top = c.requires.fact_1.top in
    record { fact_1 = omega arith; fact_2 = sym row_start_zero; fact_3 = omega (arith, top); fact_4 = omega (arith, top); fact_5 = (array_sizes _ top).tables }

pub b_rows-requires : goal.b_rows-requires
b_rows-requires c =
    let top = c.requires.fact_1.top in
    record { fact_1 = omega arith; fact_2 = sym row_start_zero; fact_3 = omega (arith, top); fact_4 = omega (arith, top, c.a_rows.auto.inverse); fact_5 = (array_sizes _ top).tables }

pub add_nodes-requires : goal.add_nodes-requires
add_nodes-requires c =
    let top = c.requires.fact_1.top in
    let sizes = array_sizes _ top in record {
      fact_1 = c.requires.fact_1;
      fact_2 = record {
        top = top;
        of_a = filled_self (rows_from_zero a_cell _ c.a_rows.ensures);
        of_b = filled_self (rows_from_zero b_cell _ c.b_rows.ensures);
        room_a = omega (arith, sizes.tables, c.a_rows.ensures.long);
        room_b = omega (arith, sizes.tables, c.b_rows.ensures.long);
        room_p = sizes.tables;
        room_functions = omega (arith, sizes.functions, c.a_rows.auto.inverse, c.b_rows.auto.ratio);
        room_products = sizes.products;
        room_matrix = c.requires.fact_2;
      };
    }

pub basis_size-n-requires : goal.basis_size-n-requires
basis_size-n-requires c = c.requires.fact_1.top

pub overflow_mul-n : goal.overflow_mul-n
overflow_mul-n c = let h = c.basis_size-n.ensures.fact_2 in omega (arith, mul-le-mul h h)

pub divide-requires : goal.divide-requires
divide-requires c = omega (arith, ap (λ (k : ℕ). k * k) c.basis_size-n.ensures.fact_1, c.requires.fact_2, c.add_nodes.ensures.long)

pub mirror-requires : goal.mirror-requires
mirror-requires c =
    record {
      small = omega (arith, c.basis_size-n.ensures.fact_2);
      long = omega (arith, ap (λ (c : ℕ). c * c) c.basis_size-n.ensures.fact_1, c.requires.fact_2, c.add_nodes.ensures.long, c.divide.ensures.long);
    }

pub returns : goal.returns
returns c = region_is _ _ _ _ _ _ _ c.basis_size-n.ensures.fact_1 c.requires.fact_2 c.add_nodes.ensures c.divide.ensures c.mirror.ensures
