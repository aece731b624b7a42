-- `add_degree` meets its contract: what its calls promise, one after the other. Assumes nothing.
use native.Mathlib.Omega.{arith}
use mathlib.Core.Path.{ap, ◌∙◌}
use Rattle.second_sums.specs.declared.SecondRow.{SecondRow}
use Rattle.second_sums.specs.Sums.{with_row}
use Rattle.second_sums.proofs.add_degree.Goals as goal

pub next_pairs-requires : goal.next_pairs-requires
next_pairs-requires c = record { fact_1 = omega (arith, c.requires); fact_2 = omega (arith, c.requires); fact_3 = omega (arith, c.requires); fact_4 = omega (arith, c.requires) }

pub row_sums-row-requires : goal.row_sums-row-requires
row_sums-row-requires c = record { n_bound_1 = omega (arith, c.requires, c.next_pairs.ensures.long); n_bound_2 = omega (arith, c.requires, c.next_pairs.ensures.long); n_bound_3 = omega (arith, c.requires, c.next_pairs.ensures.long); n_bound_4 = omega (arith, c.requires, c.next_pairs.ensures.long); n_in_bounds_1 = omega (arith, c.requires, c.next_pairs.ensures.long); n_in_bounds_2 = omega (arith, c.requires, c.next_pairs.ensures.long); n_in_bounds_3 = omega (arith, c.requires, c.next_pairs.ensures.long) }

pub add_row-requires : goal.add_row-requires
add_row-requires c = omega (arith, c.requires)

pub returns : goal.returns
returns c =
    let a = c.args in
    record { filled = c.next_pairs.ensures; value = c.add_row.ensures ∙ ap (λ (y : SecondRow). with_row a.n a.q y a.sums) c.row_sums-row.ensures }
