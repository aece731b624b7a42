-- `columns::product` meets its contract. Assumes nothing.
use native.Mathlib.Omega.{arith}
use borrow.Author.Rules.{rules}
use native.Mathlib.Nat.{le_refl}
use Rattle.storage.specs.Filled.{filled_self, filled_again}
use Rattle.householder.proofs.columns.product.Goals as goal

pub one_by_one-requires : goal.one_by_one-requires
one_by_one-requires c =
    let fours = c.by_fours-next in
    let pre = c.requires in
    let r = fours.ensures in
    record { lo_le_next_1 = r.fact_1; lo_le_next_2 = r.fact_2; lo_le_next_3 = pre.fact_2; lo_le_next_4 = pre.fact_3; lo_le_next_5 = omega (arith, r.fact_3.long, pre.fact_4); filled = filled_self r.fact_3 }

pub returns : goal.returns
returns c = filled_again c.by_fours-next.ensures.fact_3 c.one_by_one.ensures (le_refl _)
