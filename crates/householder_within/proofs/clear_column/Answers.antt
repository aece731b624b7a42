-- `clear_column` meets its contract. Assumes nothing.
use native.Mathlib.Omega.{arith}
use mathlib.Core.Path.{refl}
use Prim.Native.Nat.{◌-◌}
use lib.ListN.{length}
use Rattle.matrix.specs.Layout.{kept_none}
use Rattle.householder_within.specs.Within.{cleared_none_within, cleared_within}
use borrow.Author.Rules.{rules}
use Rattle.householder_within.proofs.clear_column.Goals as goal

pub returns-then-size : goal.returns-then-size
returns-then-size c =
    let a = c.args in
    let size = c.norm-size in record { fact_1 = cleared_none_within a.n a.k a.at a.w.now c.row-column.ensures.is (omega (arith, c.requires)) size.ensures c.if-size.true; fact_2 = kept_none }

pub returns : goal.returns
returns c =
    let accumulate = c.accumulate in
    let reflect = c.reflect in
    let row = c.row-column in
    let a = c.args in
    let w = reflect.new.w in
    let p = cleared_within a.n a.k a.at a.w.now row.ensures.is (omega (arith, c.requires)) c.norm-size.ensures (length w - a.at) w
    accumulate.new.q c.if-size.false c.householder_vector.ensures (omega (arith, c.requires)) reflect.ensures.fact_1
    reflect.ensures.fact_2 accumulate.ensures.fact_1 accumulate.ensures.fact_2 refl c.requires.fact_4 in
    record { fact_1 = p.0; fact_2 = p.1 }
