-- `clear_column` meets its contract. Assumes nothing.
use native.Mathlib.Omega.{arith}
use borrow.Author.Rules.{rules}
use Rattle.matrix.specs.Layout.{kept_none}
use Rattle.householder.specs.ReflectionLaws.{cleared_none, cleared}
use Rattle.householder.proofs.clear_column.Goals as goal

pub returns-then-size : goal.returns-then-size
returns-then-size c =
    let if1 = c.if-size in
    let norm = c.norm-size in
    let row = c.row-at in
    let pre = c.requires in record { q_after = cleared_none _ _ _ _ row.ensures.is (omega (arith, pre)) norm.ensures if1.true; kept_1 = kept_none; kept_2 = kept_none }

pub returns : goal.returns
returns c =
    let accumulate = c.accumulate in
    let reflect = c.reflect in
    let vector = c.householder_vector in
    let if1 = c.if-size in
    let norm = c.norm-size in
    let row = c.row-at in
    let pre = c.requires in record {
      q_after = cleared _ _ _ _ row.ensures.is (omega (arith, pre)) norm.ensures if1.false vector.ensures (omega (arith, pre))
          reflect.ensures.fact_1 accumulate.ensures.fact_1;
      kept_1 = reflect.ensures.fact_2;
      kept_2 = accumulate.ensures.fact_2;
    }
