-- `cap::concentrations_of` meets its contract. Assumes nothing.
use native.Mathlib.Omega.{arith}
use mathlib.Core.Path.{◌∙◌}
use Rattle.polar_cap.specs.CapOrder.{quotients_made}
use Rattle.polar_cap.specs.CapStorage.{apart_filled}
use Rattle.polar_cap.proofs.cap.concentrations_of.Goals as goal

pub concentration-requires : goal.concentration-requires
concentration-requires c =
    let p = c.requires in record { sectoral_value_1 = p.m_le_lmax_3; sectoral_value_2 = p.m_le_lmax_4; sectoral_value_3 = p.m_le_lmax_5; sectoral_value_4 = p.tables_in_1; sectoral_value_5 = omega (arith, p.m_le_lmax_1, p.m_le_lmax_2); lmax_in_bounds_1 = p.tables_in_2; lmax_in_bounds_2 = p.tables_in_3; lmax_in_bounds_3 = p.tables_in_4; lmax_in_bounds_4 = p.filled_1 }

pub quotients-requires : goal.quotients-requires
quotients-requires c =
    let p = c.requires in
    let room = p.m_le_lmax_5 in
    let long = c.concentration.ensures.fact_1.long in
    let same = c.concentration.ensures.fact_2 in record {
      fact_1 = omega (arith, room.small);
      fact_2 = omega (arith, room.matrix, long);
      fact_3 = p.filled_3;
      fact_4 = omega
          (arith, room.column, same);
      fact_5 = p.tables_in_5;
    }

pub returns : goal.returns
returns c =
    let p = c.requires in
    let a = c.args in record {
      fact_1 = quotients_made a.lmax a.m a.x0 (omega (arith, p.m_le_lmax_2))
          c.requires.filled_2
          p.filled_3 a.weights.now a.latitudes.now c.concentration.ensures.fact_1 p.m_le_lmax_5.matrix
          c.quotients.ensures.fact_1;
      fact_2 = apart_filled c.concentration.ensures.fact_1;
    }
