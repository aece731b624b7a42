-- `workspace::analysis_in` meets its contract: the sums over the rows, then the division. Assumes nothing.
use Rattle.analysis.specs.Promise.{made}
use Rattle.functional.specs.Factor.{factor_of}
use native.Mathlib.Omega.{arith}
use Rattle.analysis.proofs.workspace.analysis_in.Goals as goal

pub sum_rows-requires : goal.sum_rows-requires
sum_rows-requires c =
    let q = c.requires in
    record { accepted = q.accepted; nmax_in_bounds_1 = q.nmax_in_bounds_2; nmax_in_bounds_2 = q.nmax_in_bounds_3; nmax_in_bounds_3 = q.nmax_in_bounds_4; nmax_in_bounds_4 = q.nmax_in_bounds_2_1; nmax_in_bounds_5 = q.nmax_in_bounds_2_2 }

pub divide-requires : goal.divide-requires
divide-requires c =
    let q = c.requires in
    let k = q.accepted in
    let e = c.sum_rows.ensures in
    record { fact_1 = k.top; fact_2 = q.nmax_in_bounds_1; fact_3 = omega (arith, k.room_c, e.of_c.long); fact_4 = omega (arith, k.room_s, e.of_s.long) }

pub returns : goal.returns
returns c =
    let a = c.args in
    let k = c.requires.accepted in
    let g = factor_of a.functional a.love.now a.gm a.radius a.r in
    let e = c.sum_rows.ensures in
    let dc = c.divide.ensures.filled in let ds = c.divide.ensures.filled_2 in
    made a.values.now a.weights.now a.latitudes.now a.trig.now a.nmax g e dc ds k.room_c k.room_s
