-- `solve::write` meets its contract: the places are ranked by the values. Assumes nothing.
use native.Mathlib.Omega.{arith}
use mathlib.Core.Path.{refl, sym}
use borrow.Author.Rules.{rules}
use lib.Seq.{length-take-le}
use lib.ListN.{take}
use Rattle.ranking.specs.Places.{ranked_places}
use Rattle.ranking.specs.RankedIn.{RankedIn, ranked_in}
use Rattle.region_nodes.specs.NodeLaws.{degree_within}
use Rattle.region.specs.Written.{picked_values, picked_vectors}
use Rattle.region.proofs.solve.write.Goals as goal

pub slice_bounds-rank-end : goal.slice_bounds-rank-end
slice_bounds-rank-end c = sym (length-take-le _ _ c.requires.lmax_bound_4)

pub rank-requires : goal.rank-requires
rank-requires c =
    let d = degree_within 0 c.args.lmax (omega arith) c.requires.lmax_bound_1 in
    let l = length-take-le c.args.n c.args.values.now c.requires.lmax_bound_4 in
    record { fact_1 = omega (arith, d, l, c.requires.lmax_bound_2); fact_2 = omega (arith, d, l, c.requires.lmax_bound_2); fact_3 = omega (arith, d, l, c.requires.lmax_bound_2) }

pub write_values-requires : goal.write_values-requires
write_values-requires c =
    record { fact_1 = (let d = degree_within 0 c.args.lmax (omega arith) c.requires.lmax_bound_1 in ranked_in c.args.n 0 c.args.n c.args.values.now refl (omega (arith, c.requires.lmax_bound_4)) c.rank.ensures.filled (omega (arith, d, c.requires.lmax_bound_2))).valid; fact_2 = c.requires.lmax_bound_4; fact_3 = c.requires.n_in_bounds_1 }

pub write_functions-requires : goal.write_functions-requires
write_functions-requires c =
    let p = c.requires in
    record { lmax_bound_1 = p.lmax_bound_1; lmax_bound_2 = p.lmax_bound_2; lmax_bound_3 = p.lmax_bound_3; lmax_bound_4 = (let d = degree_within 0 c.args.lmax (omega arith) c.requires.lmax_bound_1 in ranked_in c.args.n 0 c.args.n c.args.values.now refl (omega (arith, c.requires.lmax_bound_4)) c.rank.ensures.filled (omega (arith, d, c.requires.lmax_bound_2))).valid; lmax_bound_5 = p.lmax_bound_5; table_in_bounds = p.n_in_bounds_2 }

pub write_functions-requires-2 : goal.write_functions-requires-2
write_functions-requires-2 c =
    let p = c.requires in
    record { lmax_bound_1 = p.lmax_bound_1; lmax_bound_2 = p.lmax_bound_2; lmax_bound_3 = p.lmax_bound_3; lmax_bound_4 = (let d = degree_within 0 c.args.lmax (omega arith) c.requires.lmax_bound_1 in ranked_in c.args.n 0 c.args.n c.args.values.now refl (omega (arith, c.requires.lmax_bound_4)) c.rank.ensures.filled (omega (arith, d, c.requires.lmax_bound_2))).valid; lmax_bound_5 = p.lmax_bound_5; table_in_bounds = p.n_in_bounds_3 }

pub returns : goal.returns
returns c =
    let rk = (let d = degree_within 0 c.args.lmax (omega arith) c.requires.lmax_bound_1 in ranked_in c.args.n 0 c.args.n c.args.values.now refl (omega (arith, c.requires.lmax_bound_4)) c.rank.ensures.filled (omega (arith, d, c.requires.lmax_bound_2))) in
    let values = c.write_values.ensures in
    let cosines = c.write_functions.ensures in
    let sines = c.write_functions-2.ensures in
    record { filled = picked_values rk _ values; filled_2 = picked_vectors rk _ _ _ _ cosines; filled_3 = picked_vectors rk _ _ _ _ sines }
