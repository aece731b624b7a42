-- `write_ends` meets its contract: the crossings, and then the ends. Assumes nothing.
use Rattle.polygon.specs.EndsLaws.{crossings_few, ends_made}
use lib.Seq.{length-take-le}
use native.Mathlib.Omega.{arith}
use mathlib.Core.Path.{refl, sym}
use Rattle.polygon.proofs.ends.write_ends.Goals as goal

pub write_crossings-requires : goal.write_crossings-requires
write_crossings-requires c = record { fact_1 = omega (arith, c.requires.fact_1); fact_2 = omega (arith, c.requires.fact_1); fact_3 = omega (arith, c.requires.fact_1) }

pub slice_bounds-rank_rising-end : goal.slice_bounds-rank_rising-end
slice_bounds-rank_rising-end c = let few = crossings_few c.args.v c.args.outline.now c.args.theta in omega (arith, few, c.requires.fact_1, c.write_crossings.ensures.long)

pub slice_bounds-rank_rising-end-2 : goal.slice_bounds-rank_rising-end-2
slice_bounds-rank_rising-end-2 c =
    let few = crossings_few c.args.v c.args.outline.now c.args.theta in
    sym (length-take-le c.args.k c.write_crossings.new.list (omega (arith, few, c.requires.fact_1, c.write_crossings.ensures.long)))

pub rank_rising-requires : goal.rank_rising-requires
rank_rising-requires c =
    let few = crossings_few c.args.v c.args.outline.now c.args.theta in
    let e = length-take-le c.args.k c.write_crossings.new.list (omega (arith, few, c.requires.fact_1, c.write_crossings.ensures.long)) in
    record { fact_1 = omega (arith, few, e, c.requires); fact_2 = omega (arith, few, e, c.requires); fact_3 = omega (arith, few, e, c.requires); fact_4 = omega (arith, few, e, c.requires); fact_5 = omega (arith, few, e, c.requires) }

pub returns : goal.returns
returns c = ends_made c.requires.fact_1 refl c.write_crossings.ensures c.rank_rising.ensures
