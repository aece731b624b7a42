-- `breaks_in` meets its contract: the colatitudes, and then what is kept of them. Assumes nothing.
use Rattle.polygon.specs.BreaksLaws.{colatitudes_front, breaks_are}
use lib.Seq.{length-take-le}
use native.Mathlib.Omega.{arith}
use mathlib.Core.Path.{sym}
use Rattle.polygon.proofs.colatitudes.breaks_in.Goals as goal

pub slice_bounds-rank_distinct-end : goal.slice_bounds-rank_distinct-end
slice_bounds-rank_distinct-end c = omega (arith, c.write_colatitudes.ensures.long)

pub slice_bounds-rank_distinct-end-2 : goal.slice_bounds-rank_distinct-end-2
slice_bounds-rank_distinct-end-2 c = sym (length-take-le c.args.v c.write_colatitudes.new.keys (omega (arith, c.write_colatitudes.ensures.long)))

pub rank_distinct-requires : goal.rank_distinct-requires
rank_distinct-requires c =
    let e = length-take-le c.args.v c.write_colatitudes.new.keys (omega (arith, c.write_colatitudes.ensures.long)) in
    record { fact_1 = omega (arith, e); fact_2 = omega (arith, e); fact_3 = omega (arith, e) }

pub returns : goal.returns
returns c =
    let e = breaks_are c.args.v c.args.outline.now (colatitudes_front c.args.v c.args.outline.now c.write_colatitudes.ensures (omega arith)) in
    record { value = rw e at c.rank_distinct.ensures.value; out_after = rw e at c.rank_distinct.ensures.out_after }
