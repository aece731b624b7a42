-- `points::powers` meets its contract: the powers are lent their part. Assumes nothing.
use Rattle.second_partials.specs.Working.{powers_within}
use Rattle.storage.specs.Filled.{filled_part, filled_at}
use native.Mathlib.Omega.{arith}
use Prim.Native.Nat.{◌+◌, ◌-◌}
use lib.ListN.{length}
use Rattle.second_partials.proofs.points.powers.Goals as goal

pub overflow_add-at : goal.overflow_add-at
overflow_add-at c = omega (arith, powers_within c.args.nmax c.requires.fact_1, c.requires, c.well_formed)

pub overflow_add-at-2 : goal.overflow_add-at-2
overflow_add-at-2 c = omega (arith, powers_within c.args.nmax c.requires.fact_1, c.requires, c.well_formed)

pub overflow_add-at-4 : goal.overflow_add-at-4
overflow_add-at-4 c = omega (arith, powers_within c.args.nmax c.requires.fact_1, c.requires, c.well_formed)

pub offset_bounds-work-at : goal.offset_bounds-work-at
offset_bounds-work-at c = omega (arith, powers_within c.args.nmax c.requires.fact_1, c.requires, c.well_formed)

pub slice_bounds-rescales-count : goal.slice_bounds-rescales-count
slice_bounds-rescales-count c = omega (arith, powers_within c.args.nmax c.requires.fact_1, c.requires)

pub slice_bounds-rescales-start : goal.slice_bounds-rescales-start
slice_bounds-rescales-start c = omega (arith, powers_within c.args.nmax c.requires.fact_1, c.requires)

pub rescales-requires : goal.rescales-requires
rescales-requires c = omega (arith, powers_within c.args.nmax c.requires.fact_1, c.requires)

pub returns : goal.returns
returns c =
    let a = c.args in
    let h = c.requires in
    let room = powers_within a.nmax h.fact_1 in
    let at = a.total + a.total + a.total + (a.nmax + 1) in
    let l = a.work.now in
    filled_at (filled_part at (length l - at) l c.rescales.ensures (omega (arith, room, h))) (omega (arith, h))
