-- `add_degrees` meets its contract: the degrees below n are added, and the last two rows of the recursion are at hand. Assumes nothing.
use Rattle.second_sums.specs.Sums.{degrees_none, degrees_more, degrees_to}
use Rattle.storage.specs.Triangle.{row_within}
use native.Mathlib.Omega.{arith}
use mathlib.Core.Path.{◌≡◌, refl}
use Prim.Native.Nat.{◌+◌}
use Rattle.second_sums.proofs.add_degrees.Goals as goal

pub loop-n-init : goal.loop-n-init
loop-n-init c = (omega arith, refl, degrees_none refl)

pub add_degree-sums-requires : goal.add_degree-sums-requires
add_degree-sums-requires c =
    let l = c.loop-n in
    let room = c.requires.second_room in
    record { n_in_bounds_1 = omega (arith, row_within l.n c.args.nmax (omega arith) room.top, room, c.requires.nmax_in_bounds_1, l.invariant, l.invariant.2.start, c.loop-n-test.true); n_in_bounds_2 = omega (arith, row_within l.n c.args.nmax (omega arith) room.top, room, c.requires.nmax_in_bounds_1, l.invariant, l.invariant.2.start, c.loop-n-test.true); n_in_bounds_3 = omega (arith, row_within l.n c.args.nmax (omega arith) room.top, room, c.requires.nmax_in_bounds_1, l.invariant, l.invariant.2.start, c.loop-n-test.true); n_in_bounds_4 = omega (arith, row_within l.n c.args.nmax (omega arith) room.top, room, c.requires.nmax_in_bounds_1, l.invariant, l.invariant.2.start, c.loop-n-test.true); n_in_bounds_5 = omega (arith, row_within l.n c.args.nmax (omega arith) room.top, room, c.requires.nmax_in_bounds_1, l.invariant, l.invariant.2.start, c.loop-n-test.true); n_bound_1 = omega (arith, row_within l.n c.args.nmax (omega arith) room.top, room, c.requires.nmax_in_bounds_1, l.invariant, l.invariant.2.start, c.loop-n-test.true); n_bound_2 = omega (arith, row_within l.n c.args.nmax (omega arith) room.top, room, c.requires.nmax_in_bounds_1, l.invariant, l.invariant.2.start, c.loop-n-test.true); n_bound_3 = omega (arith, row_within l.n c.args.nmax (omega arith) room.top, room, c.requires.nmax_in_bounds_1, l.invariant, l.invariant.2.start, c.loop-n-test.true); n_bound_4 = omega (arith, row_within l.n c.args.nmax (omega arith) room.top, room, c.requires.nmax_in_bounds_1, l.invariant, l.invariant.2.start, c.loop-n-test.true); n_bound_5 = omega (arith, row_within l.n c.args.nmax (omega arith) room.top, room, c.requires.nmax_in_bounds_1, l.invariant, l.invariant.2.start, c.loop-n-test.true) }

pub overflow_add-at : goal.overflow_add-at
overflow_add-at c = omega (arith, row_within c.loop-n.n c.args.nmax (omega arith) c.requires.second_room.top, c.loop-n.invariant.2.start)

pub overflow_add-at-in-loop-n : goal.overflow_add-at-in-loop-n
overflow_add-at-in-loop-n c = omega (arith, row_within c.loop-n.n c.args.nmax (omega arith) c.requires.second_room.top, c.loop-n.invariant.2.start)

pub loop-n-preserved : goal.loop-n-preserved
loop-n-preserved c =
    let l = c.loop-n in
    let pre = c.requires in
    let test = c.loop-n-test.true in
    let q = c.add_degree-sums.ensures.filled in let x = c.add_degree-sums.ensures.value in (
      omega (arith, test),
      omega (arith, q.long, l.invariant.1),
      degrees_more l.invariant.2 pre.nmax_in_bounds_2 pre.nmax_in_bounds_3 pre.nmax_in_bounds_4 (omega (arith, pre.second_room, test, l.invariant)) q x refl refl,
    )

pub returns : goal.returns
returns c =
    let e : c.loop-n.n ≡ c.args.nmax + 1 = omega (arith, c.loop-n-test.false, c.loop-n.invariant.0) in
    degrees_to c.loop-n.invariant.2 e
