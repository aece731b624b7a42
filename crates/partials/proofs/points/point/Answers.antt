-- `points::point` meets its contract: the powers of u, the sums over the degrees, and the last multiplications. Assumes nothing.
use Rattle.point_sums.specs.Sums.{room_kept, point_is}
use Rattle.storage.specs.Filled.{filled_self}
use native.Mathlib.Omega.{arith}
use mathlib.Core.Path.{refl}
use Rattle.partials.proofs.points.point.Goals as goal

pub add_degrees-sums-requires : goal.add_degrees-sums-requires
add_degrees-sums-requires c =
    let rescales = c.rescales in
    let pre = c.requires in
    let powers = rescales.ensures in
    record { point_room = room_kept pre.point_room powers.long refl refl refl refl; nmax_in_bounds_1 = omega (arith, pre.nmax_in_bounds_1); nmax_in_bounds_2 = pre.nmax_in_bounds_2; nmax_in_bounds_3 = pre.nmax_in_bounds_3; nmax_in_bounds_4 = filled_self powers }

pub returns : goal.returns
returns c =
    let add-degrees = c.add_degrees-sums in
    let a = c.args in
    point_is a.gm a.radius a.r a.latitude.t a.latitude.u a.nmax a.i _ a.c.now a.s.now a.trig.now refl add-degrees.ensures
