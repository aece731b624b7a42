-- `points::point` meets its contract: the powers of u, the sums over the degrees, and the last multiplications. Assumes nothing.
use Rattle.second_partials.specs.Working.{prepared_kept, worked_one}
use Rattle.second_partials.specs.Promise.{point_is}
use Rattle.storage.specs.Filled.{filled_self}
use native.Mathlib.Omega.{arith}
use mathlib.Core.Path.{refl}
use Rattle.second_partials.proofs.points.point.Goals as goal

pub powers-requires : goal.powers-requires
powers-requires c = record { fact_1 = c.requires.fact_1.top; fact_2 = c.requires.fact_2; fact_3 = c.requires.fact_4 }

pub sums-x-requires : goal.sums-x-requires
sums-x-requires c =
    let h = c.requires in
    let f = c.powers.ensures in record { field_room_1 = h.fact_1; field_room_2 = h.fact_2; field_room_3 = omega (arith, h.fact_3); field_room_4 = omega (arith, h.fact_4, f.long); prepared_1 = prepared_kept h.fact_5 f; prepared_2 = filled_self f }

pub returns : goal.returns
returns c =
    let a = c.args in record { value = point_is a.gm a.radius a.r a.latitude.t a.latitude.u a.nmax a.i _ a.c.now a.s.now a.trig.now refl c.sums-x.ensures; worked = worked_one a.latitude.u c.requires.fact_1.top c.requires.fact_5 c.powers.ensures }
