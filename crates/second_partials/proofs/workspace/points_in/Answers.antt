-- `workspace::points_in` meets its contract: all points, in rows of either length. Assumes nothing.
use native.Mathlib.Omega.{arith}
use Rattle.second_partials.proofs.workspace.points_in.Goals as goal

pub all_points-requires : goal.all_points-requires
all_points-requires c =
    let k = c.requires.fact_1 in record { field_room_1 = record { top = k.tables.top; of_c = omega (arith, k.tables.c); of_s = omega (arith, k.tables.s); of_rows = omega (arith, c.if-nmax-lt128.true) }; field_room_2 = k.tables.c; field_room_3 = k.few; field_room_4 = omega (arith, k.each); field_room_5 = omega (arith, k.pairs); nmax_in_bounds_1 = omega (arith, k.orders); nmax_in_bounds_2 = omega (arith, k.room_out); nmax_in_bounds_3 = k.room_work; nmax_in_bounds_4 = c.requires.fact_2 }

pub all_points-requires-else-nmax-lt128 : goal.all_points-requires-else-nmax-lt128
all_points-requires-else-nmax-lt128 c =
    let k = c.requires.fact_1 in record { field_room_1 = record { top = k.tables.top; of_c = omega (arith, k.tables.c); of_s = omega (arith, k.tables.s); of_rows = omega (arith, k.tables.top) }; field_room_2 = k.tables.c; field_room_3 = k.few; field_room_4 = omega (arith, k.each); field_room_5 = omega (arith, k.pairs); nmax_in_bounds_1 = omega (arith, k.orders); nmax_in_bounds_2 = omega (arith, k.room_out); nmax_in_bounds_3 = k.room_work; nmax_in_bounds_4 = c.requires.fact_2 }

pub returns-then-nmax-lt128 : goal.returns-then-nmax-lt128
returns-then-nmax-lt128 c =
    let values = c.all_points.ensures.filled in let worked = c.all_points.ensures.worked in
    record { values = values; rest = worked.rest; long = worked.long }

pub returns-else-nmax-lt128 : goal.returns-else-nmax-lt128
returns-else-nmax-lt128 c =
    let values = c.all_points-else-nmax-lt128.ensures.filled in let worked = c.all_points-else-nmax-lt128.ensures.worked in
    record { values = values; rest = worked.rest; long = worked.long }
