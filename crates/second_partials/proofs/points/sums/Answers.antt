-- `points::sums` meets its contract: the parts of the working list are the tables, the sectoral numbers and the powers. Assumes nothing.
use Rattle.second_partials.specs.Working.{powers_within, sectorals_standing, powers_standing}
use Rattle.point_lists.specs.Tables.{tabled}
use native.Mathlib.Omega.{arith}
use mathlib.Core.Path.{refl}
use Prim.Native.Nat.{◌+◌, ◌-◌}
use lib.ListN.{length, take, drop}
use Rattle.second_partials.proofs.points.sums.Goals as goal

pub offset_bounds-work-total : goal.offset_bounds-work-total
offset_bounds-work-total c = omega (arith, powers_within c.args.nmax c.requires.field_room_1.top, c.requires.field_room_2, c.requires.field_room_4, c.well_formed)

pub slice_bounds-b-count : goal.slice_bounds-b-count
slice_bounds-b-count c = omega (arith, powers_within c.args.nmax c.requires.field_room_1.top, c.requires.field_room_2, c.requires.field_room_4)

pub offset_bounds-b-total : goal.offset_bounds-b-total
offset_bounds-b-total c = omega (arith, powers_within c.args.nmax c.requires.field_room_1.top, c.requires.field_room_2, c.requires.field_room_4, c.well_formed)

pub slice_bounds-w-count : goal.slice_bounds-w-count
slice_bounds-w-count c = omega (arith, powers_within c.args.nmax c.requires.field_room_1.top, c.requires.field_room_2, c.requires.field_room_4)

pub offset_bounds-w-total : goal.offset_bounds-w-total
offset_bounds-w-total c = omega (arith, powers_within c.args.nmax c.requires.field_room_1.top, c.requires.field_room_2, c.requires.field_room_4, c.well_formed)

pub slice_bounds-sectorals-count : goal.slice_bounds-sectorals-count
slice_bounds-sectorals-count c = omega (arith, powers_within c.args.nmax c.requires.field_room_1.top, c.requires.field_room_2, c.requires.field_room_4)

pub offset_bounds-sectorals-nmax : goal.offset_bounds-sectorals-nmax
offset_bounds-sectorals-nmax c = omega (arith, powers_within c.args.nmax c.requires.field_room_1.top, c.requires.field_room_2, c.requires.field_room_4, c.well_formed)

pub slice_bounds-rescales-count : goal.slice_bounds-rescales-count
slice_bounds-rescales-count c = omega (arith, powers_within c.args.nmax c.requires.field_room_1.top, c.requires.field_room_2, c.requires.field_room_4)

pub slice_bounds-rescales-start : goal.slice_bounds-rescales-start
slice_bounds-rescales-start c = omega (arith, powers_within c.args.nmax c.requires.field_room_1.top, c.requires.field_room_2, c.requires.field_room_4)

pub add_degrees-requires : goal.add_degrees-requires
add_degrees-requires c =
    let a = c.args in
    let h = c.requires in
    let N = a.nmax in
    let l = a.work.now in
    let within = powers_within N h.field_room_1.top in
    let e = h.field_room_2 in
    let room = h.field_room_4 in
    let i = length l - a.total in
    let b₁ = take i (drop a.total l) in
    let j = length b₁ - a.total in
    let w₁ = take j (drop a.total b₁) in
    let k = length w₁ - a.total in
    let s₁ = take k (drop a.total w₁) in
    let g = length s₁ - (N + 1) in record {
      second_room = record {
        top = h.field_room_1.top;
        of_a = omega (arith, within, room);
        of_b = omega (arith, within, room, e);
        of_w = omega (arith, within, room, e);
        of_c = h.field_room_1.of_c;
        of_s = h.field_room_1.of_s;
        of_sectorals = omega (arith, within, room, e);
        of_r = omega (arith, within, room, e);
        of_rows = h.field_room_1.of_rows;
      };
      nmax_in_bounds_1 = h.field_room_3;
      nmax_in_bounds_2 = tabled h.prepared_1.first a.total i j e (omega (arith, within, room, e)) (omega (arith, within, room, e));
      nmax_in_bounds_3 = sectorals_standing N l a.total (N + 1) i j k e refl (omega (arith, within, room, e)) (omega (arith, within, room, e))
          (omega (arith, within, room, e)) h.prepared_1;
      nmax_in_bounds_4 = powers_standing N l a.total (N + 1) i j k e refl (omega (arith, within, room, e)) (omega (arith, within, room, e))
          (omega (arith, within, room, e)) g a.u (omega (arith, within, room, e)) h.prepared_2 (omega (arith, within, room));
    }
