-- `rows::add_rows` meets its contract: the rows above row i are added. Assumes nothing.
use Rattle.fourier_analysis.specs.Longitudes.{cosines_from, sines_from}
use Rattle.analysis.specs.Rows.{sums_none, sums_more, sums_to, room_kept, row_weight_is, legendre_at, cosines_are, sines_are}
use Rattle.recursion.specs.Recursion.{p_cell}
use Rattle.storage.specs.Elements.{from}
use lib.Ieee.{nan}
use native.Mathlib.Nat.{mul-le-mul_right}
use native.Mathlib.Omega.{arith}
use mathlib.Core.Path.{◌≡◌, refl, ◌∙◌}
use Prim.Native.Nat.{◌+◌, ◌≤◌}
use Rattle.analysis.proofs.rows.add_rows.Goals as goal

pub loop-i-init : goal.loop-i-init
loop-i-init c =
    let q = c.requires in
    (omega arith, omega arith, sums_none _ _ _ _ q.filled_2, sums_none _ _ _ _ q.filled_3, refl, refl, refl, refl)

pub latitude_of-latitude-requires : goal.latitude_of-latitude-requires
latitude_of-latitude-requires c =
    omega (arith, c.requires.longitudes_value_5, c.loop-i-test.true)

pub offset_bounds-weights-i : goal.offset_bounds-weights-i
offset_bounds-weights-i c =
    omega (arith, c.requires.longitudes_value_4, c.loop-i-test.true)

pub bounds-weights-i : goal.bounds-weights-i
bounds-weights-i c =
    omega (arith, c.requires.longitudes_value_4, c.loop-i-test.true)

pub mean_weight-weight-requires : goal.mean_weight-weight-requires
mean_weight-weight-requires c =
    let q = c.requires in
    omega (arith, q.row_room.top, q.longitudes_value_1)

pub add_row-requires : goal.add_row-requires
add_row-requires c =
    let q = c.requires in
    let l = c.loop-i.invariant in
    let test = c.loop-i-test.true in
    let h : c.loop-i.i + 1 ≤ c.args.nmax + 1 = omega (arith, test) in
    let up = mul-le-mul_right c.args.longitudes h in record { row_room = room_kept q.row_room l.4 l.5 l.6 l.7 l.2.long l.3.long; filled_1 = q.filled_1; filled_2 = omega (arith, q.row_room.top, q.longitudes_value_1); filled_3 = omega (arith, q.longitudes_value_2, l.1, up); filled_4 = q.longitudes_value_3 }

pub overflow_add-at : goal.overflow_add-at
overflow_add-at c =
    let q = c.requires in
    let test = c.loop-i-test.true in
    let h : c.loop-i.i + 1 ≤ 2701 = omega (arith, q.row_room.top, test) in
    let up = mul-le-mul_right c.args.longitudes h in
    omega (arith, q.row_room.top, q.longitudes_value_1, c.loop-i.invariant.1, up)

pub loop-i-smaller : goal.loop-i-smaller
loop-i-smaller c =
    omega (arith, c.loop-i-test.true)

pub loop-i-preserved : goal.loop-i-preserved
loop-i-preserved c =
    let a = c.args in
    let q = c.requires in
    let l = c.loop-i in
    let place = c.latitude_of-latitude in
    let mean-weight = c.mean_weight-weight in
    let added = c.add_row.ensures.filled_2 in let adds = c.add_row.ensures.filled_3 in
    let kept = c.add_row.auto in
    let wide = q.longitudes_value_1 in
    let w = row_weight_is a.weights.now a.nmax l.i a.longitudes wide mean-weight.ensures in
    let P = p_cell (from 0 a.a.now nan) (from 0 a.b.now nan) place.result.t place.result.u in
    let X = cosines_from a.values.now a.trig.now l.at a.longitudes in
    let Y = sines_from a.values.now a.trig.now l.at a.longitudes in
    let row = legendre_at a.a.now a.b.now a.latitudes.now l.i place.ensures.fact_1 place.ensures.fact_2 in (
      omega (arith, c.loop-i-test.true),
      omega (arith, l.invariant.1),
      sums_more _ _ _ _ l.i _ P X l.invariant.2 added w row
          (λ m. cosines_are a.values.now a.trig.now a.nmax l.i m wide l.invariant.1) q.row_room.of_c,
      sums_more _ _ _ _ l.i _ P Y l.invariant.3 adds w row
          (λ m. sines_are a.values.now a.trig.now a.nmax l.i m wide l.invariant.1) q.row_room.of_s,
      kept.r ∙ l.invariant.4,
      kept.even ∙ l.invariant.5,
      kept.odd ∙ l.invariant.6,
      kept.sums ∙ l.invariant.7,
    )

pub returns : goal.returns
returns c =
    let e : c.loop-i.i ≡ c.args.nmax + 1 = omega arith in
    record { filled_2 = sums_to _ _ _ _ c.loop-i.invariant.2 e; filled_3 = sums_to _ _ _ _ c.loop-i.invariant.3 e }
