-- `rows::grid_rows` meets its contract: the rows above row i are written. Assumes nothing.
use Rattle.storage.specs.Rectangle.{by_rows_more}
use Rattle.synthesis.specs.Rows.{row_at, room_kept}
use Rattle.storage.specs.Elements.{from}
use lib.Ieee.{nan}
use Rattle.storage.specs.Filled.{filled_none, filled_to}
use native.Mathlib.Nat.{mul-le-mul_right}
use native.Mathlib.Omega.{arith}
use mathlib.Core.Path.{◌≡◌, refl, ap, ◌∙◌}
use Prim.Native.Nat.{ℕ, ◌*◌}
use Rattle.synthesis.proofs.rows.grid_rows.Goals as goal

pub loop-i-init : goal.loop-i-init
loop-i-init c = (omega arith, omega arith, filled_to filled_none (omega arith), refl, refl, refl, refl, refl, refl)

pub latitude_of-latitude-requires : goal.latitude_of-latitude-requires
latitude_of-latitude-requires c =
    omega (arith, c.requires.filled_2, c.loop-i-test.true)

pub grid_row-requires : goal.grid_row-requires
grid_row-requires c =
    let q = c.requires in
    let l = c.loop-i.invariant in
    let up = mul-le-mul_right c.args.longitudes
    c.loop-i-test.true in record { row_room = room_kept q.row_room l.3 l.4 l.5 l.6 l.7 l.8; filled_1 = q.filled_1; filled_2 = q.filled_3; filled_3 = omega (arith, q.filled_4, l.2.long, l.1, up) }

pub overflow_add-at : goal.overflow_add-at
overflow_add-at c =
    let q = c.requires in
    let up = mul-le-mul_right c.args.longitudes
    c.loop-i-test.true in
    let most = mul-le-mul_right c.args.longitudes q.rows_bound_1 in
    omega (arith, c.loop-i.invariant.1, up, most, q.rows_bound_2)

pub loop-i-preserved : goal.loop-i-preserved
loop-i-preserved c =
    let a = c.args in
    let l = c.loop-i in
    let pair = c.latitude_of-latitude.ensures in
    let kept = c.grid_row.auto in
    let row =
    row_at (from 0 a.a.now nan) (from 0 a.b.now nan) (from 0 a.factors.now nan) a.latitudes.now a.c.now a.s.now a.trig.now
    a.nmax l.i pair.fact_1 pair.fact_2 c.grid_row.ensures in (
      omega (arith, c.loop-i-test.true),
      omega (arith, l.invariant.1),
      by_rows_more _ a.longitudes l.i l.invariant.2 row refl l.invariant.1,
      kept.r ∙ l.invariant.3,
      kept.even ∙ l.invariant.4,
      kept.odd ∙ l.invariant.5,
      kept.p ∙ l.invariant.6,
      kept.x ∙ l.invariant.7,
      kept.y ∙ l.invariant.8,
    )

pub returns : goal.returns
returns c =
    let e : c.loop-i.i ≡ c.args.rows = omega arith in
    filled_to c.loop-i.invariant.2 (ap (λ (k : ℕ). k * c.args.longitudes) e)
