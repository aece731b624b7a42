-- `one_by_one` meets its contract: the sums of the orders below m are written. Assumes nothing.
use Rattle.fourier_analysis.specs.Longitudes.{pair_from, cosines_at, sines_at, pairs_more}
use Rattle.storage.specs.Filled.{Filled, filled_to}
use Rattle.storage.specs.Rectangle.{by_rows}
use native.Mathlib.Nat.{mul-le-mul_right}
use lib.ListN.{length-set}
use native.Mathlib.Omega.{arith}
use mathlib.Core.Path.{◌≡◌, refl, ap, ◌∙◌}
use Prim.Native.Nat.{ℕ, ◌+◌, ◌-◌, ◌*◌, ◌≤◌}
use Rattle.fourier_analysis.proofs.one_by_one.Goals as goal

pub overflow_mul-k : goal.overflow_mul-k
overflow_mul-k c =
    let h : c.args.first ≤ c.args.nmax + 1 = omega arith in
    omega (arith, mul-le-mul_right c.args.stride h)

pub loop-m-init : goal.loop-m-init
loop-m-init c = ((omega arith, omega arith), refl, c.requires.filled)

pub one_order-v-requires : goal.one_order-v-requires
one_order-v-requires c =
    let h : c.loop-m.m + 1 ≤ c.args.nmax + 1 = omega arith in
    let up = mul-le-mul_right c.args.stride h in
    record { fact_1 = omega arith; fact_2 = omega arith }

pub bounds-sums-m-in-loop-m : goal.bounds-sums-m-in-loop-m
bounds-sums-m-in-loop-m c = simp length-set (omega arith)

pub overflow_add-k : goal.overflow_add-k
overflow_add-k c =
    let h : c.loop-m.m + 1 ≤ c.args.nmax + 1 = omega arith in
    let up = mul-le-mul_right c.args.stride h in
    omega arith

pub loop-m-preserved : goal.loop-m-preserved
loop-m-preserved c =
    let a = c.args in
    let l = c.loop-m in
    let wide : a.stride ≡ a.longitudes + a.longitudes = omega arith in
    let start = l.invariant.1 ∙ ap (λ (n : ℕ). l.m * n) wide in
    let cosine = cosines_at a.values.now a.trig.now a.at a.longitudes l.m c.one_order-v.ensures.fact_1 start in
    let sine = sines_at a.values.now a.trig.now a.at a.longitudes l.m c.one_order-v.ensures.fact_2 start in (
      (omega arith, omega arith),
      omega arith,
      pairs_more a.values.now a.trig.now a.at a.longitudes l.m l.invariant.2 cosine sine refl refl,
    )

pub returns : goal.returns
returns c =
    let e : c.loop-m.m ≡ c.args.nmax + 1 = omega arith in
    filled_to c.loop-m.invariant.2 (ap (λ (k : ℕ). k * 2) e)
