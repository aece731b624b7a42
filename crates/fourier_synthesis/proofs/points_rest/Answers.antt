-- `points_rest` meets its contract: the values from the first up to longitude j are written. Assumes nothing.
use Rattle.fourier_synthesis.specs.Longitudes.{point_is, point_after_lem}
use Rattle.storage.specs.Filled.{filled_none, filled_more, filled_to}
use native.Mathlib.Nat.{mul-le-mul_right}
use native.Mathlib.Omega.{arith}
use mathlib.Core.Path.{◌≡◌, refl, ap, ◌∙◌}
use Prim.Native.Nat.{ℕ, ◌+◌, ◌-◌, ◌*◌, ◌≤◌}
use Rattle.fourier_synthesis.proofs.points_rest.Goals as goal

pub overflow_mul-k : goal.overflow_mul-k
overflow_mul-k c =
    let h : c.args.first ≤ c.args.longitudes = omega arith in
    omega (arith, mul-le-mul_right c.args.stride h)

pub loop-j-init : goal.loop-j-init
loop-j-init c = ((omega arith, omega arith), refl, filled_to filled_none (omega arith))

pub point-requires : goal.point-requires
point-requires c = let up = mul-le-mul_right c.args.stride
    c.loop-j-test.true in record { fact_1 = omega arith; fact_2 = omega arith; fact_3 = omega arith }

pub overflow_add-k : goal.overflow_add-k
overflow_add-k c = let up = mul-le-mul_right c.args.stride
    c.loop-j-test.true in omega arith

pub loop-j-preserved : goal.loop-j-preserved
loop-j-preserved c =
    let a = c.args in
    let l = c.loop-j in
    let wide : a.stride ≡ a.nmax + a.nmax + 2 = omega arith in
    let start = l.invariant.1 ∙ ap (λ (n : ℕ). l.j * n) wide in
    let value = point_is a.nmax a.x.now a.y.now a.trig.now l.j l.k start in
    let after = point_after_lem a.first a.nmax a.x.now a.y.now a.trig.now (l.j - a.first) l.j (omega arith) in
    ((omega arith, omega arith), omega arith, filled_to (filled_more l.invariant.2 (omega arith) (c.point.ensures ∙ value ∙ after)) (omega arith))

pub returns : goal.returns
returns c = filled_to c.loop-j.invariant.2 (omega arith)
