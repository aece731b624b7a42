-- `points` meets its contract: the longitudes eight at a time and then the rest. Assumes nothing.
use Rattle.fourier_synthesis.specs.Longitudes.{point_after}
use Rattle.storage.specs.Filled.{filled_to, filled_join}
use native.Mathlib.Omega.{arith}
use mathlib.Core.Path.{refl}
use Rattle.fourier_synthesis.proofs.points.Goals as goal

pub points_eight-first-requires : goal.points_eight-first-requires
points_eight-first-requires c = record { nmax_in_bounds_1 = omega arith; nmax_in_bounds_2 = omega arith; nmax_in_bounds_3 = omega arith; stride_value_1 = refl; stride_value_2 = omega arith }

pub points_rest-requires : goal.points_rest-requires
points_rest-requires c =
    let long = c.points_eight-first.ensures.fact_2.long in
    record { nmax_in_bounds_1 = omega arith; nmax_in_bounds_2 = omega arith; nmax_in_bounds_3 = omega arith; stride_value_1 = refl; stride_value_2 = omega arith; stride_value_3 = omega arith }

pub returns : goal.returns
unfolding point_after
returns c = filled_to (filled_join c.points_eight-first.ensures.fact_2
    c.points_rest.ensures refl (λ i h. refl)) (omega arith)
