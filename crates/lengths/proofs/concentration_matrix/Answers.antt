-- `concentration_matrix` meets its contract. Assumes nothing.
use native.Mathlib.Omega.{arith}
use Rattle.lengths.specs.Told.{too_large, small_enough, size_refused, told_past, promised}
use Rattle.lengths.specs.Lengths.{matrix_told}
use Rattle.region_nodes.specs.Regions.{integrals}
use mathlib.Core.Path.{ap₂}
use mathlib.Core.Path.{◌∙◌}
use Prim.Native.Nat.{ℕ, ◌*◌}
use Rattle.lengths.proofs.concentration_matrix.Goals as goal
use Rattle.refusal.specs.Numbers.{done_then, refused_then}

pub returns-then-lmax-gt-MAX_REGION : goal.returns-then-lmax-gt-MAX_REGION
returns-then-lmax-gt-MAX_REGION c =
    let all = promised (size_refused (refused_then _ _ (too_large (omega arith)))) in
    record { value = all.0; lengths_after = all.1 }

pub returns-then-nodes-gt-MAX_REGION_NODES : goal.returns-then-nodes-gt-MAX_REGION_NODES
returns-then-nodes-gt-MAX_REGION_NODES c =
    let all = promised (size_refused (done_then (small_enough (omega arith)) (too_large (omega arith)))) in
    record { value = all.0; lengths_after = all.1 }

pub returns : goal.returns
unfolding integrals
returns c =
    let all = promised
    (told_past (done_then (small_enough (omega arith)) (small_enough (omega arith)))
    (matrix_told _ _ c.product-integrals.ensures.fact_1 c.region_sizes-sizes.ensures.of_table (c.product-cells.ensures.fact_1 ∙ ap₂ (λ (x y : ℕ). x * y) c.region_sizes-sizes.ensures.of_functions c.region_sizes-sizes.ensures.of_functions)) c.tell.ensures) in
    record { value = all.0; lengths_after = all.1 }
