-- `grid` meets its contract. Assumes nothing.
use Rattle.lengths.specs.Told.{too_large, small_enough, size_refused, told_past, promised}
use Rattle.lengths.specs.Lengths.{grid_told}
use native.Mathlib.Omega.{arith}
use Rattle.lengths.proofs.grid.Goals as goal
use Rattle.refusal.specs.Numbers.{done_then, refused_then}

pub returns-then-rows-gt-MAX_LINES : goal.returns-then-rows-gt-MAX_LINES
returns-then-rows-gt-MAX_LINES c =
    let all = promised (size_refused (refused_then _ _ (too_large (omega arith)))) in
    record { value = all.0; lengths_after = all.1 }

pub returns-then-longitudes-gt-MAX_LINES : goal.returns-then-longitudes-gt-MAX_LINES
returns-then-longitudes-gt-MAX_LINES c =
    let all = promised (size_refused (done_then (small_enough (omega arith)) (refused_then _ _ (too_large (omega arith))))) in
    record { value = all.0; lengths_after = all.1 }

pub returns-then-nmax-gt-MAX_DEGREE : goal.returns-then-nmax-gt-MAX_DEGREE
returns-then-nmax-gt-MAX_DEGREE c =
    let all = promised (size_refused (done_then (small_enough (omega arith)) (done_then (small_enough (omega arith)) (too_large (omega arith))))) in
    record { value = all.0; lengths_after = all.1 }

pub returns : goal.returns
returns c =
    let entries = c.entries-size in
    let trig = c.product-trig in
    let out = c.product-out in
    let all = promised
    (told_past (done_then (small_enough (omega arith)) (done_then (small_enough (omega arith)) (small_enough (omega arith))))
    (grid_told _ _ _ entries.ensures.is trig.ensures.fact_1 (omega arith) out.ensures.fact_1) c.tell.ensures) in
    record { value = all.0; lengths_after = all.1 }
