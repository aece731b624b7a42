-- `solve::solve` meets its contract: the tail of the working list holds the matrix, and then the vectors behind it. Assumes nothing.
use native.Mathlib.Omega.{arith}
use mathlib.Core.Path.{◌≡◌, refl, ap}
use Prim.Native.Nat.{ℕ, ◌-◌, ◌*◌}
use lib.ListN.{length}
use borrow.Author.Rules.{rules}
use Rattle.householder_within.specs.Within.{back, lent_long}
use Rattle.region.specs.RegionSolve.{SolveRoom, solve_room, matrix_long, tail_long, tail_mirrored, solved_values, solved_vectors, solved_convergence, solved_kept}
use Rattle.region.proofs.solve.solve.Goals as goal

pub offset_bounds-work-at : goal.offset_bounds-work-at
offset_bounds-work-at c =
    let r = solve_room c.requires.fact_1.top c.requires.fact_2 c.requires.fact_3 c.requires.fact_4 in
    omega (arith, r)

pub slice_bounds-fill_matrix-count : goal.slice_bounds-fill_matrix-count
slice_bounds-fill_matrix-count c =
    let r = solve_room c.requires.fact_1.top c.requires.fact_2 c.requires.fact_3 c.requires.fact_4 in
    omega (arith, r)

pub slice_bounds-fill_matrix-start : goal.slice_bounds-fill_matrix-start
slice_bounds-fill_matrix-start c =
    let r = solve_room c.requires.fact_1.top c.requires.fact_2 c.requires.fact_3 c.requires.fact_4 in
    omega (arith, r)

pub fill_matrix-requires : goal.fill_matrix-requires
fill_matrix-requires c =
    let r = solve_room c.requires.fact_1.top c.requires.fact_2 c.requires.fact_3 c.requires.fact_4 in
    let w = c.args.work.now in
    let square = ap (λ (x : ℕ). x * x) c.requires.fact_2 in
    record { fact_1 = c.requires.fact_1; fact_2 = omega (arith, r, square, lent_long c.args.at (length w - c.args.at) w refl) }

pub offset_bounds-work-at-2 : goal.offset_bounds-work-at-2
offset_bounds-work-at-2 c = let r = solve_room c.requires.fact_1.top c.requires.fact_2 c.requires.fact_3 c.requires.fact_4 in
    let l = matrix_long c.args.lmax c.args.weights.now c.args.latitudes.now c.args.marks.now c.args.s.now c.args.c.now c.args.nodes c.args.work.now c.requires.fact_2 r refl c.fill_matrix.ensures in omega (arith, r, l)

pub slice_bounds-eigen_within-count : goal.slice_bounds-eigen_within-count
slice_bounds-eigen_within-count c = let r = solve_room c.requires.fact_1.top c.requires.fact_2 c.requires.fact_3 c.requires.fact_4 in
    let l = matrix_long c.args.lmax c.args.weights.now c.args.latitudes.now c.args.marks.now c.args.s.now c.args.c.now c.args.nodes c.args.work.now c.requires.fact_2 r refl c.fill_matrix.ensures in omega (arith, r, l)

pub slice_bounds-eigen_within-start : goal.slice_bounds-eigen_within-start
slice_bounds-eigen_within-start c = let r = solve_room c.requires.fact_1.top c.requires.fact_2 c.requires.fact_3 c.requires.fact_4 in
    let l = matrix_long c.args.lmax c.args.weights.now c.args.latitudes.now c.args.marks.now c.args.s.now c.args.c.now c.args.nodes c.args.work.now c.requires.fact_2 r refl c.fill_matrix.ensures in omega (arith, r, l)

pub eigen_within-requires : goal.eigen_within-requires
eigen_within-requires c =
    let a = c.args in
    let made = c.fill_matrix.ensures in
    let r = solve_room c.requires.fact_1.top c.requires.fact_2 c.requires.fact_3 c.requires.fact_4 in
    let long-tail = tail_long a.lmax a.weights.now a.latitudes.now a.marks.now a.s.now a.c.now a.nodes a.work.now
    c.requires.fact_2 r refl made in
    let mirrored = tail_mirrored a.lmax a.weights.now a.latitudes.now a.marks.now a.s.now a.c.now a.nodes a.work.now
    c.requires.fact_2 r refl made in
    record { fact_1 = omega (arith, r); fact_2 = long-tail; fact_3 = c.requires.fact_5; fact_4 = mirrored }

pub returns : goal.returns
returns c =
    let a = c.args in
    let made = c.fill_matrix.ensures in
    let r = solve_room c.requires.fact_1.top c.requires.fact_2 c.requires.fact_3 c.requires.fact_4 in
    let done = c.eigen_within.ensures in
    let values = solved_values a.lmax a.weights.now a.latitudes.now a.marks.now a.s.now a.c.now a.nodes a.work.now
    c.requires.fact_2 r refl made done.fact_1 in
    let vectors = solved_vectors a.lmax a.weights.now a.latitudes.now a.marks.now a.s.now a.c.now a.nodes a.work.now
    c.requires.fact_2 r refl made done.fact_3 done.fact_2 in
    let kept = solved_kept a.lmax a.weights.now a.latitudes.now a.marks.now a.s.now a.c.now a.nodes a.work.now
    c.requires.fact_2 r refl made done.fact_3 in
    let ended = solved_convergence a.lmax a.weights.now a.latitudes.now a.marks.now a.s.now a.c.now a.nodes a.work.now
    c.requires.fact_2 r refl made done.fact_4 in
    record { filled = values; vectors_in_1 = vectors; vectors_in_2 = kept; value = ended }
