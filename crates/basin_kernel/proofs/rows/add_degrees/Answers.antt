-- `rows::add_degrees` meets its contract: the degrees below n are added, and the last two rows of q are at hand. Assumes nothing.
use Rattle.basin_kernel.specs.Rows.{degrees_none, degrees_more, degrees_to}
use Rattle.storage.specs.Triangle.{row_start, RowWithin, row_within}
use Rattle.recursion.specs.Recursion.{sectoral_ratio}
use Rattle.number.specs.Root.{root_of}
use Rattle.number.specs.Float64.{◌⊗◌}
use native.Mathlib.Omega.{arith}
use mathlib.Core.Path.{◌≡◌, refl}
use Prim.Native.Nat.{ℕ, ◌+◌, ◌*◌, ◌≤◌, ◌<◌}
use Rattle.basin_kernel.proofs.rows.add_degrees.Goals as goal

-- the two rows of a turn are within the tables
within : {n at lmax : ℕ} → n < lmax → at ≡ row_start n → lmax ≤ 2700 → (n < lmax) × (at ≡ row_start n) × RowWithin n lmax × RowWithin (n + 1) lmax
within {n} {at} {lmax} h e top = (h, e, row_within n lmax (omega arith) top, row_within (n + 1) lmax (omega arith) top)

pub loop-pair-init : goal.loop-pair-init
loop-pair-init c = (refl, refl, degrees_none)

pub add_degree-requires : goal.add_degree-requires
add_degree-requires c =
    let pre = c.requires in
    let loop = c.loop-pair in
    record { n_in_bounds_1 = omega (arith, within (omega arith) c.loop-pair.invariant.2.rows.start c.requires.lmax_bound_1); n_in_bounds_2 = omega (arith, within (omega arith) c.loop-pair.invariant.2.rows.start c.requires.lmax_bound_1); n_in_bounds_3 = omega (arith, within (omega arith) c.loop-pair.invariant.2.rows.start c.requires.lmax_bound_1); n_in_bounds_4 = omega (arith, within (omega arith) c.loop-pair.invariant.2.rows.start c.requires.lmax_bound_1); n_in_bounds_2_1 = omega (arith, within (omega arith) c.loop-pair.invariant.2.rows.start c.requires.lmax_bound_1); n_in_bounds_2_2 = omega (arith, within (omega arith) c.loop-pair.invariant.2.rows.start c.requires.lmax_bound_1); n_in_bounds_2_3 = omega (arith, within (omega arith) c.loop-pair.invariant.2.rows.start c.requires.lmax_bound_1); n_in_bounds_2_4 = omega (arith, within (omega arith) c.loop-pair.invariant.2.rows.start c.requires.lmax_bound_1); n_in_bounds_2_5 = omega (arith, within (omega arith) c.loop-pair.invariant.2.rows.start c.requires.lmax_bound_1) }

pub overflow_add-at_odd : goal.overflow_add-at_odd
overflow_add-at_odd c = omega (arith, within (omega arith) c.loop-pair.invariant.2.rows.start c.requires.lmax_bound_1)

pub overflow_add-at_odd-in-loop-pair : goal.overflow_add-at_odd-in-loop-pair
overflow_add-at_odd-in-loop-pair c = omega (arith, within (omega arith) c.loop-pair.invariant.2.rows.start c.requires.lmax_bound_1)

pub add_degree-requires-in-loop-pair : goal.add_degree-requires-in-loop-pair
add_degree-requires-in-loop-pair c =
    let pre = c.requires in
    let loop = c.loop-pair in
    let added = c.add_degree.ensures in
    record { n_in_bounds_1 = omega (arith, within (omega arith) c.loop-pair.invariant.2.rows.start c.requires.lmax_bound_1, pre, loop.invariant, added); n_in_bounds_2 = omega (arith, within (omega arith) c.loop-pair.invariant.2.rows.start c.requires.lmax_bound_1, pre, loop.invariant, added); n_in_bounds_3 = omega (arith, within (omega arith) c.loop-pair.invariant.2.rows.start c.requires.lmax_bound_1, pre, loop.invariant, added); n_in_bounds_4 = omega (arith, within (omega arith) c.loop-pair.invariant.2.rows.start c.requires.lmax_bound_1, pre, loop.invariant, added); n_in_bounds_2_1 = omega (arith, within (omega arith) c.loop-pair.invariant.2.rows.start c.requires.lmax_bound_1, pre, loop.invariant, added); n_in_bounds_2_2 = omega (arith, within (omega arith) c.loop-pair.invariant.2.rows.start c.requires.lmax_bound_1, pre, loop.invariant, added); n_in_bounds_2_3 = omega (arith, within (omega arith) c.loop-pair.invariant.2.rows.start c.requires.lmax_bound_1, pre, loop.invariant, added); n_in_bounds_2_4 = omega (arith, within (omega arith) c.loop-pair.invariant.2.rows.start c.requires.lmax_bound_1, pre, loop.invariant, added); n_in_bounds_2_5 = omega (arith, within (omega arith) c.loop-pair.invariant.2.rows.start c.requires.lmax_bound_1, pre, loop.invariant, added) }

pub overflow_add-at : goal.overflow_add-at
overflow_add-at c =
    omega (arith, within (omega arith) c.loop-pair.invariant.2.rows.start c.requires.lmax_bound_1)

pub overflow_add-at-in-loop-pair : goal.overflow_add-at-in-loop-pair
overflow_add-at-in-loop-pair c =
    omega (arith, within (omega arith) c.loop-pair.invariant.2.rows.start c.requires.lmax_bound_1)

pub loop-pair-preserved : goal.loop-pair-preserved
loop-pair-preserved c =
    let pre = c.requires in
    let loop = c.loop-pair in
    let powers = pre.filled in
    let pmm = c.next_sectoral-pmm_odd in
    let e : 2 * loop.pair + 1 + 1 ≡ 2 * loop.pair + 2 = omega arith in
    let pmm2 : c.next_sectoral-pmm.result ≡ pmm.result ⊗ root_of (sectoral_ratio ((2 * loop.pair) + 1 + 1)) = rw e c.next_sectoral-pmm.ensures in
    let q = c.add_degree.ensures.filled in let x = c.add_degree.ensures.filled_2 in let y = c.add_degree.ensures.filled_3 in
    let q2 = c.add_degree-in-loop-pair.ensures.filled in let x2 = c.add_degree-in-loop-pair.ensures.filled_2 in let y2 = c.add_degree-in-loop-pair.ensures.filled_3 in
    let below = degrees_more loop.invariant.2 powers (omega (arith, within (omega arith) c.loop-pair.invariant.2.rows.start c.requires.lmax_bound_1, pre, loop.invariant)) q x y refl refl pmm.ensures in (
      omega (arith, q, loop.invariant),
      omega (arith, q2, loop.invariant),
      degrees_more below powers (omega (arith, within (omega arith) c.loop-pair.invariant.2.rows.start c.requires.lmax_bound_1, pre, loop.invariant, q)) q2 x2 y2 (omega arith) (omega arith) pmm2,
    )

pub returns-else-lmax-eq0 : goal.returns-else-lmax-eq0
returns-else-lmax-eq0 c =
    let loop = c.loop-pair in
    let e : 2 * loop.pair ≡ c.args.lmax + 1 = omega arith in
    let below = degrees_to loop.invariant.2 e in
    record { filled_2 = below.of_c; filled_3 = below.of_s }

pub add_degree-requires-then-lmax-eq0 : goal.add_degree-requires-then-lmax-eq0
add_degree-requires-then-lmax-eq0 c =
    let pre = c.requires in
    let loop = c.loop-pair in
    let e : 2 * loop.pair ≡ c.args.lmax = omega arith in
    let at = rw e at loop.invariant.2.rows.start in
    record { n_in_bounds_1 = omega (arith, row_within c.args.lmax c.args.lmax (omega arith) (omega arith)); n_in_bounds_2 = omega (arith, row_within c.args.lmax c.args.lmax (omega arith) (omega arith)); n_in_bounds_3 = omega (arith, row_within c.args.lmax c.args.lmax (omega arith) (omega arith)); n_in_bounds_4 = omega (arith, row_within c.args.lmax c.args.lmax (omega arith) (omega arith)); n_in_bounds_2_1 = omega (arith, row_within c.args.lmax c.args.lmax (omega arith) (omega arith)); n_in_bounds_2_2 = omega (arith, row_within c.args.lmax c.args.lmax (omega arith) (omega arith)); n_in_bounds_2_3 = omega (arith, row_within c.args.lmax c.args.lmax (omega arith) (omega arith)); n_in_bounds_2_4 = omega (arith, row_within c.args.lmax c.args.lmax (omega arith) (omega arith)); n_in_bounds_2_5 = omega (arith, row_within c.args.lmax c.args.lmax (omega arith) (omega arith)) }

pub returns-then-lmax-eq0 : goal.returns-then-lmax-eq0
returns-then-lmax-eq0 c =
    let loop = c.loop-pair in
    let q = c.add_degree-then-lmax-eq0.ensures.filled in let x = c.add_degree-then-lmax-eq0.ensures.filled_2 in let y = c.add_degree-then-lmax-eq0.ensures.filled_3 in
    let powers = c.requires.filled in
    let e : 2 * loop.pair ≡ c.args.lmax = omega arith in
    let below = degrees_more (rw e at loop.invariant.2) powers (omega (arith, e, c.requires, loop.invariant)) q x y refl refl refl in
    record { filled_2 = below.of_c; filled_3 = below.of_s }
