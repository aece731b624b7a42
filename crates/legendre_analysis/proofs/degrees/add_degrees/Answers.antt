-- `degrees::add_degrees` meets its contract: the terms of the degrees below n are added, and the last two rows of q are at hand. Assumes nothing.
use Rattle.std.specs.Prelude.{◌≡◌, refl, ℕ, ◌+◌, ◌*◌, ◌≤◌, ◌<◌}
use Rattle.std.proofs.Common.{arith}
use Rattle.storage.specs.Triangle.{row_start, RowWithin, row_within}
use Rattle.legendre_analysis.specs.Degrees.{degrees_none, degrees_more, degrees_to}
use Rattle.legendre_analysis.proofs.degrees.add_degrees.Goals as goal

-- the two rows of a turn are within the tables
record Within (n at nmax : ℕ) : Type 0 where
  pub start : at ≡ row_start n
  pub first : RowWithin n nmax
  pub second : RowWithin (n + 1) nmax

within : {n nmax at : ℕ} → n < nmax → nmax ≤ 2700 → at ≡ row_start n → Within n at nmax
within h b e = record { start = e; first = row_within _ _ (omega arith) b; second = row_within _ _ (omega arith) b }

pub loop-pair-init : goal.loop-pair-init
loop-pair-init c = (refl, refl, degrees_none)

pub add_degree-requires : goal.add_degree-requires
add_degree-requires c =
    let turn = within {n = (2 * c.loop-pair.pair)} {nmax = c.args.nmax} (omega arith) (omega arith) c.loop-pair.invariant.2.rows.start in
    let lx = c.loop-pair.invariant.2.of_c.long in
    let ly = c.loop-pair.invariant.2.of_s.long in
    record { n_in_bounds = (omega arith, (omega arith, (omega arith, omega arith))); n_in_bounds_2 = (omega arith, (omega arith, omega arith)); n_in_bounds_3 = (omega arith, omega arith) }

pub add_degree-requires-in-loop-pair : goal.add_degree-requires-in-loop-pair
add_degree-requires-in-loop-pair c =
    let turn = within {n = (2 * c.loop-pair.pair)} {nmax = c.args.nmax} (omega arith) (omega arith) c.loop-pair.invariant.2.rows.start in
    let l1 = c.add_degree.ensures.filled.long in
    let l2 = c.add_degree.ensures.filled_2.long in
    let l3 = c.add_degree.ensures.filled_3.long in
    let lx = c.loop-pair.invariant.2.of_c.long in
    let ly = c.loop-pair.invariant.2.of_s.long in
    record { n_in_bounds = (omega arith, (omega arith, (omega arith, omega arith))); n_in_bounds_2 = (omega arith, (omega arith, omega arith)); n_in_bounds_3 = (omega arith, omega arith) }

pub overflow_add-at_odd : goal.overflow_add-at_odd
overflow_add-at_odd c =
    let turn = within {n = (2 * c.loop-pair.pair)} {nmax = c.args.nmax} (omega arith) (omega arith) c.loop-pair.invariant.2.rows.start in
    omega arith

pub overflow_add-at_odd-in-loop-pair : goal.overflow_add-at_odd-in-loop-pair
overflow_add-at_odd-in-loop-pair c =
    let turn = within {n = (2 * c.loop-pair.pair)} {nmax = c.args.nmax} (omega arith) (omega arith) c.loop-pair.invariant.2.rows.start in
    omega arith

pub overflow_add-at : goal.overflow_add-at
overflow_add-at c =
    let turn = within {n = (2 * c.loop-pair.pair)} {nmax = c.args.nmax} (omega arith) (omega arith) c.loop-pair.invariant.2.rows.start in
    omega arith

pub overflow_add-at-in-loop-pair : goal.overflow_add-at-in-loop-pair
overflow_add-at-in-loop-pair c =
    let turn = within {n = (2 * c.loop-pair.pair)} {nmax = c.args.nmax} (omega arith) (omega arith) c.loop-pair.invariant.2.rows.start in
    omega arith

pub loop-pair-preserved : goal.loop-pair-preserved
loop-pair-preserved c =
    let turn = within {n = (2 * c.loop-pair.pair)} {nmax = c.args.nmax} (omega arith) (omega arith) c.loop-pair.invariant.2.rows.start in
    let l1 = c.add_degree.ensures.filled.long in
    let l2 = c.add_degree.ensures.filled_2.long in
    let l3 = c.add_degree.ensures.filled_3.long in
    let lx = c.loop-pair.invariant.2.of_c.long in
    let ly = c.loop-pair.invariant.2.of_s.long in
    let pre = c.requires in
    let loop = c.loop-pair in
    let one = c.add_degree.ensures in
    let two = c.add_degree-in-loop-pair.ensures in
    let m1 = two.filled.long in
    let below = degrees_more loop.invariant.2 pre.filled_1 pre.filled_2 (record { degree = omega arith; of_sectorals = omega arith; of_r = omega arith; of_newer = omega arith; of_older = omega arith }) one.filled one.filled_2 one.filled_3 refl refl in (
      omega arith,
      omega arith,
      degrees_more below pre.filled_1 pre.filled_2 (record { degree = omega arith; of_sectorals = omega arith; of_r = omega arith; of_newer = omega arith; of_older = omega arith }) two.filled two.filled_2 two.filled_3 (omega arith) (omega arith),
    )

pub returns-else-nmax-eq0 : goal.returns-else-nmax-eq0
returns-else-nmax-eq0 c =
    let e : 2 * c.loop-pair.pair ≡ c.args.nmax + 1 = omega arith in
    let below = degrees_to c.loop-pair.invariant.2 e in
    record { filled_2 = below.of_c; filled_3 = below.of_s }

pub add_degree-requires-then-nmax-eq0 : goal.add_degree-requires-then-nmax-eq0
add_degree-requires-then-nmax-eq0 c =
    let e : 2 * c.loop-pair.pair ≡ c.args.nmax = omega arith in
    let at = rw e at c.loop-pair.invariant.2.rows.start in
    let row = row_within c.args.nmax c.args.nmax (omega arith) (omega arith) in
    let lx = c.loop-pair.invariant.2.of_c.long in
    let ly = c.loop-pair.invariant.2.of_s.long in
    record { n_in_bounds = (omega arith, (omega arith, (omega arith, omega arith))); n_in_bounds_2 = (omega arith, (omega arith, omega arith)); n_in_bounds_3 = (omega arith, omega arith) }

pub returns-then-nmax-eq0 : goal.returns-then-nmax-eq0
returns-then-nmax-eq0 c =
    let pre = c.requires in
    let loop = c.loop-pair in
    let last = c.add_degree-then-nmax-eq0.ensures in
    let e : 2 * loop.pair ≡ c.args.nmax = omega arith in
    let below = degrees_more (rw e at loop.invariant.2) pre.filled_1 pre.filled_2 (record { degree = omega arith; of_sectorals = omega arith; of_r = omega arith; of_newer = omega arith; of_older = omega arith }) last.filled last.filled_2 last.filled_3 refl refl in
    record { filled_2 = below.of_c; filled_3 = below.of_s }
