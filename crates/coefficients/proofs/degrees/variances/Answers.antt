-- `degrees::variances` meets its contract: the numbers of the degrees below n are written. Assumes nothing.
use Rattle.coefficients.specs.Values.{variance_row}
use Rattle.storage.specs.Triangle.{row_start, table_size, row_start_zero, row_within}
use Rattle.storage.specs.Filled.{filled_none, filled_more, filled_to}
use native.Mathlib.Omega.{arith}
use mathlib.Core.Path.{◌≡◌, sym, ap, ◌∙◌}
use Prim.Native.Nat.{ℕ, ◌+◌, ◌*◌, ◌≤◌, ◌<◌}
use Rattle.coefficients.proofs.degrees.variances.Goals as goal

-- what a turn knows of rows n and n + 1
record RowsWithin (n top : ℕ) : Type 0 where
  next : row_start (n + 1) ≡ row_start n + n + 1
  after : row_start (n + 2) ≡ row_start n + n + n + 3
  within : row_start (n + 2) ≤ table_size top
  small : table_size top ≤ 3649051

rows_within : (n top : ℕ) → n < top → top ≤ 2700 → RowsWithin n top
rows_within n top h b =
    let e : n + 2 ≡ n + 1 + 1 = omega arith in
    let p = ap row_start e in
    let j = row_within n top (omega arith) b in
    let k = row_within (n + 1) top (omega arith) b in
    record { next = j.more; after = omega arith; within = omega arith; small = j.small }

pub loop-pair-init : goal.loop-pair-init
loop-pair-init c = (sym row_start_zero, filled_none)

pub two_degree_sums-sums-requires : goal.two_degree_sums-sums-requires
two_degree_sums-sums-requires c =
    let k = rows_within (2 * c.loop-pair.pair) c.args.nmax (omega arith) (omega arith) in
    record { fact_1 = omega arith; fact_2 = omega arith }

pub overflow_add-at-in-loop-pair : goal.overflow_add-at-in-loop-pair
overflow_add-at-in-loop-pair c =
    let k = rows_within (2 * c.loop-pair.pair) c.args.nmax (omega arith) (omega arith) in
    omega arith

pub loop-pair-preserved : goal.loop-pair-preserved
loop-pair-preserved c =
    let a = c.args in
    let l = c.loop-pair in
    let sums = c.two_degree_sums-sums.ensures in
    let k = rows_within (2 * l.pair) a.nmax (omega arith) (omega arith) in
    let e : l.at + 2 * l.pair + 1 ≡ row_start (2 * l.pair + 1) = omega arith in
    let on : row_start (2 * (l.pair + 1)) ≡ row_start (2 * l.pair + 2) = ap row_start (omega arith) in (
      omega arith,
      filled_to
          (filled_more
          (filled_more l.invariant.1 (omega arith) (sums.fact_1 ∙ variance_row a.c.now a.s.now (2 * l.pair) l.at l.invariant.0))
          (omega arith) (sums.fact_2 ∙ variance_row a.c.now a.s.now (2 * l.pair + 1) (l.at + 2 * l.pair + 1) e))
          (omega arith),
    )

pub degree_sum-requires : goal.degree_sum-requires
degree_sum-requires c =
    let e : 2 * c.loop-pair.pair ≡ c.args.nmax = omega arith in
    let at = rw e at c.loop-pair.invariant.0 in
    let k = row_within c.args.nmax c.args.nmax (omega arith) (omega arith) in
    record { fact_1 = omega arith; fact_2 = omega arith }

pub returns-then-nmax-eq0 : goal.returns-then-nmax-eq0
returns-then-nmax-eq0 c =
    let a = c.args in
    let e : 2 * c.loop-pair.pair ≡ a.nmax = omega arith in
    let l = rw e at c.loop-pair.invariant in
    filled_more l.1 (omega arith) (c.degree_sum.ensures ∙ variance_row a.c.now a.s.now a.nmax c.loop-pair.at l.0)

pub returns-else-nmax-eq0 : goal.returns-else-nmax-eq0
returns-else-nmax-eq0 c = filled_to c.loop-pair.invariant.1 (omega arith)
