-- `rows::all_rows` meets its contract: the rows of P below n are written, and the last two rows of q are at hand. Assumes nothing.
use Rattle.recursion.specs.Recursion.{sectoral_ratio}
use Rattle.legendre.specs.Rows.{rows_below_none, rows_below_more}
use Rattle.storage.specs.Triangle.{row_start, row_within}
use Rattle.storage.specs.Filled.{filled_to}
use Rattle.number.specs.Float64.{◌⊗◌}
use Rattle.number.specs.Root.{root_of}
use native.Mathlib.Omega.{arith}
use mathlib.Core.Path.{◌≡◌, refl, ap}
use Prim.Native.Nat.{◌+◌, ◌*◌}
use Rattle.legendre.proofs.rows.all_rows.Goals as goal

pub loop-pair-init : goal.loop-pair-init
loop-pair-init c = (refl, refl, rows_below_none)

pub row-requires : goal.row-requires
row-requires c = record { n_in_bounds = omega (arith, row_within (2 * c.loop-pair.pair) c.args.nmax (omega arith) (omega arith), row_within ((2 * c.loop-pair.pair) + 1) c.args.nmax (omega arith) (omega arith)); n_in_bounds_2 = omega (arith, row_within (2 * c.loop-pair.pair) c.args.nmax (omega arith) (omega arith), row_within ((2 * c.loop-pair.pair) + 1) c.args.nmax (omega arith) (omega arith)) }

pub overflow_add-at_odd : goal.overflow_add-at_odd
overflow_add-at_odd c = omega (arith, row_within (2 * c.loop-pair.pair) c.args.nmax (omega arith) (omega arith), row_within ((2 * c.loop-pair.pair) + 1) c.args.nmax (omega arith) (omega arith))

pub overflow_add-at_odd-in-loop-pair : goal.overflow_add-at_odd-in-loop-pair
overflow_add-at_odd-in-loop-pair c = omega (arith, row_within (2 * c.loop-pair.pair) c.args.nmax (omega arith) (omega arith), row_within ((2 * c.loop-pair.pair) + 1) c.args.nmax (omega arith) (omega arith))

pub row-requires-in-loop-pair : goal.row-requires-in-loop-pair
row-requires-in-loop-pair c =
    let pre = c.requires in
    let loop = c.loop-pair in
    let even = c.row.ensures.filled.long in
    record { n_in_bounds = omega (arith, row_within (2 * c.loop-pair.pair) c.args.nmax (omega arith) (omega arith), row_within ((2 * c.loop-pair.pair) + 1) c.args.nmax (omega arith) (omega arith)); n_in_bounds_2 = omega (arith, row_within (2 * c.loop-pair.pair) c.args.nmax (omega arith) (omega arith), row_within ((2 * c.loop-pair.pair) + 1) c.args.nmax (omega arith) (omega arith)) }

pub overflow_add-at : goal.overflow_add-at
overflow_add-at c =
    let loop = c.loop-pair in
    omega (arith, row_within (2 * c.loop-pair.pair) c.args.nmax (omega arith) (omega arith), row_within ((2 * c.loop-pair.pair) + 1) c.args.nmax (omega arith) (omega arith))

pub overflow_add-at-in-loop-pair : goal.overflow_add-at-in-loop-pair
overflow_add-at-in-loop-pair c =
    let loop = c.loop-pair in
    omega (arith, row_within (2 * c.loop-pair.pair) c.args.nmax (omega arith) (omega arith), row_within ((2 * c.loop-pair.pair) + 1) c.args.nmax (omega arith) (omega arith))

pub loop-pair-preserved : goal.loop-pair-preserved
loop-pair-preserved c =
    let pre = c.requires in
    let loop = c.loop-pair in
    let powers = pre.filled in
    let pmm = c.next_sectoral-pmm_odd in
    let e : 2 * loop.pair + 1 + 1 ≡ 2 * loop.pair + 2 = omega arith in
    let pmm2 : c.next_sectoral-pmm.result ≡ pmm.result ⊗ root_of (sectoral_ratio ((2 * loop.pair) + 1 + 1)) = rw e c.next_sectoral-pmm.ensures in
    let q = c.row.ensures.filled in let p = c.row.ensures.filled_2 in
    let q2 = c.row-in-loop-pair.ensures.filled in let p2 = c.row-in-loop-pair.ensures.filled_2 in
    let first = rows_below_more loop.invariant.2 powers q p (omega arith) (omega arith) (omega arith) (omega arith) refl refl pmm.ensures in (
      omega arith,
      omega arith,
      rows_below_more first powers q2 p2 (omega arith) (omega arith) (omega arith) (omega arith) (omega arith) (omega arith) pmm2,
    )

pub returns-else-nmax-eq0 : goal.returns-else-nmax-eq0
returns-else-nmax-eq0 c =
    let loop = c.loop-pair in
    let e : 2 * loop.pair ≡ c.args.nmax + 1 = omega arith in
    filled_to loop.invariant.2.table (ap row_start e)

pub row-requires-then-nmax-eq0 : goal.row-requires-then-nmax-eq0
row-requires-then-nmax-eq0 c =
    let e : 2 * c.loop-pair.pair ≡ c.args.nmax = omega arith in
    let at = rw e at c.loop-pair.invariant.2.rows.start in
    record { n_in_bounds = omega (arith, row_within c.args.nmax c.args.nmax (omega arith) (omega arith)); n_in_bounds_2 = omega (arith, row_within c.args.nmax c.args.nmax (omega arith) (omega arith)) }

pub returns-then-nmax-eq0 : goal.returns-then-nmax-eq0
returns-then-nmax-eq0 c =
    let loop = c.loop-pair in
    let powers = c.requires.filled in
    let q = c.row-then-nmax-eq0.ensures.filled in let p = c.row-then-nmax-eq0.ensures.filled_2 in
    let e : 2 * loop.pair ≡ c.args.nmax = omega arith in
    let all = rows_below_more (rw e at loop.invariant.2) powers q p (omega arith) (omega arith) (omega arith) (omega arith) refl refl refl in
    all.table
