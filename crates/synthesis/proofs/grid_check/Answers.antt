-- `grid_check` meets its contract: each way through it has its law. Assumes nothing.
use Rattle.synthesis.specs.Checks.{many_rows, many_longitudes, wrong_tables, wrong_pairs, wrong_orders, no_love, short_work, short_out, all_passed}
use Rattle.storage.specs.Checks.{tables_passed}
use native.Mathlib.Nat.{mul-le-mul_right}
use native.Mathlib.Omega.{arith}
use Prim.Native.Nat.{◌+◌}
use Rattle.refusal.proofs.Exits.{same_refusal}
use Rattle.synthesis.proofs.grid_check.Goals as goal

pub returns-then-rows-gt-MAX_LINES : goal.returns-then-rows-gt-MAX_LINES
returns-then-rows-gt-MAX_LINES c = many_rows _ _ _ _ _ _ _ _ _ _ (omega arith)

pub returns-then-longitudes-gt-MAX_LINES : goal.returns-then-longitudes-gt-MAX_LINES
returns-then-longitudes-gt-MAX_LINES c = many_longitudes _ _ _ _ _ _ _ _ _ _ (omega arith) (omega arith)

pub returns-then-lats-rows : goal.returns-then-lats-rows
returns-then-lats-rows c = wrong_pairs _ _ _ _ _ _ _ _ _ _ (omega arith) (omega arith) c.in_ok-tables_check.ensures (λ e. omega arith)

pub overflow_add-nmax : goal.overflow_add-nmax
overflow_add-nmax c = let t = tables_passed _ _ _ c.in_ok-tables_check.ensures in omega arith

pub overflow_add-nmax-2 : goal.overflow_add-nmax-2
overflow_add-nmax-2 c = let t = tables_passed _ _ _ c.in_ok-tables_check.ensures in omega arith

pub overflow_add-nmax-3 : goal.overflow_add-nmax-3
overflow_add-nmax-3 c = let t = tables_passed _ _ _ c.in_ok-tables_check.ensures in omega arith

pub overflow_mul-longitudes : goal.overflow_mul-longitudes
overflow_mul-longitudes c =
    let t = tables_passed _ _ _ c.in_ok-tables_check.ensures in
    let n = c.args.nmax in
    omega (arith, mul-le-mul_right (n + n + 2) c.if-longitudes-gt-MAX_LINES.false)

pub returns-then-trig-longitudes : goal.returns-then-trig-longitudes
returns-then-trig-longitudes c = wrong_orders _ _ _ _ _ _ _ _ _ _ (omega arith) (omega arith) c.in_ok-tables_check.ensures (omega arith) (λ e. omega arith)

pub returns-then-lacks : goal.returns-then-lacks
returns-then-lacks c = no_love _ _ _ _ _ _ _ _ _ _ (omega arith) (omega arith) c.in_ok-tables_check.ensures (omega arith) (omega arith) c.if-lacks.true

pub overflow_mul-clen : goal.overflow_mul-clen
overflow_mul-clen c = let t = tables_passed _ _ _ c.in_ok-tables_check.ensures in omega arith

pub overflow_mul-nmax : goal.overflow_mul-nmax
overflow_mul-nmax c = let t = tables_passed _ _ _ c.in_ok-tables_check.ensures in omega arith

pub overflow_add-clen : goal.overflow_add-clen
overflow_add-clen c = let t = tables_passed _ _ _ c.in_ok-tables_check.ensures in omega arith

pub returns-then-work-clen : goal.returns-then-work-clen
returns-then-work-clen c =
    let d = c.in_ok-tables_check.ensures in
    let t = tables_passed _ _ _ d in
    short_work _ _ _ _ _ _ _ _ _ _ (omega arith) (omega arith) d (omega arith) (omega arith) c.if-lacks.false (omega arith)

pub overflow_mul-rows : goal.overflow_mul-rows
overflow_mul-rows c =
    let l = c.args.longitudes in
    omega (arith, mul-le-mul_right l c.if-rows-gt-MAX_LINES.false)

pub returns-then-out-rows : goal.returns-then-out-rows
returns-then-out-rows c =
    let d = c.in_ok-tables_check.ensures in
    let t = tables_passed _ _ _ d in
    short_out _ _ _ _ _ _ _ _ _ _ (omega arith) (omega arith) d (omega arith) (omega arith) c.if-lacks.false (omega arith) (omega arith)

pub returns-in_err-tables_check : goal.returns-in_err-tables_check
returns-in_err-tables_check c = same_refusal c.from_residual.ensures.1 (wrong_tables _ _ _ _ _ _ _ _ _ _ (omega arith) (omega arith) c.in_err-tables_check.ensures)

pub returns : goal.returns
returns c =
    let d = c.in_ok-tables_check.ensures in
    let t = tables_passed _ _ _ d in
    all_passed _ _ _ _ _ _ _ _ _ _ (omega arith) (omega arith) d (omega arith) (omega arith) c.if-lacks.false (omega arith) (omega arith)
