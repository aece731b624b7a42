-- `along_check` meets its contract: each way through it has its law. Assumes nothing.
use Rattle.point_lists.specs.Checks.{counted, many_points, many_tables, many_radii, many_pairs, many_orders, many_work, many_out, many_passed}
use Rattle.storage.specs.Checks.{tables_passed}
use native.Mathlib.Nat.{mul-le-mul_right}
use native.Mathlib.Omega.{arith}
use Prim.Native.Nat.{◌+◌}
use Rattle.refusal.proofs.Exits.{same_refusal}
use Rattle.point_lists.proofs.along_check.Goals as goal

pub returns-then-points-gt-MAX_POINTS : goal.returns-then-points-gt-MAX_POINTS
returns-then-points-gt-MAX_POINTS c = many_points _ _ _ _ _ _ _ _ _ _ _ (omega arith)

pub returns-then-radii-points : goal.returns-then-radii-points
returns-then-radii-points c =
    let d = c.in_ok-tables_check.ensures in
    many_radii _ _ _ _ _ _ _ _ _ _ _ (omega arith) d (λ e. omega arith)

pub returns-then-lats-points : goal.returns-then-lats-points
returns-then-lats-points c =
    let d = c.in_ok-tables_check.ensures in
    many_pairs _ _ _ _ _ _ _ _ _ _ _ (omega arith) d (omega arith) (λ e. omega arith)

pub overflow_add-nmax : goal.overflow_add-nmax
overflow_add-nmax c = let t = tables_passed _ _ _ c.in_ok-tables_check.ensures in omega arith

pub overflow_add-nmax-2 : goal.overflow_add-nmax-2
overflow_add-nmax-2 c = let t = tables_passed _ _ _ c.in_ok-tables_check.ensures in omega arith

pub overflow_mul-points : goal.overflow_mul-points
overflow_mul-points c =
    let t = tables_passed _ _ _ c.in_ok-tables_check.ensures in
    let n = c.args.nmax in
    omega (arith, mul-le-mul_right (n + n + 2) c.if-points-gt-MAX_POINTS.false)

pub returns-then-trig-points : goal.returns-then-trig-points
returns-then-trig-points c =
    let d = c.in_ok-tables_check.ensures in
    many_orders _ _ _ _ _ _ _ _ _ _ _ (omega arith) d (omega arith) (omega arith) (λ e. omega arith)

pub overflow_mul-tables : goal.overflow_mul-tables
overflow_mul-tables c = let t = counted _ _ _ _ c.requires.fact_1 c.in_ok-tables_check.ensures in omega arith

pub returns-then-work-tables : goal.returns-then-work-tables
returns-then-work-tables c =
    let d = c.in_ok-tables_check.ensures in
    let t = counted _ _ _ _ c.requires.fact_1 d in
    many_work _ _ _ _ _ _ _ _ _ _ _ (omega arith) d (omega arith) (omega arith) (omega arith) (omega arith)

pub overflow_mul-numbers : goal.overflow_mul-numbers
overflow_mul-numbers c = omega (arith, mul-le-mul_right c.args.points c.requires.fact_2)

pub returns-then-out-numbers : goal.returns-then-out-numbers
returns-then-out-numbers c =
    let d = c.in_ok-tables_check.ensures in
    let t = counted _ _ _ _ c.requires.fact_1 d in
    many_out _ _ _ _ _ _ _ _ _ _ _ (omega arith) d (omega arith) (omega arith) (omega arith) (omega arith) (omega arith)

pub returns-in_err-tables_check : goal.returns-in_err-tables_check
returns-in_err-tables_check c = same_refusal c.from_residual.ensures.1 (many_tables _ _ _ _ _ _ _ _ _ _ _ (omega arith) c.in_err-tables_check.ensures)

pub returns : goal.returns
returns c =
    let d = c.in_ok-tables_check.ensures in
    let t = counted _ _ _ _ c.requires.fact_1 d in
    many_passed _ _ _ _ _ _ _ _ _ _ _ (omega arith) d (omega arith) (omega arith) (omega arith) (omega arith) (omega arith)
