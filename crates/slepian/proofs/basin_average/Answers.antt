-- `basin_average` meets its contract: past the checks the sum is divided by the kernel's first number; demand 3 follows from the equation.
-- Assumes nothing.
use Rattle.std.specs.Prelude.{List, Float, get_or}
use Rattle.std.proofs.Math.Dec.{T}
use Rattle.std.specs.Float.Ieee.{nan, binary64, fits}
use Rattle.rounding.specs.Margins.{TableFits}
use Rattle.functional.specs.Factor.{factor_of, lacks_love}
use Rattle.storage.specs.Triangle.{cells, idx, row_start_monotone, row_start_least}
use Rattle.slepian.specs.Average.{promised, answer-value, answer_refused, check_top, average_is}
use native.Mathlib.Nat.{min-le_left, min-le_right}
use native.Mathlib.Omega.{arith}
use mathlib.Core.Path.{ap, ◌∙◌}
use Prim.Native.Nat.{ℕ, ◌+◌}
use lib.ListN.{length}
use Rattle.refusal.proofs.Exits.{same_refusal}
use mathlib.Core.Path.{refl}
use Rattle.slepian.proofs.basin_average.Goals as goal

-- a list of doubles is a table of them
table_fits : (l : List Float) → ((k : ℕ) → T (fits binary64 (get_or l k nan))) → TableFits (cells l nan)
unfolding cells
table_fits l h n m = h (idx n m)

pub sum_degrees-sum-requires : goal.sum_degrees-sum-requires
sum_degrees-sum-requires c =
    let a = c.args in
    let top = c.smaller-top.ensures in
    let ok = check_top _ _ _ _ _ _ _ c.in_ok-average_check.ensures in
    let l = min-le_left a.field.nmax a.kernel.nmax in
    let r = min-le_right a.field.nmax a.kernel.nmax in
    let f = row_start_monotone (c.smaller-top.result + 1) (a.field.nmax + 1) (omega arith) in
    let k = row_start_monotone (c.smaller-top.result + 1) (a.kernel.nmax + 1) (omega arith) in
    record { fact_1 = omega arith; fact_2 = omega arith; fact_3 = omega arith; fact_4 = omega arith; fact_5 = omega arith }

pub bounds-kc-0 : goal.bounds-kc-0
bounds-kc-0 c =
    let ok = check_top _ _ _ _ _ _ _ c.in_ok-average_check.ensures in
    omega (arith, row_start_least (c.args.kernel.nmax + 1))

pub returns-in_err-average_check : goal.returns-in_err-average_check
returns-in_err-average_check c =
    let a = c.args in
    let lacks = c.lacks_love-lacks.ensures ∙ ap (lacks_love a.functional (length a.love.now)) c.smaller-top.ensures in
    let all = promised _ _ _ _ _ _ _ a.c.now a.s.now a.kc.now a.ks.now _ _ _ _ _
    (table_fits _ c.shared_slice_known-1.given) (table_fits _ c.shared_slice_known-2-1.given)
    (table_fits _ c.shared_slice_known-3-1.given) (table_fits _ c.shared_slice_known-4-1.given)
    (answer_refused _ _ _ _ _ _ _ a.c.now a.s.now a.kc.now a.ks.now a.functional a.love.now a.field.gm a.field.radius a.r
    c.in_err-average_check.ensures lacks) in
    rw (same_refusal c.from_residual.ensures.1 refl) (record { value = all.0; within_margin = all.1 })

pub returns : goal.returns
returns c =
    let a = c.args in
    let lacks = c.lacks_love-lacks.ensures ∙ ap (lacks_love a.functional (length a.love.now)) c.smaller-top.ensures in
    let all = promised _ _ _ _ _ _ _ a.c.now a.s.now a.kc.now a.ks.now _ _ _ _ _
    (table_fits _ c.shared_slice_known-1.given) (table_fits _ c.shared_slice_known-2-1.given)
    (table_fits _ c.shared_slice_known-3-1.given) (table_fits _ c.shared_slice_known-4-1.given)
    (answer-value _ _ _ _ _ _ _ a.c.now a.s.now a.kc.now a.ks.now a.functional a.love.now a.field.gm a.field.radius a.r
    c.in_ok-average_check.ensures lacks
    (average_is a.c.now a.s.now a.kc.now a.ks.now (factor_of a.functional a.love.now a.field.gm a.field.radius a.r) c.sum_degrees-sum.ensures c.smaller-top.ensures)) in
    record { value = all.0; within_margin = all.1 }
