-- `grid` meets its contract: past the checks the rows are written; demand 3 follows from the equations. Assumes nothing.
use Rattle.synthesis.specs.Promise.{promised}
use Rattle.synthesis.specs.Checks.{accepted}
use Rattle.functional.specs.Factor.{factor_of, lacks_love, factor_fits}
use mathlib.Core.Path.{refl}
use lib.ListN.{length}
use Rattle.refusal.proofs.Exits.{same_refusal}
use Rattle.synthesis.proofs.grid.Goals as goal

pub compute-requires : goal.compute-requires
compute-requires c =
    accepted _ _ _ _ _ _ _ _ _ _ c.in_ok-grid_check.ensures

pub returns-in_err-grid_check : goal.returns-in_err-grid_check
returns-in_err-grid_check c =
    let a = c.args in
    let love = a.love.now in
    let N = a.head.nmax in
    let dc = c.shared_slice_known-1.given in
    let ds = c.shared_slice_known-2-1.given in
    let dt = c.shared_slice_known-5-1.given in
    let all = promised (factor_of a.functional love a.head.gm a.head.radius a.r) a.latitudes.now a.c.now a.s.now a.trig.now N a.rows
    a.longitudes (lacks_love a.functional (length love) N) c.lacks_love-lacks.result a.work.now a.work.now a.out.now
    (factor_fits a.functional love a.head.gm a.head.radius a.r) dc ds dt
    c.in_err-grid_check.ensures c.lacks_love-lacks.ensures refl refl refl in
    rw (same_refusal c.from_residual.ensures.1 refl) (record { value = all.0; out_after = all.1.0; work_unchanged = all.1.1.0; work_len_unchanged = all.1.1.1.0; by_index = all.1.1.1.1 })

pub returns : goal.returns
returns c =
    let made = c.compute.ensures in
    let w = c.compute.new.work in
    let a = c.args in
    let love = a.love.now in
    let N = a.head.nmax in
    let dc = c.shared_slice_known-1.given in
    let ds = c.shared_slice_known-2-1.given in
    let dt = c.shared_slice_known-5-1.given in
    let all = promised (factor_of a.functional love a.head.gm a.head.radius a.r) a.latitudes.now a.c.now a.s.now a.trig.now N a.rows
    a.longitudes (lacks_love a.functional (length love) N) c.lacks_love-lacks.result a.work.now w a.out.now
    (factor_fits a.functional love a.head.gm a.head.radius a.r) dc ds dt
    c.in_ok-grid_check.ensures c.lacks_love-lacks.ensures made.values.is made.rest made.long in
    record { value = all.0; out_after = all.1.0; work_unchanged = all.1.1.0; work_len_unchanged = all.1.1.1.0; by_index = all.1.1.1.1 }
