-- `partials` meets its contract: past the checks it is a list of one point. Assumes nothing.
use Rattle.partials.specs.Promise.{one_point}
use Rattle.point_lists.specs.Checks.{point_accepted}
use native.Mathlib.Omega.{arith}
use mathlib.Core.Path.{sym, ◌∙◌}
use Rattle.partials.proofs.partials.Goals as goal

pub compute-requires : goal.compute-requires
compute-requires c =
    let point-check = c.point_check in
    point_accepted 4 _ _ _ _ _ 4 (sym c.in_ok-point_check.was ∙ point-check.ensures)

pub returns : goal.returns
returns c =
    let point-check = c.point_check in
    let compute = c.compute in
    let a = c.args in
    let d = sym c.in_ok-point_check.was ∙ point-check.ensures in
    let made = compute.ensures in record {
      value = one_point a.head.gm a.head.radius a.head.nmax a.c.now a.s.now a.trig.now a.r a.latitude.t a.latitude.u d made
          (omega arith);
      work_unchanged = made.rest;
      work_len_unchanged = made.long;
    }
