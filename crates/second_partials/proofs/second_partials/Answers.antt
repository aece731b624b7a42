-- `second_partials` meets its contract: past the checks it is a list of one point. Assumes nothing.
use Rattle.second_partials.specs.Promise.{one_second}
use Rattle.point_lists.specs.Checks.{point_accepted}
use native.Mathlib.Omega.{arith}
use mathlib.Core.Path.{sym, ◌∙◌}
use Rattle.second_partials.proofs.second_partials.Goals as goal

pub compute-requires : goal.compute-requires
compute-requires c = point_accepted 5 _ _ _ _ _ 10 (sym c.in_ok-point_check.was ∙ c.point_check.ensures)

pub returns : goal.returns
returns c =
    let a = c.args in
    let made = c.compute.ensures in record {
      value = one_second a.head.gm a.head.radius a.head.nmax a.c.now a.s.now a.trig.now a.r a.latitude.t a.latitude.u
          (sym c.in_ok-point_check.was ∙ c.point_check.ensures) made (omega arith);
      work_unchanged = made.rest;
      work_len_unchanged = made.long;
    }
