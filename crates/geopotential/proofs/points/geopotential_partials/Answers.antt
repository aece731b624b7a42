-- `geopotential_partials` meets its contract: one point is a list of one. Assumes nothing.
use Rattle.geopotential.specs.Points.{one_check, one_point}
use Rattle.refusal.specs.Numbers.{after}
use mathlib.Core.List.{List}
use lib.Ieee.{Float}
use mathlib.Core.Path.{ap, ◌∙◌}
use Rattle.geopotential.proofs.points.geopotential_partials.Goals as goal

pub returns : goal.returns
returns c =
    let a = c.args in
    let f = c.partials_along in
    let e = f.ensures.value ∙ one_check 4 4 a.nmax _ _ _ _ _ in record {
      value = rw (← e) c.result_number.ensures;
      out_after = rw (← e)
          (f.ensures.out_after
          ∙ ap (λ (o : List Float). after f.result o a.out.now) (one_point a.gm a.radius a.nmax a.c.now a.s.now a.trig.now
          a.r a.t a.u a.out.now));
      work_unchanged = rw (← e) f.ensures.work_unchanged;
      work_len_unchanged = f.ensures.work_len_unchanged;
    }
