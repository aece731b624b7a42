-- `geopotential_acceleration_neu` meets its contract. Assumes nothing.
use Rattle.geopotential.specs.Points.{out_short, out_done}
use Rattle.storage.specs.Elements.{from}
use Rattle.storage.specs.Fill.{fill}
use mathlib.Core.List.{List}
use lib.Ieee.{Float, nan}
use native.Mathlib.Omega.{arith}
use mathlib.Core.Path.{refl, ap, ◌∙◌}
use borrow.Author.Rules.{rules}
use Rattle.geopotential.proofs.points.geopotential_acceleration_neu.Goals as goal

pub returns-then-out-lt3 : goal.returns-then-out-lt3
returns-then-out-lt3 c = let e = out_short 3 _ c.if-out-lt3.true in record { value = rw (← e) refl; out_after = rw (← e) refl }

pub returns : goal.returns
returns c =
    let e = out_done 3 _ c.if-out-lt3.false in record {
      value = rw (← e) refl;
      out_after = rw (← e) (c.store_three.ensures.is ∙ ap (λ (l : List Float). fill 0 (from 0 l nan) 3
          c.args.out.now)
          c.acceleration_neu-three.ensures);
    }
