-- `add_degree` meets its contract: the total so far is that of the orders below m. Assumes nothing.
use Rattle.rounding.specs.Sums.{running_sum}
use Rattle.rounding.specs.SumSteps.{running_none, running_more}
use Rattle.storage.specs.Elements.{from}
use Rattle.slepian.specs.Average.{degree_term}
use lib.Ieee.{binary64}
use native.Mathlib.Omega.{arith}
use mathlib.Core.Path.{◌≡◌, ap, ◌∙◌}
use Prim.Native.Nat.{ℕ, ◌+◌}
use Rattle.slepian.proofs.add_degree.Goals as goal

pub loop-m-init : goal.loop-m-init
loop-m-init c = (omega arith, running_none binary64 _ _)

pub loop-m-preserved : goal.loop-m-preserved
unfolding degree_term from
loop-m-preserved c =
    let a = c.args in
    (omega arith, cc (running_more binary64 (degree_term a.factor a.at a.c.now a.s.now a.kc.now a.ks.now) c.loop-m.m a.sum))

pub returns : goal.returns
returns c =
    let e : c.loop-m.m ≡ c.args.n + 1 = omega arith in
    let a = c.args in
    c.loop-m.invariant.1 ∙ ap (λ (k : ℕ). running_sum binary64 (degree_term a.factor a.at a.c.now a.s.now a.kc.now a.ks.now) k a.sum) e
