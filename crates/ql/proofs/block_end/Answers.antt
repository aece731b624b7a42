-- `block_end` meets its contract: the block goes on up to m at least. Assumes nothing.
use Rattle.ql.specs.Ql.{uncoupled, after, block_end}
use Rattle.storage.specs.Iterate.{iterate_until, until_stop, until_step, until_done}
use native.Mathlib.Omega.{arith}
use mathlib.Core.Path.{◌≡◌, sym, ap, ◌∙◌}
use Prim.Native.Nat.{ℕ, ◌-◌}
use Rattle.ql.proofs.block_end.Goals as goal

pub loop-m-init : goal.loop-m-init
loop-m-init c =
    let a = c.args in
    (omega arith, omega arith, ap (λ (k : ℕ). iterate_until (uncoupled a.d.now a.e.now) after k a.l) (omega arith))

pub returns-then-not-coupled : goal.returns-then-not-coupled
unfolding uncoupled block_end
returns-then-not-coupled c =
    record {
      is = sym (until_stop (uncoupled c.args.d.now
          c.args.e.now) after _ _ (rw
          (← c.coupled.ensures, c.if-not-coupled.true))) ∙ c.loop-m.invariant.2;
      low = c.loop-m.invariant.0;
      high = c.loop-m.invariant.1;
    }

pub loop-m-preserved : goal.loop-m-preserved
unfolding uncoupled
loop-m-preserved c = (
  omega arith,
  omega arith,
  sym (until_step (uncoupled c.args.d.now
      c.args.e.now) after c.loop-m.m (c.args.n - 1) _ c.loop-m-test.true (rw
      (← c.coupled.ensures, c.if-not-coupled.false))) ∙ c.loop-m.invariant.2,
)

pub returns : goal.returns
unfolding block_end
returns c =
    record {
      is = (let e : c.args.n - 1 ≡ c.loop-m.m = omega arith in e)
          ∙ sym (until_done (uncoupled c.args.d.now c.args.e.now) after _ _ _ c.loop-m-test.false)
          ∙ c.loop-m.invariant.2;
      low = omega arith;
      high = omega arith;
    }
