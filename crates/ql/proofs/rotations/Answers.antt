-- `rotations` meets its contract: those still to come make of the lists now what all make of the lists at the start. Assumes nothing.
use Rattle.ql.specs.Ql.{chase, broken_off, rotate_at, rotations}
use Rattle.ql.specs.QlLaws.{held, Kept₃, lists_kept, all_kept}
use Rattle.storage.specs.Iterate.{iterate_down, down_stop, down_step, down_done}
use Rattle.matrix.specs.Layout.{kept_none}
use native.Mathlib.Omega.{arith}
use mathlib.Core.Path.{◌≡◌, refl, sym, ap, ◌∙◌}
use Prim.Native.Nat.{◌-◌, ◌≤◌}
use Rattle.ql.proofs.rotations.Goals as goal

pub loop-i-init : goal.loop-i-init
loop-i-init c =
    (record { of_d = c.requires.fact_1.of_d; of_e = c.requires.fact_1.of_e; of_q = kept_none }, omega arith, refl)

pub rotate_at-requires : goal.rotate_at-requires
rotate_at-requires c = record {
  fact_1 = lists_kept c.loop-i.invariant.0
      c.requires.fact_1;
  fact_2 = omega arith;
  fact_3 = c.requires.fact_2;
}

pub returns-in_err-x : goal.returns-in_err-x
unfolding rotations broken_off
returns-in_err-x c = record {
  is = ap (chase (held c.args.n c.rotate_at.new.d c.rotate_at.new.e c.rotate_at.new.q)) c.from_residual.ensures
      ∙ sym (down_stop broken_off (rotate_at c.args.n c.args.m)
      c.args.l (c.loop-i.i - 1 - c.args.l) _ refl)
      ∙ ap (iterate_down broken_off (rotate_at c.args.n c.args.m)
      c.args.l (c.loop-i.i - 1 - c.args.l))
      c.in_err-x.ensures.is
      ∙ sym (down_step broken_off (rotate_at c.args.n c.args.m)
      c.args.l c.loop-i.i _ c.loop-i-test.true refl)
      ∙ c.loop-i.invariant.2;
  kept = all_kept c.loop-i.invariant.0 c.in_err-x.ensures.kept;
}

pub loop-i-preserved : goal.loop-i-preserved
unfolding broken_off
loop-i-preserved c = (
  all_kept c.loop-i.invariant.0 c.in_ok-x.ensures.kept,
  omega arith,
  ap (iterate_down broken_off (rotate_at c.args.n c.args.m)
      c.args.l (c.loop-i.i - 1 - c.args.l))
      c.in_ok-x.ensures.is
      ∙ sym (down_step broken_off (rotate_at c.args.n c.args.m)
      c.args.l c.loop-i.i _ c.loop-i-test.true refl)
      ∙ c.loop-i.invariant.2,
)

pub returns : goal.returns
unfolding rotations
returns c =
    record {
      is = sym (down_done broken_off (rotate_at _ _) c.args.l _ _
          c.loop-i-test.false) ∙ c.loop-i.invariant.2;
      kept = c.loop-i.invariant.0;
    }
