-- `iterate` meets its contract: the l still to come make of the lists now what all make of the lists at the start. Assumes nothing.
use Rattle.ql.specs.Ql.{state, rounds_at, iteration}
use Rattle.ql.specs.QlLaws.{held, Kept₃, lists_kept, all_kept, rounds_at_lem}
use Rattle.storage.specs.Iterate.{iterate, iterate_step, iterate_done}
use Rattle.matrix.specs.Layout.{kept_none}
use borrow.Author.Rules.{rules}
use native.Mathlib.Omega.{arith}
use mathlib.Core.Path.{◌≡◌, refl, sym, ap, ◌∙◌}
use Prim.Native.Nat.{◌+◌, ◌-◌, ◌*◌, ◌≤◌}
use Rattle.ql.proofs.iterate.Goals as goal

pub loop-l-init : goal.loop-l-init
unfolding iteration
loop-l-init c = (
  record { of_d = c.requires.of_d; of_e = c.requires.of_e; of_q = kept_none },
  omega arith,
  omega arith,
  refl,
)

pub rounds-r-requires : goal.rounds-r-requires
rounds-r-requires c = record {
  fact_1 = lists_kept c.loop-l.invariant.0 c.requires;
  fact_2 = c.loop-l-test.true;
  fact_3 = omega (
    arith,
    c.loop-l.invariant.2,
    c.loop-l-test.true,
    c.requires.of_q.small,
  );
}

pub loop-l-preserved : goal.loop-l-preserved
loop-l-preserved c = (
  all_kept c.loop-l.invariant.0 c.rounds-r.ensures.fact_1.kept,
  omega arith,
  omega (arith, c.rounds-r.ensures.fact_2, c.loop-l.invariant.2),
  ap (iterate (rounds_at c.args.n) (c.loop-l.l + 1) c.args.n) (rounds_at_lem
      c.args.n c.loop-l.l c.loop-l.done c.loop-l.settled _
      c.rounds-r.ensures.fact_1.is c.both-settled.ensures)
      ∙ sym (iterate_step (rounds_at c.args.n) c.loop-l.l c.args.n _
      c.loop-l-test.true)
      ∙ c.loop-l.invariant.3,
)

pub returns : goal.returns
returns c =
    record {
      is = sym (iterate_done (rounds_at _) _ _ _ c.loop-l-test.false) ∙ c.loop-l.invariant.3;
      kept = c.loop-l.invariant.0;
    }
