-- `rounds` meets its contract: the rounds still to come make of the lists now what all make of the lists at the start. Assumes nothing.
use Rattle.ql.specs.Ql.{state, settled_in, round_unless_alone, rounds}
use Rattle.ql.specs.QlLaws.{held, Kept₃, lists_kept, all_kept, rounds_settled, rounds_more, rounds-left}
use Rattle.storage.specs.Iterate.{iterate_until}
use Rattle.matrix.specs.Layout.{kept_none}
use mathlib.Core.Bool.{false}
use native.Mathlib.Omega.{arith}
use mathlib.Core.Path.{◌≡◌, refl, sym, ap, ◌∙◌}
use Prim.Native.Nat.{ℕ, ◌+◌, ◌-◌, ◌≤◌}
use Rattle.ql.proofs.rounds.Goals as goal

pub loop-k-init : goal.loop-k-init
unfolding rounds
loop-k-init c =
    let z : c.args.done + 0 ≡ c.args.done = omega arith in
    (record { of_d = c.requires.fact_1.of_d; of_e = c.requires.fact_1.of_e; of_q = kept_none }, omega arith, rw z refl)

pub block_end-m-requires : goal.block_end-m-requires
block_end-m-requires c = record { fact_1 = c.requires.fact_2; fact_2 = c.loop-k.invariant.0.of_d; fact_3 = c.loop-k.invariant.0.of_e }

pub returns-then-m-l : goal.returns-then-m-l
returns-then-m-l c = record {
  fact_1 = record {
    is = sym (rounds_settled _ _ _ _ _ _ _ _ c.block_end-m.ensures.is (omega arith)
        c.if-m-l.true) ∙ c.loop-k.invariant.2;
    kept = c.loop-k.invariant.0;
  };
  fact_2 = omega arith;
}

pub round-requires : goal.round-requires
round-requires c =
    let b = c.block_end-m.ensures in record {
      fact_1 = lists_kept c.loop-k.invariant.0 c.requires.fact_1;
      fact_2 = omega
          (arith, b.low, c.if-m-l.false);
      fact_3 = b.high;
    }

pub loop-k-preserved : goal.loop-k-preserved
loop-k-preserved c = (
  all_kept c.loop-k.invariant.0 c.round.ensures.kept,
  omega arith,
  sym (rounds_more _ _ _ _ _ _ _ _
      c.block_end-m.ensures.is
      (omega arith) c.if-m-l.false
      c.round.ensures.is) ∙ c.loop-k.invariant.2,
)

pub returns : goal.returns
returns c =
    let e : c.loop-k.k ≡ 100 = omega arith in record {
      fact_1 = record {
        is =
            ap (λ (j : ℕ). state (held c.args.n c.loop-k.d c.loop-k.e
            c.loop-k.q) (c.args.done + j) false) (sym e)
            ∙ sym (rounds-left c.args.n c.args.l
            c.args.done c.loop-k.k _ c.loop-k-test.false)
            ∙ c.loop-k.invariant.2;
        kept = c.loop-k.invariant.0;
      };
      fact_2 = omega arith;
    }
