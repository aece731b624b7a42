-- `round` meets its contract. Assumes nothing.
use Rattle.ql.specs.QlLaws.{closed-broken, round_is}
use native.Mathlib.Omega.{arith}
use mathlib.Core.Path.{◌∙◌}
use borrow.Author.Rules.{rules}
use Rattle.ql.proofs.round.Goals as goal

pub rotations-requires : goal.rotations-requires
rotations-requires c =
    record { fact_1 = c.requires.fact_1; fact_2 = c.requires.fact_3 }

pub close-requires : goal.close-requires
close-requires c =
    let k = c.in-Some.ensures.kept in record {
      fact_1 = k.of_d;
      fact_2 = k.of_e;
      fact_3 = omega (
        arith,
        c.requires.fact_2,
        c.requires.fact_3,
      );
      fact_4 = c.requires.fact_3;
    }

pub returns-in-Some : goal.returns-in-Some
returns-in-Some c =
    let r = c.in-Some.ensures in
    let k = r.kept in
    let z = c.close.ensures in record {
      is = round_is _ _ _ _ _ _ _ _ _ _ _ c.ratio.ensures
          c.shifted-g.ensures c.start.ensures r.is z;
      kept = record { of_d = z.of_d ∙ k.of_d; of_e = z.of_e ∙ k.of_e; of_q = k.of_q };
    }

pub returns-in_default : goal.returns-in_default
returns-in_default c =
    let r = c.in_default.ensures in record {
      is = round_is _ _ _ _ _ _ _ _ _ _ _ c.ratio.ensures
          c.shifted-g.ensures c.start.ensures r.is (closed-broken _ _ _ _);
      kept = r.kept;
    }
