-- `rank` meets its contract: the places are runs of `width`, each ranked. Assumes nothing.
use mathlib.Core.Path.{◌≡◌, refl, ◌∙◌}
use native.Mathlib.Nat.{le_refl}
use native.Mathlib.Omega.{arith}
use Prim.Native.Nat.{◌+◌, ◌-◌, ◌*◌, ◌≤◌}
use lib.ListN.{length}
use Rattle.storage.specs.Filled.{Filled, filled_self, filled_again}
use Rattle.storage.specs.Rectangle.{by_rows}
use Rattle.ranking.specs.Runs.{ranked_run, runs_of_one, runs_width, all_ranked}
use Rattle.ranking.proofs.rank.Goals as goal

pub loop-width-init : goal.loop-width-init
loop-width-init c = (
  omega arith,
  omega arith,
  filled_self (runs_of_one c.args.keys.now
      c.count_up.ensures),
  refl,
)

pub pass-requires : goal.pass-requires
pass-requires c =
    let i = c.loop-width.invariant in
    let p = c.requires in
    let long = c.count_up.ensures.long in
    record { le_width_1 = i.0; le_width_2 = i.1; le_width_3 = omega (arith, p.fact_1); le_width_4 = omega (arith, p.fact_2, i.2.long, long); le_width_5 = omega (arith, p.fact_3, i.3); filled = filled_self i.2 }

pub pass-requires-in-loop-width : goal.pass-requires-in-loop-width
pass-requires-in-loop-width c =
    let i = c.loop-width.invariant in
    let p = c.requires in
    let long = c.count_up.ensures.long in
    let first = c.pass.ensures in
    let more = c.loop-width-test.true in record {
      le_width_1 = omega (arith, i.0);
      le_width_2 = omega (arith, p.fact_1, more);
      le_width_3 = omega (arith, p.fact_1);
      le_width_4 = omega (arith, p.fact_3, i.3, first.long);
      le_width_5 = omega
          (arith, p.fact_2, i.2.long, long);
      filled = filled_self first;
    }

pub loop-width-preserved : goal.loop-width-preserved
loop-width-preserved c =
    let i = c.loop-width.invariant in
    let p = c.requires in
    let w = c.loop-width.width in
    let four : w + w + (w + w) ≡ 4 * w = omega arith in
    let n = length c.args.keys.now in
    let made = filled_again i.2 c.pass-in-loop-width.ensures (le_refl n) in (
      omega (arith, i.0),
      omega (arith, p.fact_1, c.loop-width-test.true),
      runs_width c.args.keys.now four made,
      c.pass.ensures.long ∙ i.3,
    )

pub returns : goal.returns
returns c =
    let i = c.loop-width.invariant in record {
      filled = all_ranked c.args.keys.now c.loop-width.width
          c.loop-width-test.false (filled_again c.count_up.ensures i.2 (le_refl (length
          c.args.keys.now)));
      spare_len_unchanged = i.3;
    }
