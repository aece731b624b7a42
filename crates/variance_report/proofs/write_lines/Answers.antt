use mathlib.Core.List.{List}
use lib.Ieee.{nan}
use Rattle.storage.specs.Store.{store, store_none}
use Rattle.variance_report.proofs.Texts.{length_decimal, length-line, lines_turn, lines_length, lines_none}
use native.Mathlib.Omega.{arith}
use mathlib.Core.Path.{refl, sym, ap, ◌∙◌}
use Prim.Native.Nat.{ℕ}
use lib.ListN.{length}
use Rattle.variance_report.proofs.write_lines.Goals as goal

pub loop-n-init : goal.loop-n-init
loop-n-init c = (omega arith, refl, refl)

pub loop-n-preserved : goal.loop-n-preserved
loop-n-preserved c =
    let l = c.loop-n in
    let vs = c.args.variances.now in
    let w = c.write_line-at in
    let b = c.bits_of_number in (
      omega (arith, length-line l.n b.result, length_decimal l.n (omega arith)),
      lines_length vs nan _ _ _ _ (omega arith) b.ensures w.ensures.value ∙ l.invariant.1,
      lines_turn vs nan _ _ _ _ (omega arith) b.ensures w.ensures.value _ _ w.ensures.out_after ∙ l.invariant.2,
    )

pub returns : goal.returns
returns c =
    let z = lines_none c.args.variances.now c.loop-n.n (omega arith) in record {
      value = omega (arith, c.loop-n.invariant.1, ap length z);
      out_after = sym (store_none c.loop-n.at c.loop-n.out) ∙ ap (λ (t : List ℕ). store c.loop-n.at t c.loop-n.out) (sym z)
          ∙ c.loop-n.invariant.2;
    }
