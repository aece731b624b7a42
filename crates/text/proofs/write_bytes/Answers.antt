use lib.ListN.{length-set}
use native.Mathlib.Nat.{add-zero}
use Rattle.storage.specs.Store.{store}
use Rattle.text.specs.Stored.{rest_turn, rest_end}
use native.Mathlib.Omega.{arith}
use mathlib.Core.Path.{refl, ap, ◌∙◌}
use Prim.Native.Nat.{ℕ, ◌+◌}
use Rattle.text.proofs.write_bytes.Goals as goal

pub loop-i-init : goal.loop-i-init
loop-i-init c = (omega arith, refl, ap (λ (j : ℕ). store j c.args.bytes.now c.args.out.now) (add-zero c.args.at))

pub loop-i-preserved : goal.loop-i-preserved
loop-i-preserved c =
    let a = c.args in
    let l = c.loop-i in
    (omega arith, simp length-set l.invariant.1, rest_turn a.bytes.now l.out l.i (a.at + l.i) _ _ 0 (omega arith) (omega arith) refl ∙ l.invariant.2)

pub returns : goal.returns
returns c =
    let a = c.args in record { value = omega arith; out_after = rest_end a.bytes.now c.loop-i.out c.loop-i.i (a.at + c.loop-i.i) (omega arith) ∙ c.loop-i.invariant.2 }
