-- `derivative::lower_weights` meets its contract: the weights below order m are written, and `lower` is that of order m. Assumes nothing.
use Rattle.derivative.specs.Derivative.{lower_of, weight_above, lower_next, upper_at, weight_above_lem}
use Rattle.storage.specs.Filled.{Filled, filled_none, filled_more, filled_to}
use Rattle.number.specs.Whole.{whole, whole_one, whole_next}
use Rattle.number.specs.Float64.{of_whole}
use lib.ListN.{length-set}
use borrow.Author.Rules.{rules}
use native.Mathlib.Omega.{arith}
use mathlib.Core.Path.{◌≡◌, ap, ◌∙◌}
use Prim.Native.Nat.{ℕ, ◌+◌, ◌-◌, ◌≤◌}
use Rattle.derivative.proofs.lower_weights.Goals as goal

pub int_to_float-nf : goal.int_to_float-nf
int_to_float-nf c = whole _ (omega arith)

pub loop-m-init : goal.loop-m-init
loop-m-init c = (omega arith, omega arith, whole_one, c.first_lower-lower.ensures, filled_none)

pub loop-m-preserved : goal.loop-m-preserved
loop-m-preserved c =
    let a = c.args in
    let l = c.loop-m in
    let u = c.root_near-lower.ensures ∙ upper_at a.n l.m l.invariant.2 in (
      omega arith,
      omega arith,
      whole_next l.m l.invariant.2 (omega arith),
      u ∙ lower_next a.n l.m (omega arith) (omega arith) (omega arith),
      filled_to (filled_more l.invariant.4 (omega arith) (weight_above_lem a.n l.m (omega arith) l.invariant.3)) (omega arith),
    )

pub returns : goal.returns
returns c =
    let a = c.args in
    let l = c.loop-m in
    let e : l.m ≡ a.n = omega arith in
    let v = weight_above_lem a.n a.n (omega arith) (l.invariant.3 ∙ ap (lower_of a.n) e) in
    filled_to (filled_more (filled_to l.invariant.4 (ap (λ (x : ℕ). x - 1) e)) (omega arith) v) (omega arith)
