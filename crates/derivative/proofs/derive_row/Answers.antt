-- `derivative::derive_row` meets its contract: order 0, and then the others. Assumes nothing.
use Rattle.derivative.specs.Derivative.{derived_row, derived_above, derived_origin, derived_zonal}
use Rattle.storage.specs.Filled.{filled_one, filled_join, filled_to}
use Rattle.storage.specs.Elements.{from}
use Rattle.number.specs.Float64.{◌⊗◌}
use native.Mathlib.Nat.{add-zero}
use lib.Ieee.{nan}
use lib.ListN.{length-set, get_or}
use native.Mathlib.Omega.{arith}
use mathlib.Core.Path.{refl, sym, ap, ◌∙◌}
use Prim.Native.Nat.{ℕ, ◌+◌}
use borrow.Author.Rules.{rules}
use Rattle.derivative.proofs.derive_row.Goals as goal

pub returns-then-n-eq0 : goal.returns-then-n-eq0
returns-then-n-eq0 c =
    let a = c.args in
    let e = c.if-n-eq0.true in
    filled_to (filled_one a.dst.now (derived_origin a.n _ _ (omega arith))) (omega arith)

pub derive_orders-requires : goal.derive_orders-requires
derive_orders-requires c = record { fact_1 = omega arith; fact_2 = omega arith; fact_3 = omega arith; fact_4 = simp length-set (omega arith) }

pub returns : goal.returns
unfolding derived_above from
returns c =
    let a = c.args in
    let w = from a.wat a.w.now nan in
    let p = from a.at a.src.now nan in
    let src = get_or a.src.now (a.at + 1) nan in
    let zero = ap (λ (i : ℕ). get_or a.w.now i nan ⊗ src) (sym (add-zero a.wat)) in
    let first = filled_one a.dst.now (zero ∙ derived_zonal a.n (omega arith) w p) in
    let all = filled_join {F = derived_row a.n w p} {G = derived_above a.n w p} first c.derive_orders.ensures refl (λ i h. refl) in
    filled_to all (omega arith)
