-- `functions` meets its contract: the functions of the degrees below l are written, l * l of them. Assumes nothing.
use Rattle.region_nodes.specs.Basis.{basis_size}
use Rattle.region_nodes.specs.NodeLaws.{degree_within, functions_more}
use Rattle.storage.specs.Filled.{filled_none, filled_to}
use Rattle.storage.specs.Triangle.{row_start_zero}
use native.Mathlib.Omega.{arith}
use mathlib.Core.Path.{◌≡◌, refl, sym, ap, ◌∙◌}
use Prim.Native.Nat.{ℕ, ◌+◌, ◌*◌}
use Rattle.region_nodes.proofs.basis.functions.Goals as goal

pub loop-l-init : goal.loop-l-init
loop-l-init c = (omega arith, sym row_start_zero, refl, omega arith, omega arith, filled_none)

pub functions_of-requires : goal.functions_of-requires
functions_of-requires c =
    let w = degree_within c.loop-l.l c.args.lmax (omega arith) c.requires.fact_1 in
    record { fact_1 = omega arith; fact_2 = omega (arith, w); fact_3 = omega (arith, w) }

pub loop-l-preserved : goal.loop-l-preserved
loop-l-preserved c =
    let w = degree_within c.loop-l.l c.args.lmax (omega arith) c.requires.fact_1 in
    let r = functions_more c.args.lmax c.loop-l.l _ (omega arith) c.loop-l.invariant.5
    c.functions_of.ensures c.loop-l.invariant.2 refl c.loop-l.invariant.1 refl in
    (omega arith, omega (arith, w), omega arith, omega (arith, w), omega (arith, w), filled_to r (omega arith))

pub returns : goal.returns
unfolding basis_size
returns c =
    let e : c.loop-l.l ≡ c.args.lmax + 1 = omega arith in
    filled_to c.loop-l.invariant.5 (c.loop-l.invariant.2 ∙ ap (λ (x : ℕ). x * x) e)
