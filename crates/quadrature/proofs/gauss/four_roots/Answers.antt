-- `gauss::four_roots` meets its contract: each root goes as the one of `legendre_root` does, and stays once it has settled. Assumes nothing.
use Rattle.quadrature.specs.Gauss.{start}
use Rattle.quadrature.specs.GaussLaws.{none_corrected, all_corrected, root_settled, root_last}
use native.Mathlib.Omega.{arith}
use Prim.Native.Nat.{◌≤◌, ◌<◌}
use Rattle.quadrature.proofs.gauss.four_roots.Goals as goal

pub loop-k-init : goal.loop-k-init
loop-k-init c = (
  omega arith,
  none_corrected _ _ c.start-a.ensures,
  none_corrected _ _ c.start-b.ensures,
  none_corrected _ _ c.start-c.ensures,
  none_corrected _ _ c.start-d.ensures,
)

pub returns-then-d : goal.returns-then-d
returns-then-d c =
    let i = c.loop-k.invariant in
    let a = root_settled i.1 c.if-a.true in
    let b = root_settled i.2 c.if-b.true in
    record { fact_1 = a; fact_2 = b; fact_3 = root_settled i.3 c.if-c.true; fact_4 = root_settled i.4 c.if-d.true }

pub correct_unless_settled-d-requires : goal.correct_unless_settled-d-requires
correct_unless_settled-d-requires c =
    record { fact_1 = c.requires; fact_2 = omega (arith, c.loop-k.invariant.4.few, c.loop-k-test.true) }

pub loop-k-preserved : goal.loop-k-preserved
loop-k-preserved c =
    let i = c.loop-k.invariant in
    let p = c.four_pairs-p.ensures in
    let h : c.loop-k._k < 100 = omega arith in (
      omega arith,
      all_corrected i.1 h p.fact_1 c.correct_unless_settled-a.ensures,
      all_corrected i.2 h p.fact_2 c.correct_unless_settled-b.ensures,
      all_corrected i.3 h p.fact_3 c.correct_unless_settled-c.ensures,
      all_corrected i.4 h p.fact_4 c.correct_unless_settled-d.ensures,
    )

pub returns : goal.returns
returns c =
    let i = c.loop-k.invariant in
    let h : 100 ≤ c.loop-k._k = omega arith in
    record { fact_1 = root_last i.1 h; fact_2 = root_last i.2 h; fact_3 = root_last i.3 h; fact_4 = root_last i.4 h }
