-- `merge_runs` meets its contract: what is left of the two runs, merged, is what is left of them merged. Assumes nothing.
use mathlib.Core.Path.{◌≡◌, sym, ap, ◌∙◌}
use native.Mathlib.Omega.{arith}
use Prim.Native.Nat.{ℕ, ◌+◌, ◌-◌, ◌≤◌}
use lib.ListN.{drop}
use lib.Seq.{slice}
use Rattle.number.specs.Ranking.{merge}
use Rattle.storage.specs.Elements.{from, from_zero}
use Rattle.storage.specs.Filled.{Filled, filled_none, filled_more, filled_to}
use Rattle.ranking.specs.Places.{key_before}
use Rattle.ranking.specs.Merging.{head_there, tail_there}
use Rattle.ranking.proofs.merge_runs.Goals as goal

pub loop-k-init : goal.loop-k-init
loop-k-init c =
    let none : 0 ≡ c.args.lo - c.args.lo = omega arith in
    let M = merge (key_before c.args.keys.now) (slice c.args.lo
    c.args.mid c.args.src.now) (slice c.args.mid
    c.args.hi c.args.src.now) in
    (omega arith, omega arith, omega arith, omega arith, omega arith, filled_to filled_none none, ap (λ (n : ℕ). drop n M) (sym none))

pub loop-k-preserved : goal.loop-k-preserved
loop-k-preserved c =
    let a = c.args in
    let M = merge (key_before a.keys.now) (slice a.lo a.mid a.src.now) (slice a.mid a.hi a.src.now) in
    let step = c.next-taken.ensures in
    let n = c.loop-k.k - a.lo in
    let rest = c.loop-k.invariant.6 ∙ step.taken in
    let more : n + 1 ≡ c.loop-k.k + 1 - a.lo = omega arith in (
      step.first,
      step.not_before,
      step.second,
      omega arith,
      omega arith,
      filled_to (filled_more c.loop-k.invariant.5 (omega arith) (sym (from_zero M 0 n ∙ head_there M n rest))) more,
      ap (λ (x : ℕ). drop x M) (sym more) ∙ tail_there M n rest,
    )

pub returns : goal.returns
returns c = filled_to c.loop-k.invariant.5 (omega arith)
