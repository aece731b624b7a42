-- `number::root_digits::bisect` meets its contract. The root lies between lo - 1/2 and hi - 1/2. Assumes nothing.
use Prim.Native.Nat.{ℕ, ◌+◌, ◌/◌, ◌-◌, ◌*◌, ◌^◌, ◌≤◌, ◌<◌}
use native.Mathlib.Omega.{arith}
use mathlib.Core.Path.{◌≡◌, sym, ◌∙◌, subst}
use borrow.Author.Tests.{ltb-true, ltb-false}
use Rattle.number.proofs.Squares.{next_to}
use Rattle.number.proofs.root_digits.bisect.Goals as goal

pub loop-hi-init : goal.loop-hi-init
loop-hi-init c = (omega arith, omega arith, omega arith, omega arith, omega arith)

pub loop-hi-preserved-then-below_root : goal.loop-hi-preserved-then-below_root
loop-hi-preserved-then-below_root c =
    let mid = (c.loop-hi.lo + c.loop-hi.hi) / 2 in
    let M = c.args.a * 2 ^ 52 in
    (ltb-true (mid * mid) (M + mid) (sym c.below_root.ensures ∙ c.if-below_root.true), c.loop-hi.invariant.1, omega arith, omega arith, c.loop-hi.invariant.4)

pub loop-hi-preserved : goal.loop-hi-preserved
loop-hi-preserved c =
    let mid = (c.loop-hi.lo + c.loop-hi.hi) / 2 in
    let M = c.args.a * 2 ^ 52 in
    (c.loop-hi.invariant.0, ltb-false (mid * mid) (M + mid) (sym c.below_root.ensures ∙ c.if-below_root.false), c.loop-hi.invariant.2, omega arith, omega arith)

pub returns : goal.returns
returns c =
    let lo = c.loop-hi.lo in
    let hi = c.loop-hi.hi in
    let i = c.loop-hi.invariant in
    let M = c.args.a * 2 ^ 52 in
    let one : hi ≡ lo + 1 = omega arith in
    record {
      low = i.0;
      high = next_to M lo (subst (λ (k : ℕ). M + k ≤ k * k) one i.1);
      least = i.2;
      most = omega arith;
    }
