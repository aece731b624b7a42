-- `number::root_digits::bisect` meets its contract. The root lies between lo - 1/2 and hi - 1/2. Assumes nothing.
use Prim.Native.Nat.{ℕ, ◌+◌, ◌/◌, ◌-◌, ◌*◌, ◌^◌, ◌≤◌, ◌<◌}
use native.Mathlib.Omega.{arith}
use mathlib.Core.Path.{◌≡◌, sym, ◌∙◌, subst}
use borrow.Author.Tests.{ltb-true, ltb-false}
use Rattle.number.proofs.Squares.{next_to}
use Rattle.number.proofs.root_digits.bisect.Given as goal

abbrev pub invariant-loop-hi : goal.invariant-loop-hi
invariant-loop-hi l = (l.lo * l.lo < l.a * 2 ^ 52 + l.lo) × (l.a * 2 ^ 52 + l.hi ≤ l.hi * l.hi) × (2 ^ 52 ≤ l.lo) × (l.lo < l.hi) × (l.hi ≤ 2 ^ 53)

abbrev pub decreases-loop-hi : goal.decreases-loop-hi
decreases-loop-hi l = l.hi - l.lo
