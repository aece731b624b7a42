-- `rows::rescales` meets its contract: the powers so far are written, and the next one is at hand. Assumes nothing.
use mathlib.Core.Path.{◌≡◌}
use Prim.Native.Nat.{◌≤◌}
use Rattle.storage.specs.Filled.{Filled}
use Rattle.recursion.specs.Recursion.{rescale}
use Rattle.legendre.proofs.rows.rescales.Given as goal

abbrev pub invariant-loop-m : goal.invariant-loop-m
invariant-loop-m l = (l.m ≤ l.count) × (l.rescale ≡ rescale l.u l.m) × Filled 0 (rescale l.u) l.m l.initial.r l.r
