-- `rows::sectorals` meets its contract: the numbers so far are written, and the next one is at hand. Assumes nothing.
use mathlib.Core.Path.{◌≡◌}
use Prim.Native.Nat.{◌≤◌}
use Rattle.storage.specs.Filled.{Filled}
use Rattle.recursion.specs.Recursion.{pmm}
use Rattle.legendre.proofs.rows.sectorals.Given as goal

abbrev pub invariant-loop-m : goal.invariant-loop-m
invariant-loop-m l = (l.m ≤ l.count) × (l.sectoral ≡ pmm l.m) × Filled 0 pmm l.m l.initial.d l.d
