-- `block_end` meets its contract: the block goes on up to m at least. Assumes nothing.
use Rattle.ql.specs.Ql.{uncoupled, after}
use Rattle.storage.specs.Iterate.{iterate_until}
use mathlib.Core.Path.{◌≡◌}
use Prim.Native.Nat.{◌+◌, ◌-◌, ◌≤◌, ◌<◌}
use Rattle.ql.proofs.block_end.Given as goal

abbrev pub invariant-loop-m : goal.invariant-loop-m
invariant-loop-m l = (l.l ≤ l.m) × (l.m < l.n) × (iterate_until (uncoupled l.d l.e) after (l.n - 1 - l.m) l.m ≡ iterate_until (uncoupled l.d l.e) after (l.n - (l.l + 1)) l.l)
