use lib.ListN.{drop}
use Rattle.storage.specs.Store.{store}
use mathlib.Core.Path.{◌≡◌}
use Prim.Native.Nat.{◌+◌, ◌≤◌}
use lib.ListN.{length}
use Rattle.text.proofs.write_bytes.Given as goal

abbrev pub invariant-loop-i : goal.invariant-loop-i
invariant-loop-i l = (l.i ≤ length l.bytes) × (length l.out ≡ length l.initial.out) × (store (l.at + l.i) (drop l.i l.bytes) l.out ≡ store l.at l.bytes l.initial.out)
