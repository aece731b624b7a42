-- `write_body` meets its contract: each turn stores one record behind the ones before. Assumes nothing.
use Prim.Native.Nat.{◌*◌}
use lib.ListN.{drop}
use Rattle.model_file.specs.Format.{record_bytes}
use Rattle.storage.specs.Store.{store}
use mathlib.Core.Path.{◌≡◌}
use Prim.Native.Nat.{◌+◌, ◌≤◌}
use lib.ListN.{length}
use Rattle.model_file.proofs.write_body.Given as goal

abbrev pub invariant-loop-k : goal.invariant-loop-k
invariant-loop-k l = (l.k ≤ length l.c) × (l.at ≡ l.start + 17 * l.k) × (length l.out ≡ length l.initial.out) × (store l.at (record_bytes (drop l.k l.c) (drop l.k l.s)) l.out ≡
    store l.start (record_bytes l.c l.s) l.initial.out)
