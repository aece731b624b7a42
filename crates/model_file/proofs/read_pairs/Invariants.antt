-- `read_pairs` meets its contract: so many numbers from the front of both lists are those of the records. Assumes nothing.
use Prim.Native.Nat.{◌*◌}
use Rattle.model_file.specs.LittleEndian.{words_at}
use Rattle.storage.specs.Store.{store}
use mathlib.Core.Path.{◌≡◌}
use Prim.Native.Nat.{◌+◌, ◌-◌, ◌≤◌}
use lib.ListN.{length}
use Rattle.model_file.proofs.read_pairs.Given as goal

abbrev pub invariant-loop-k : goal.invariant-loop-k
invariant-loop-k l = (l.k ≤ l.count) × (l.at ≡ l.start + 1 + 17 * l.k) × (length l.c ≡ length l.initial.c) × (length l.s ≡ length l.initial.s) ×
    (store l.k (words_at l.bytes (l.count - l.k) l.at) l.c ≡ store 0 (words_at l.bytes l.count (l.start + 1)) l.initial.c) ×
    (store l.k (words_at l.bytes (l.count - l.k) (l.at + 8)) l.s ≡ store 0 (words_at l.bytes l.count (l.start + 9)) l.initial.s)
