-- `read_pairs` meets its contract: so many numbers from the front of both lists are those of the records. Assumes nothing.
use Prim.Native.Nat.{◌*◌}
use lib.ListN.{length-set}
use Rattle.model_file.specs.LittleEndian.{words_at}
use Rattle.storage.specs.Store.{store}
use Rattle.model_file.proofs.Stores.{words_start, words_turn, words_end}
use borrow.Author.Rules.{rules}
use native.Mathlib.Omega.{arith}
use mathlib.Core.Path.{◌≡◌, refl, ◌∙◌}
use Prim.Native.Nat.{◌+◌, ◌-◌, ◌≤◌}
use lib.ListN.{length}
use Rattle.model_file.proofs.read_pairs.Goals as goal

pub loop-k-init : goal.loop-k-init
loop-k-init c =
    let a = c.args in (
      (omega arith),
      (omega arith),
      refl,
      refl,
      words_start a.bytes.now a.c.now a.count (a.start + 1) (a.start + 1) refl,
      words_start a.bytes.now a.s.now a.count (a.start + 1 + 8) (a.start + 9) (omega arith),
    )

pub loop-k-preserved : goal.loop-k-preserved
loop-k-preserved c =
    let a = c.args in (
      (omega arith),
      (omega arith),
      simp length-set (omega arith),
      simp length-set (omega arith),
      words_turn a.bytes.now c.loop-k.c c.loop-k.k a.count c.loop-k.at (c.loop-k.at + 17) c.read_word.result (omega arith)
          c.read_word.ensures refl ∙ c.loop-k.invariant.4,
      words_turn a.bytes.now c.loop-k.s c.loop-k.k a.count (c.loop-k.at + 8) (c.loop-k.at + 17 + 8) c.read_word-in-loop-k.result (omega arith)
          c.read_word-in-loop-k.ensures (omega arith) ∙ c.loop-k.invariant.5,
    )

pub returns : goal.returns
returns c =
    let a = c.args in record { c_after = words_end a.bytes.now c.loop-k.c c.loop-k.k a.count c.loop-k.at (omega arith) ∙ c.loop-k.invariant.4; s_after = words_end a.bytes.now c.loop-k.s c.loop-k.k a.count (c.loop-k.at + 8) (omega arith) ∙ c.loop-k.invariant.5 }
