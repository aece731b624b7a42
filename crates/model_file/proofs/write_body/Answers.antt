-- `write_body` meets its contract: each turn stores one record behind the ones before. Assumes nothing.
use lib.ListN.{length-set}
use Prim.Native.Nat.{◌*◌}
use lib.ListN.{drop}
use Rattle.model_file.specs.Format.{record_bytes}
use Rattle.storage.specs.Store.{store}
use Rattle.model_file.proofs.Stores.{records_turn, records_end}
use native.Mathlib.Omega.{arith}
use mathlib.Core.Path.{◌≡◌, refl, ◌∙◌}
use Prim.Native.Nat.{◌+◌, ◌-◌, ◌≤◌}
use lib.ListN.{length}
use Rattle.model_file.proofs.write_body.Goals as goal

pub loop-k-init : goal.loop-k-init
loop-k-init c = ((omega arith), omega arith, refl, refl)

pub loop-k-preserved : goal.loop-k-preserved
loop-k-preserved c =
    let write-pair = c.write_pair in
    let a = c.args in (
      (omega arith),
      (omega arith),
      write-pair.auto.out ∙ c.loop-k.invariant.2,
      records_turn a.c.now a.s.now c.loop-k.out write-pair.new.out c.loop-k.k c.loop-k.at (omega arith) (omega arith)
          write-pair.ensures ∙ c.loop-k.invariant.3,
    )

pub returns : goal.returns
returns c =
    let a = c.args in
    records_end a.c.now a.s.now c.loop-k.out c.loop-k.k c.loop-k.at (omega arith) ∙ c.loop-k.invariant.3
