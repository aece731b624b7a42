-- `store_nine` meets its contract. Assumes nothing.
use Rattle.local.specs.Second.{tensor_cell}
use Rattle.storage.specs.Rectangle.{by_rows}
use Rattle.storage.specs.Filled.{Filled}
use Rattle.geopotential.proofs.tensors.store_nine.Given as goal

abbrev pub invariant-loop-k : goal.invariant-loop-k
invariant-loop-k l = Filled 0 (by_rows (tensor_cell l.tensor) 3) l.k l.initial.out l.out
