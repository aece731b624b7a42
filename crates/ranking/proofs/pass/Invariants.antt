-- `pass` meets its contract: the runs of twice the width below index lo are merged. Assumes nothing.
use Prim.Native.Nat.{min}
use Rattle.storage.specs.Filled.{Filled}
use Rattle.storage.specs.Rectangle.{by_rows}
use Rattle.ranking.specs.Runs.{ranked_run, Multiple}
use Rattle.ranking.proofs.pass.Given as goal

abbrev pub invariant-loop-lo : goal.invariant-loop-lo
invariant-loop-lo l = Multiple l.both l.lo × Filled 0 (by_rows (ranked_run l.keys l.both) l.both) (min l.n l.lo) l.initial.dst l.dst
