-- `clear` meets its contract. Assumes nothing.
use Rattle.storage.specs.Filled.{filled_part}
use native.Mathlib.Omega.{arith}
use Prim.Native.Nat.{◌-◌}
use lib.ListN.{length}
use borrow.Author.Rules.{rules}
use Rattle.caps.proofs.nodes.clear.Goals as goal

pub returns : goal.returns
returns c = filled_part c.args.at (length
    c.args.work.now - c.args.at)
    c.args.work.now c.clear.ensures (omega arith)
