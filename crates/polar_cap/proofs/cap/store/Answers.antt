-- `cap::store` meets its contract: the vectors are lent their part of the working list. Assumes nothing.
use native.Mathlib.Omega.{arith}
use Prim.Native.Nat.{◌-◌}
use lib.ListN.{length}
use Rattle.storage.specs.Filled.{filled_part, filled_base}
use borrow.Author.Rules.{rules}
use Rattle.polar_cap.proofs.cap.store.Goals as goal

pub returns : goal.returns
returns c =
    let a = c.args in
    let l = c.copy_run.new.dst in
    let long = c.copy_run.ensures.long in
    filled_base (filled_part a.v (length l - a.v) l c.transpose.ensures (omega arith))
    c.copy_run.ensures.is
