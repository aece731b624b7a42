-- `derivative::zonal` meets its contract. Assumes nothing.
use Rattle.number.specs.Whole.{whole}
use Rattle.derivative.specs.Derivative.{zonal_of}
use native.Mathlib.Omega.{arith}
use borrow.Author.Rules.{rules}
use Rattle.derivative.proofs.zonal.Goals as goal

pub int_to_float-nf : goal.int_to_float-nf
int_to_float-nf c = whole _ (omega arith)

pub returns : goal.returns
unfolding zonal_of
returns c = c.root_near.ensures
