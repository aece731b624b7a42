-- `sums::add_row` meets its contract. Assumes nothing.
use Rattle.number.specs.Whole.{whole}
use native.Mathlib.Omega.{arith}
use mathlib.Core.Path.{refl}
use Rattle.point_sums.proofs.add_row.Goals as goal

pub int_to_float-nf : goal.int_to_float-nf
int_to_float-nf c = whole _ (omega arith)

pub returns : goal.returns
returns c = refl
