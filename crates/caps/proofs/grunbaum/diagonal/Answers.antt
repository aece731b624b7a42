-- `diagonal` meets its contract. Assumes nothing.
use Rattle.caps.specs.Caps.{grunbaum_diagonal}
use Rattle.number.specs.Whole.{whole}
use native.Mathlib.Omega.{arith}
use mathlib.Core.Path.{refl}
use borrow.Author.Rules.{rules}
use Rattle.caps.proofs.grunbaum.diagonal.Goals as goal

pub int_to_float-l : goal.int_to_float-l
int_to_float-l c = whole _ (omega arith)

pub returns : goal.returns
unfolding grunbaum_diagonal
returns c = refl
