-- `beside` meets its contract. Assumes nothing.
use Rattle.caps.specs.Caps.{grunbaum_beside}
use Rattle.number.specs.Whole.{whole}
use native.Mathlib.Omega.{arith}
use mathlib.Core.Path.{refl}
use borrow.Author.Rules.{rules}
use Rattle.caps.proofs.grunbaum.beside.Goals as goal

pub int_to_float-l : goal.int_to_float-l
int_to_float-l c = whole _ (omega arith)

pub int_to_float-top : goal.int_to_float-top
int_to_float-top c = whole _ (omega arith)

pub int_to_float-mf : goal.int_to_float-mf
int_to_float-mf c = whole _ (omega arith)

pub returns : goal.returns
unfolding grunbaum_beside
returns c = rw c.root.ensures refl
