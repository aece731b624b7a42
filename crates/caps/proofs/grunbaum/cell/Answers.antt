-- `cell` meets its contract: one way through its tests for each of the four kinds. Assumes nothing.
use Rattle.caps.specs.Grunbaum.{cell-diagonal, cell_right, cell-left, cell_zero}
use mathlib.Core.Path.{◌∙◌}
use borrow.Author.Rules.{rules}
use Rattle.caps.proofs.grunbaum.cell.Goals as goal

pub returns-then-i-j : goal.returns-then-i-j
returns-then-i-j c = c.diagonal.ensures ∙ cell-diagonal _ _ _ _ _ c.if-i-j.true

pub returns-then-i-j-2 : goal.returns-then-i-j-2
returns-then-i-j-2 c = c.beside.ensures ∙ cell_right _ _ _ _ _ c.if-i-j-2.true

pub returns-then-j-i : goal.returns-then-j-i
returns-then-j-i c = c.beside-then-j-i.ensures ∙ cell-left _ _ _ _ _ c.if-j-i.true

pub returns : goal.returns
returns c = cell_zero _ _ _ _ _ c.if-i-j.false c.if-i-j-2.false c.if-j-i.false
