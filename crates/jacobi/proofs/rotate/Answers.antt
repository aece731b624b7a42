-- `rotate` meets its contract. Assumes nothing.
use mathlib.Core.Path.{◌∙◌}
use borrow.Author.Rules.{rules}
use Rattle.jacobi.specs.JacobiLaws.{rotated}
use Rattle.jacobi.proofs.rotate.Goals as goal

pub returns : goal.returns
returns c =
    let columns = c.rotate_columns.ensures in
    rotated columns c.rotate_rows.ensures c.rotate_rows-2.ensures
