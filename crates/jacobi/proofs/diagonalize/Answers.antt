-- `diagonalize` meets its contract: the sweeps begin with the matrix and the identity. Assumes nothing.
use borrow.Author.Rules.{rules}
use Rattle.storage.specs.Filled.{filled_to}
use Rattle.matrix.specs.Layout.{kept_then, filled_kept}
use Rattle.jacobi.specs.JacobiLaws.{diagonalized}
use Rattle.jacobi.proofs.diagonalize.Goals as goal

pub returns : goal.returns
returns c =
    let s = c.sweeps.ensures in
    let sum = c.squares-scale.ensures in
    let unit = c.identity.ensures in
    let copied = c.copy.ensures in
    let pre = c.requires in
    let answer = diagonalized c.args.n c.args.a.now copied unit sum s.fact_1 pre.fact_1 pre.fact_3.long pre.fact_2.long in
    record { fact_1 = answer; fact_2 = kept_then (filled_kept (filled_to copied pre.fact_1)) s.fact_2; fact_3 = kept_then (filled_kept unit) s.fact_3; fact_4 = s.fact_4 }
