-- `division::divide` meets its contract: both tables over the factors that are filled in before. Assumes nothing.
use Rattle.legendre_analysis.specs.Division.{divided_by}
use Rattle.functional.specs.Factor.{factor_of}
use Rattle.legendre_analysis.proofs.division.divide.Goals as goal

pub returns : goal.returns
returns c =
    let a = c.args in
    let divide-degrees = c.divide_degrees in
    let divide-degrees2 = c.divide_degrees-2 in
    let g = factor_of a.functional a.love.now a.gm a.radius a.r in
    let f = c.factors.ensures in
    let room = c.requires.fact_2 in
    record { filled = divided_by g a.nmax f room divide-degrees.ensures; filled_2 = divided_by g a.nmax f room divide-degrees2.ensures }
