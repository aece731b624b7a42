-- `reduce_within` meets its contract. Assumes nothing.
use mathlib.Core.Path.{refl}
use borrow.Author.Rules.{rules}
use Rattle.householder.specs.ReflectionLaws.{diagonal_of, subdiagonal_of}
use Rattle.householder_within.specs.Within.{matrix_within, orthogonal_within, kept-within}
use Rattle.householder_within.proofs.reduce_within.Goals as goal

pub returns : goal.returns
returns c =
    let symmetric = c.requires.fact_2 in
    let room = c.requires.fact_1 in
    let f = c.identity.ensures in
    let all = c.reflections.ensures.fact_1 in
    let kept = c.reflections.ensures.fact_2 in
    let w = c.reflections.new.w in
    let t = matrix_within w symmetric room refl f all in record { filled = diagonal_of _ _ _ t c.diagonal.ensures; filled_2 = subdiagonal_of _ _ _ t c.subdiagonal.ensures; w_after = orthogonal_within w symmetric room refl f all; kept = kept-within w symmetric room refl f all kept }
