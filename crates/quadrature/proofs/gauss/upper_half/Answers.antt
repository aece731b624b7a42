-- `gauss::upper_half` meets its contract. Assumes nothing.
use native.Mathlib.Omega.{arith}
use Rattle.storage.specs.Filled.{filled_to, filled_join}
use Rattle.quadrature.specs.GaussLaws.{node_from, weight_from}
use native.Mathlib.Omega.{arith}
use borrow.Author.Rules.{rules}
use Rattle.quadrature.proofs.gauss.upper_half.Goals as goal

pub returns : goal.returns
returns c =
    let a = c.args in
    let at = c.by_fours-at.result in
    let f = c.by_fours-at.ensures in
    let o = c.one_by_one.ensures in record { filled = filled_to (filled_join f.filled o.filled (omega arith) (λ i h. node_from a.guesses.now at a.n i)) (omega arith); filled_2 = filled_to (filled_join f.filled_2 o.filled_2 (omega arith) (λ i h. weight_from a.guesses.now at a.n i)) (omega arith) }
