-- `reduce` meets its contract. Assumes nothing.
use native.Mathlib.Omega.{arith}
use mathlib.Core.Path.{ap}
use Prim.Native.Nat.{◌*◌}
use borrow.Author.Rules.{rules}
use Rattle.storage.specs.Filled.{filled_self}
use Rattle.matrix.specs.Layout.{kept_then, kept_from, filled_kept}
use Rattle.householder.specs.Reduction.{Reduction}
use Rattle.householder.specs.ReflectionLaws.{reduced, diagonal_of, subdiagonal_of, le_square}
use Rattle.householder.proofs.reduce.Goals as goal

pub returns : goal.returns
returns c =
    let subdiagonal = c.subdiagonal in
    let diagonal = c.diagonal in
    let reflections = c.reflections in
    let identity = c.identity in
    let transpose = c.transpose in
    let a = c.args in
    let pre = c.requires in
    let n = a.n in
    let square = pre.fact_1 in
    let all = reflections.ensures.q_after in
    let kept-w = reflections.ensures.kept_1 in
    let kept-q = reflections.ensures.kept_2 in
    let e = reduced n a.a.now square transpose.ensures (omega (arith, pre)) identity.ensures (omega (arith, pre)) all in
    let t = ap (λ (s : Reduction). s.matrix) e in record { filled = diagonal_of _ _ _ t diagonal.ensures; filled_2 = filled_self (subdiagonal_of _ _ _ t subdiagonal.ensures); vectors_after = ap (λ (s : Reduction). s.orthogonal) e; kept_1 = kept_then (kept_then (filled_kept transpose.ensures) kept-w) (kept_from (n * n) (le_square n) (filled_kept subdiagonal.ensures)); kept_2 = kept_then (filled_kept identity.ensures) kept-q }
