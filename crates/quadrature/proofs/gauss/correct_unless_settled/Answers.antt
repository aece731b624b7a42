-- `gauss::correct_unless_settled` meets its contract. Assumes nothing.
use Rattle.quadrature.specs.Gauss.{corrected, unless_settled}
use mathlib.Core.Bool.{Bool, cond}
use mathlib.Core.Path.{refl, sym, ap, ◌∙◌}
use borrow.Author.Rules.{rules}
use Rattle.quadrature.proofs.gauss.correct_unless_settled.Goals as goal

pub returns-then-s : goal.returns-then-s
unfolding unless_settled
returns-then-s c = rw c.if-s.true refl

pub returns : goal.returns
unfolding unless_settled
returns c =
    let a = c.args in
    c.correct.ensures ∙ ap (λ (x : Bool). cond x a.s (corrected a.n a.s a.p.p0 a.p.p1)) (sym c.if-s.false)
