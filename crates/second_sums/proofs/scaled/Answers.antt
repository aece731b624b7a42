-- `scaled` meets its contract: a product up to the degree, 0 beyond it. Assumes nothing.
use Rattle.second_sums.specs.Window.{up_to_beyond, up_to_within}
use Rattle.second_sums.specs.Pairs.{scaled_pair}
use native.Mathlib.Omega.{arith}
use mathlib.Core.Path.{sym}
use Rattle.second_sums.proofs.scaled.Goals as goal

pub returns-then-m-n : goal.returns-then-m-n
returns-then-m-n c = sym (up_to_beyond _ _ _ (omega arith))

pub returns : goal.returns
unfolding scaled_pair
returns c =
    let a = c.args in
    sym (up_to_within a.n (scaled_pair a.rows.now a.r.now) a.m (omega arith))
