-- `gauss_legendre` meets its contract: each way through its checks, and both lists past them. Assumes nothing.
use native.Mathlib.Omega.{arith}
use mathlib.Core.Path.{refl}
use lib.Ieee.{nan}
use Rattle.storage.specs.Elements.{from}
use Rattle.quadrature.specs.GaussLaws.{gauss_size, gauss_length, gauss_nodes, gauss_weights, gauss_done, nodes_made, weights_made}
use native.Mathlib.Omega.{arith}
use mathlib.Core.Path.{refl}
use borrow.Author.Rules.{rules}
use Rattle.quadrature.proofs.gauss_legendre.Goals as goal

pub returns-then-n-gt-MAX_NODES : goal.returns-then-n-gt-MAX_NODES
returns-then-n-gt-MAX_NODES c = record { value = gauss_size _ _ _ _ (omega arith); x_after = refl; w_after = refl }

pub returns-then-guesses-half : goal.returns-then-guesses-half
returns-then-guesses-half c = record { value = gauss_length _ _ _ _ (omega arith) (λ e. omega arith); x_after = refl; w_after = refl }

pub returns-then-x-n : goal.returns-then-x-n
returns-then-x-n c = record { value = gauss_nodes _ _ _ _ (omega arith) (omega arith) (omega arith); x_after = refl; w_after = refl }

pub returns-then-w-n : goal.returns-then-w-n
returns-then-w-n c = record { value = gauss_weights _ _ _ _ (omega arith) (omega arith) (omega arith) (omega arith); x_after = refl; w_after = refl }

pub returns : goal.returns
returns c =
    let g = from 0 c.args.guesses.now nan in
    let x = nodes_made g refl (omega arith) c.upper_half.ensures.filled c.mirror.ensures c.lower_half.ensures in
    let w = weights_made g refl (omega arith) c.upper_half.ensures.filled_2 c.mirror-2.ensures in
    record { value = gauss_done _ _ _ _ (omega arith) (omega arith) (omega arith) (omega arith); x_after = x; w_after = w }
