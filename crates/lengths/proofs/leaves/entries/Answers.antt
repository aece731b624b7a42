-- `leaves::entries` meets its contract. Assumes nothing.
use Rattle.storage.specs.Answers.{size_is}
use Rattle.storage.specs.Triangle.{table_size_most}
use native.Mathlib.Omega.{arith}
use mathlib.Core.Path.{◌∙◌}
use borrow.Author.Rules.{rules}
use Rattle.lengths.proofs.leaves.entries.Goals as goal

pub returns : goal.returns
returns c =
    let n = c.args.nmax in
    let is = c.table_size.ensures ∙ size_is n (omega arith) in
    record { is = is; small = omega (arith, table_size_most n (omega arith)) }
