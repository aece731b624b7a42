-- `size_of_head` meets its contract. Assumes nothing.
use Rattle.model_file.specs.Dates.{date_stated, date_absent}
use Rattle.model_file.specs.Format.{head_size}
use native.Mathlib.Omega.{arith}
use mathlib.Core.Path.{sym, ap}
use borrow.Author.Rules.{rules}
use Rattle.model_file.proofs.size_of_head.Goals as goal

pub returns-then-bytes-eq4 : goal.returns-then-bytes-eq4
returns-then-bytes-eq4 c = sym (ap head_size (date_stated c.args.bytes.now (omega arith)))

pub returns : goal.returns
returns c = sym (ap head_size (date_absent c.args.bytes.now (λ e. omega arith)))
