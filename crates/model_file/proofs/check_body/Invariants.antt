-- `check_body` meets its contract: each turn takes one record, and what is left says what the whole says. Assumes nothing.
use Rattle.model_file.specs.Format.{body_of}
use mathlib.Core.Path.{◌≡◌}
use Rattle.model_file.proofs.check_body.Given as goal

abbrev pub invariant-loop-left : goal.invariant-loop-left
invariant-loop-left l = body_of l.bytes l._left l.at ≡ body_of l.bytes l.count l.start
