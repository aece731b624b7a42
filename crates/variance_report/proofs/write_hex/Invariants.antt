use Rattle.storage.specs.Store.{store}
use Rattle.variance_report.specs.Report.{hex_digits}
use mathlib.Core.Path.{◌≡◌}
use Rattle.variance_report.proofs.write_hex.Given as goal

abbrev pub invariant-loop-k : goal.invariant-loop-k
invariant-loop-k l = store l.at (hex_digits l.k l.rest) l.out ≡ store l.at (hex_digits 16 l.x) l.initial.out
