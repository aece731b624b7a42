use lib.ListN.{drop}
use Rattle.storage.specs.Store.{store}
use Rattle.variance_report.specs.Report.{lines_of}
use mathlib.Core.Path.{◌≡◌}
use Prim.Native.Nat.{◌+◌, ◌*◌, ◌≤◌}
use lib.ListN.{length}
use Rattle.variance_report.proofs.write_lines.Given as goal

abbrev pub invariant-loop-n : goal.invariant-loop-n
invariant-loop-n l = (l.at ≤ 16 + 20 * l.n) ×
    (l.at + length (lines_of (drop l.n l.variances) l.n) ≡ 16 + length (lines_of l.variances 0)) ×
    (store l.at (lines_of (drop l.n l.variances) l.n) l.out ≡ store 16 (lines_of l.variances 0) l.initial.out)
