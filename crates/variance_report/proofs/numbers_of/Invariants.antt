use lib.ListN.{drop}
use Rattle.storage.specs.Store.{store}
use Rattle.variance_report.specs.Report.{numbers_of}
use mathlib.Core.Path.{◌≡◌}
use Rattle.variance_report.proofs.numbers_of.Given as goal

abbrev pub invariant-loop-k : goal.invariant-loop-k
invariant-loop-k l = store l.k (drop l.k (numbers_of l.bits)) l.out ≡ store 0 (numbers_of l.bits) l.initial.out
