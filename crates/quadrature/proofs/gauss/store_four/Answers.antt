-- `gauss::store_four` meets its contract. Assumes nothing.
use lib.ListN.{length-set}
use Rattle.storage.specs.Filled.{filled_none, filled_more, filled_to}
use native.Mathlib.Omega.{arith}
use borrow.Author.Rules.{rules}
use Rattle.quadrature.proofs.gauss.store_four.Goals as goal

pub bounds-list-at-2 : goal.bounds-list-at-2
bounds-list-at-2 c = simp length-set (omega arith)

pub bounds-list-at-3 : goal.bounds-list-at-3
bounds-list-at-3 c = simp length-set (omega arith)

pub bounds-list-at-4 : goal.bounds-list-at-4
bounds-list-at-4 c = simp length-set (omega arith)

pub returns : goal.returns
returns c = record {
  filled_by =
      λ F a b e d. filled_to
      (filled_more (filled_more (filled_more (filled_more filled_none (omega arith) a) (omega arith) b) (omega arith) e) (omega arith) d)
      (omega arith);
  long = simp length-set;
}
