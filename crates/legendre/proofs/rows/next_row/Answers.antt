-- `rows::next_row` meets its contract: the numbers of the row so far stand where the older row's stood. Assumes nothing.
use borrow.Author.Rules.{rules}
use native.Mathlib.Omega.{arith}
use mathlib.Core.Path.{◌≡◌, refl, ap, ◌∙◌}
use Prim.Native.Nat.{◌+◌, ◌-◌, ◌≤◌}
use lib.ListN.{length-set}
use lib.Ieee.{nan}
use Rattle.storage.specs.Filled.{Filled, filled_none, filled_one, filled_more, filled_to, filled_after}
use Rattle.legendre.specs.Rows.{next_row, row-inner, row_second, row_sectoral}
use Rattle.legendre.proofs.rows.next_row.Goals as goal

pub returns-then-n-eq0 : goal.returns-then-n-eq0
returns-then-n-eq0 c =
    let s = c.args in
    filled_to (filled_one s.older.now (row_sectoral _ _ _ _ _ _ _ _ ∙ ap (next_row _ _ _ _ _ _ _ _) c.if-n-eq0.true)) (omega arith)

pub loop-m-init : goal.loop-m-init
loop-m-init c = (omega arith, filled_none)

pub loop-m-preserved : goal.loop-m-preserved
loop-m-preserved c =
    let s = c.args in
    let l = c.loop-m in
    let cell = row-inner s.n s.at s.t s.pmm s.a.now s.b.now s.newer.now s.older.now l.m (omega arith) in
    let q2 = filled_after l.m nan l.invariant.1 (omega arith) in
    (omega arith, filled_more l.invariant.1 (omega arith) (cc))

pub bounds-older-n : goal.bounds-older-n
bounds-older-n c = simp length-set (omega arith)

pub returns : goal.returns
returns c =
    let s = c.args in
    let l = c.loop-m in
    let end : l.m ≡ s.n - 1 = omega arith in
    let whole : s.n - 1 + 1 ≡ s.n = omega arith in
    let cell = row_second s.n s.at s.t s.pmm s.a.now s.b.now s.newer.now s.older.now (s.n - 1) whole in
    let number = c.second.ensures ∙ cell in
    filled_more (filled_to (filled_more (filled_to l.invariant.1 end) (omega arith) number) whole) (omega arith) (row_sectoral _ _ _ _ _ _ _ _)
