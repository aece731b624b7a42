-- `rows::all_rows` meets its contract: the rows of P below n are written, and the last two rows of q are at hand. Assumes nothing.
use Rattle.legendre.specs.Rows.{RowsBelow}
use lib.ListN.{length}
use mathlib.Core.Path.{◌≡◌}
use Prim.Native.Nat.{◌*◌}
use Rattle.legendre.proofs.rows.all_rows.Given as goal

abbrev pub invariant-loop-pair : goal.invariant-loop-pair
invariant-loop-pair l = (length l.even ≡ length l.initial.even) × (length l.odd ≡ length l.initial.odd) × RowsBelow (2 * l.pair) l.at l.pmm l.t l.u l.a l.b l.odd l.even l.initial.p l.p
