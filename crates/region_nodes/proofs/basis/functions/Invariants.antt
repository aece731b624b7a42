-- `functions` meets its contract: the functions of the degrees below l are written, l * l of them. Assumes nothing.
use Rattle.region_nodes.specs.Nodes.{by_place}
use Rattle.storage.specs.Filled.{Filled}
use Rattle.storage.specs.Triangle.{row_start}
use mathlib.Core.Path.{◌≡◌}
use Prim.Native.Nat.{◌+◌, ◌*◌, ◌≤◌}
use Rattle.region_nodes.proofs.basis.functions.Given as goal

abbrev pub invariant-loop-l : goal.invariant-loop-l
invariant-loop-l l = (l.l ≤ l.lmax + 1) × (l.start ≡ row_start l.l) × (l.at ≡ l.l * l.l) × (l.start ≤ 253) × (l.at ≤ 484) × Filled 0 (by_place l.lmax l.p) l.at l.initial.functions l.functions
