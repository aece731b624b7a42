-- `cap::all_orders` meets its contract: the orders below m are stored and told of, and the sectoral number and the powers of m are at hand. Assumes nothing.
use mathlib.Core.Path.{◌≡◌}
use Prim.Native.Nat.{◌+◌, ◌*◌, ◌≤◌}
use lib.ListN.{length}
use Rattle.storage.specs.Filled.{Filled}
use Rattle.storage.specs.Rectangle.{by_rows}
use Rattle.storage.specs.Triangle.{idx, table_size}
use Rattle.recursion.specs.Recursion.{pmm}
use Rattle.matrix.specs.Layout.{Kept}
use Rattle.caps.specs.Nodes.{rescale_of}
use Rattle.polar_cap.specs.PolarCap.{told_of, vectors_size, cap_work}
use Rattle.cap_functions.specs.CapPlaces.{concentrations_at, vectors_at, functions_before, numbers_before}
use Rattle.polar_cap.specs.CapStorage.{Stored}
use Rattle.polar_cap.proofs.cap.all_orders.Given as goal

abbrev pub invariant-loop-m : goal.invariant-loop-m
invariant-loop-m l = (l.m ≤ l.lmax + 1) × (l.sectoral ≡ pmm l.m) × (l.start ≡ idx l.m l.m)
    × (l.f ≡ concentrations_at l.lmax + functions_before l.lmax l.m) × (l.v ≡ vectors_at l.lmax + numbers_before l.lmax l.m)
    × Filled 0 (rescale_of l.latitudes l.m) (l.lmax + 1) l.initial.rescales l.rescales
    × Stored l.lmax l.x0 l.weights l.latitudes l.total l.m l.work
    × Kept (cap_work l.lmax) l.initial.work l.work × Kept (table_size l.lmax) l.initial.orders l.orders × Kept (table_size l.lmax) l.initial.concentrations l.concentrations
    × Kept (vectors_size l.lmax) l.initial.vectors l.vectors × (length l.g ≡ length l.initial.g) × (length l.column ≡ length l.initial.column)
    × Filled 0 (by_rows (told_of l.lmax l.x0) 2) (l.m * 2) l.initial.settled l.settled
