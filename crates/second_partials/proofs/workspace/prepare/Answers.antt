-- `workspace::prepare` meets its contract: the sectoral numbers are lent their part behind the tables. Assumes nothing.
use Rattle.second_partials.specs.Working.{sectorals_at, powers_within, prepared, sectorals_rest}
use Rattle.point_lists.specs.Tables.{weights_long, weights_rest, weights_first}
use Rattle.local.specs.Second.{second_size}
use Rattle.storage.specs.Filled.{filled_part, filled_at}
use native.Mathlib.Omega.{arith}
use mathlib.Core.Path.{◌∙◌}
use Prim.Native.Nat.{◌+◌, ◌-◌}
use lib.ListN.{length}
use Rattle.second_partials.proofs.workspace.prepare.Goals as goal

pub tables-requires : goal.tables-requires
tables-requires c = (c.requires.fact_1, (c.requires.fact_2, omega (arith, c.requires)))

pub overflow_add-at : goal.overflow_add-at
overflow_add-at c = omega (arith, powers_within c.args.nmax c.requires.fact_1, c.requires, c.tables.auto)

pub overflow_add-at-2 : goal.overflow_add-at-2
overflow_add-at-2 c = omega (arith, powers_within c.args.nmax c.requires.fact_1, c.requires, c.tables.auto)

pub offset_bounds-work-at : goal.offset_bounds-work-at
offset_bounds-work-at c = omega (arith, powers_within c.args.nmax c.requires.fact_1, c.requires, c.tables.auto)

pub slice_bounds-sectorals-count : goal.slice_bounds-sectorals-count
slice_bounds-sectorals-count c = omega (arith, powers_within c.args.nmax c.requires.fact_1, c.requires, c.tables.auto)

pub sectorals-requires : goal.sectorals-requires
sectorals-requires c = record { fact_1 = c.requires.fact_1; fact_2 = omega (arith, powers_within c.args.nmax c.requires.fact_1, c.requires, c.tables.auto) }

pub returns : goal.returns
returns c =
    let a = c.args in
    let h = c.requires in
    let N = a.nmax in
    let within = powers_within N h.fact_1 in
    let long = c.tables.auto in
    let l = c.tables.new.work in
    let at = a.total + a.total + a.total in
    let part = filled_part at (length l - at) l c.sectorals.ensures (omega (arith, within, h, long)) in
    let sectoral = filled_at {at' = sectorals_at N} part (omega (arith, h)) in
    let made = c.tables.ensures in
    record {
      ready = prepared (weights_first N a.work.now made (omega (arith, h))) sectoral (omega (arith, within, h, long));
      rest = sectorals_rest sectoral h.fact_1 ∙ weights_rest N a.work.now made (second_size N) (omega arith);
      long = sectoral.long ∙ weights_long N a.work.now made;
    }
