-- `workspace::compute` meets its contract: the points by what is filled in before them. Assumes nothing.
use native.Mathlib.Omega.{arith}
use mathlib.Core.Path.{◌∙◌}
use Rattle.second_partials.proofs.workspace.compute.Goals as goal

pub prepare-requires : goal.prepare-requires
prepare-requires c = let k = c.requires in record { fact_1 = k.tables.top; fact_2 = k.tables.c; fact_3 = k.room_work }

pub points_in-requires : goal.points_in-requires
points_in-requires c =
    let k = c.requires in
    let worked = c.prepare.ensures in record {
      fact_1 = record {
        tables = k.tables;
        few = k.few;
        each = k.each;
        pairs = k.pairs;
        orders = k.orders;
        room_work = omega (arith, k.room_work, worked.long);
        room_out = k.room_out;
      };
      fact_2 = worked.ready;
    }

pub returns : goal.returns
returns c =
    let made = c.points_in.ensures in
    let worked = c.prepare.ensures in
    record { values = made.values; rest = made.rest ∙ worked.rest; long = made.long ∙ worked.long }
