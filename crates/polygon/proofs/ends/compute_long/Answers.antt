-- `compute_long` meets its contract. Assumes nothing.
use Rattle.polygon.specs.EndsLaws.{crossings_few}
use native.Mathlib.Omega.{arith}
use Rattle.polygon.proofs.ends.compute_long.Goals as goal

pub write_ends-requires : goal.write_ends-requires
write_ends-requires c =
    let few = crossings_few c.args.v c.args.outline.now c.args.theta in
    record { fact_1 = c.requires; fact_2 = omega (arith, few, c.requires); fact_3 = omega (arith, few, c.requires) }
