-- `number::root_digits::bisected` meets its contract. Assumes nothing.
use borrow.Author.Rules.{rules}
use Prim.Native.Nat.{◌+◌, ◌*◌}
use native.Mathlib.Omega.{arith}
use Rattle.number.proofs.Floats.{no_nan_bits}
use Rattle.number.proofs.Patterns.{scaled_root}
use Rattle.number.proofs.root_digits.bisected.Goals as goal

pub overflow_add-result : goal.overflow_add-result
overflow_add-result c = omega (arith, c.bisect.ensures.most)

pub float_from_bits-result : goal.float_from_bits-result
float_from_bits-result c =
    let q = c.bisect.result in
    no_nan_bits (c.args.k * 4503599627370496 + q) (omega (arith, c.bisect.ensures.most))

pub returns : goal.returns
returns c =
    scaled_root c.args.a c.args.k c.bisect.result c.requires.fact_1 c.requires.fact_2 c.requires.fact_3 c.bisect.ensures
