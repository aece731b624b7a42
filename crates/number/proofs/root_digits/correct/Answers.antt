-- `number::root_digits::correct` meets its contract. Assumes nothing.
use lib.Ieee.{binary64, of_bits}
use native.Mathlib.Omega.{arith}
use Rattle.number.proofs.Floats.{no_nan_bits, more_no_nan}
use Rattle.number.proofs.Patterns.{scaled_root}
use Rattle.number.proofs.root_digits.correct.Goals as goal

pub float_to_bits-y : goal.float_to_bits-y
float_to_bits-y c = more_no_nan c.args.y (of_bits binary64 0x3fe0_0000_0000_0000) c.if-y.true

pub overflow_add-result : goal.overflow_add-result
overflow_add-result c =
    let near = c.in-Some.ensures in
    omega (arith, near.most)

pub float_from_bits-result : goal.float_from_bits-result
float_from_bits-result c =
    let near = c.in-Some.ensures in
    no_nan_bits _ (omega (arith, near.most))

pub returns-in-Some : goal.returns-in-Some
returns-in-Some c =
    let p = c.requires in
    scaled_root c.args.a c.args.k _ p.fact_1 p.fact_2 p.fact_3 c.in-Some.ensures
