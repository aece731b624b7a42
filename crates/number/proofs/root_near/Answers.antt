-- `number::root_near` meets its contract. Assumes nothing.
use mathlib.Core.Path.{sym, subst}
use Prim.Native.Nat.{ℕ, ◌+◌, ◌*◌, ◌/◌, ◌^◌, ◌≤◌, ◌<◌}
use native.Mathlib.Omega.{arith}
use lib.Dec.{T}
use lib.Ieee.{binary64, of_bits, to_bits}
use Rattle.number.proofs.Floats.{no_nan_bits, more_no_nan}
use Rattle.number.proofs.Patterns.{scaled_root}
use Rattle.number.proofs.Scaled.{packed_root, normal_root}
use Rattle.number.proofs.root_near.Goals as goal

exponent : (b : ℕ) → b < 0x7ff0_0000_0000_0000 → (b + 4598175219545276416) / 2 ^ 53 ≤ 2045
exponent b h = omega arith

pub float_to_bits-b : goal.float_to_bits-b
float_to_bits-b c = more_no_nan c.args.x (of_bits binary64 0x000f_ffff_ffff_ffff) c.if-x.true

pub float_to_bits-q : goal.float_to_bits-q
float_to_bits-q c = more_no_nan c.args.guess (of_bits binary64 0) c.if-guess.true

pub overflow_add-result : goal.overflow_add-result
overflow_add-result c =
    let near = c.in-Some.ensures in
    omega (arith, near.most)

pub float_from_bits-result : goal.float_from_bits-result
float_from_bits-result c =
    let near = c.in-Some.ensures in
    no_nan_bits _ (omega (arith, near.most))

pub returns-in-Some : goal.returns-in-Some
returns-in-Some c =
    let a = c.radicand in
    let x = c.args.x in
    let v = to_bits binary64 x + 4598175219545276416 in
    let k = v / 2 ^ 53 in
    let q = c.in-Some.digits in
    let root = of_bits binary64 (k * 2 ^ 52 + q) in
    let near = c.in-Some.ensures in
    let e = a.ensures in
    normal_root x root (subst T (sym c.well_formed.0.1) tt) c.if-x.true c.if-b-lt9218868437227405312.true
    (packed_root v a.result root e.value (scaled_root a.result k q e.lower_bound_1 e.lower_bound_2 (exponent (to_bits binary64 x) c.if-b-lt9218868437227405312.true) near))
