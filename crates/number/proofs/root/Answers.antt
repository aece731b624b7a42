-- `number::root` meets its contract. Assumes nothing.
use borrow.Author.Rules.{rules}
use mathlib.Core.Path.{◌≡◌, sym, subst}
use Prim.Native.Nat.{ℕ, ◌/◌, ◌^◌, ◌≤◌, ◌<◌}
use native.Mathlib.Omega.{arith}
use lib.Dec.{T}
use lib.Ieee.{binary64, fits, to_bits}
use lib.Ieee.Positive.{above}
use Rattle.number.proofs.Cases.{above_no_nan, bits_small, normal_above, root_top}
use Rattle.number.proofs.Scaled.{normal_root}
use Rattle.number.proofs.root.Goals as goal

top : (b : ℕ) → b < 2 ^ 63 → 0x7ff0_0000_0000_0000 ≤ b → b / 2 ^ 52 ≡ 2047
top b h k = omega arith

pub float_to_bits-b : goal.float_to_bits-b
float_to_bits-b c = above_no_nan c.args.x (normal_above c.args.x c.if-x.true)

pub returns-then-b-lt9218868437227405312 : goal.returns-then-b-lt9218868437227405312
returns-then-b-lt9218868437227405312 c =
    normal_root c.args.x c.scaled.result (subst T (sym c.well_formed.0.1) tt) c.if-x.true c.if-b-lt9218868437227405312.true c.scaled.ensures

pub returns-else-b-lt9218868437227405312 : goal.returns-else-b-lt9218868437227405312
returns-else-b-lt9218868437227405312 c =
    let x = c.args.x in
    root_top x (subst T (sym c.well_formed.0.1) tt) (normal_above c.args.x c.if-x.true) (top (to_bits binary64 x) (bits_small x (subst T (sym c.well_formed.0.1) tt) (normal_above c.args.x c.if-x.true)) c.if-b-lt9218868437227405312.false)
