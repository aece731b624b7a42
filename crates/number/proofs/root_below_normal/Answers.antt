-- `number::root_below_normal` meets its contract. Assumes nothing.
use mathlib.Core.Path.{◌≡◌, sym, ◌∙◌, subst}
use Prim.Native.Nat.{◌/◌, ◌^◌}
use native.Mathlib.Omega.{arith}
use lib.Dec.{T}
use lib.Ieee.{binary64, fits, to_bits}
use lib.Ieee.Positive.{above}
use Rattle.number.proofs.Cases.{is_above, above_no_nan, low_pos, root_low, subnormal_bits, root_zero, root_none}
use Rattle.number.proofs.root_below_normal.Goals as goal

pub float_to_bits-x : goal.float_to_bits-x
float_to_bits-x c = above_no_nan c.args.x (is_above c.args.x c.if-x.true)

pub subnormal-requires : goal.subnormal-requires
subnormal-requires c = record { fact_1 = low_pos c.args.x (subst T (sym c.well_formed.0.1) tt) (is_above c.args.x c.if-x.true) (subnormal_bits c.args.x (subst T (sym c.well_formed.0.1) tt) (is_above c.args.x c.if-x.true) c.requires); fact_2 = omega (arith, (subnormal_bits c.args.x (subst T (sym c.well_formed.0.1) tt) (is_above c.args.x c.if-x.true) c.requires)) }

pub returns-then-x : goal.returns-then-x
returns-then-x c =
    c.subnormal.ensures ∙ sym (root_low c.args.x (subst T (sym c.well_formed.0.1) tt) (is_above c.args.x c.if-x.true) (subnormal_bits c.args.x (subst T (sym c.well_formed.0.1) tt) (is_above c.args.x c.if-x.true) c.requires))

pub returns-then-x-2 : goal.returns-then-x-2
returns-then-x-2 c = root_zero c.args.x c.if-x-2.true

pub returns-else-x-2 : goal.returns-else-x-2
returns-else-x-2 c = root_none c.args.x c.if-x.false c.if-x-2.false
