-- `number::root_estimate::estimate` meets its contract. Assumes nothing.
use borrow.Author.Rules.{rules}
use Prim.Native.Nat.{◌+◌}
use native.Mathlib.Omega.{arith}
use Rattle.number.proofs.Floats.{no_nan_bits}
use Rattle.number.proofs.root_estimate.estimate.Goals as goal

pub float_from_bits-x : goal.float_from_bits-x
float_from_bits-x c = no_nan_bits (4607182418800017408 + c.args.w) (omega arith)
