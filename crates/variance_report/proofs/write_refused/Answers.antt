use lib.ListN.{length-set}
use Rattle.variance_report.proofs.Texts.{number_small, refused_parts}
use native.Mathlib.Omega.{arith}
use mathlib.Core.Path.{refl}
use Rattle.variance_report.proofs.write_refused.Goals as goal

pub overflow_cast-out : goal.overflow_cast-out
overflow_cast-out c = omega (arith, number_small c.args.e)

pub overflow_add-out : goal.overflow_add-out
overflow_add-out c = omega (arith, number_small c.args.e)

pub bounds-out-9 : goal.bounds-out-9
bounds-out-9 c = simp length-set (omega arith)

pub returns : goal.returns
returns c = record { value = refl; out_after = refused_parts _ _ _ _ c.from.ensures c.write_bytes.ensures.out_after }
