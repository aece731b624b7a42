use lib.ListN.{length-set}
use Rattle.variance_report.proofs.Texts.{length_decimal, length-line, line_parts}
use native.Mathlib.Omega.{arith}
use Rattle.variance_report.proofs.write_line.Goals as goal

pub write_decimal-space-requires : goal.write_decimal-space-requires
write_decimal-space-requires c = omega (arith, length_decimal c.args.n (omega arith))

pub bounds-out-space : goal.bounds-out-space
bounds-out-space c = omega (arith, length_decimal c.args.n (omega arith))

pub overflow_add-space : goal.overflow_add-space
overflow_add-space c = omega (arith, length_decimal c.args.n (omega arith))

pub write_hex-requires : goal.write_hex-requires
write_hex-requires c = simp length-set (omega (arith, length_decimal c.args.n (omega arith)))

pub overflow_add-out : goal.overflow_add-out
overflow_add-out c = omega (arith, length_decimal c.args.n (omega arith))

pub bounds-out-space-2 : goal.bounds-out-space-2
bounds-out-space-2 c =
    let a = c.args in
    let write-hex = c.write_hex in
    omega (arith, length_decimal a.n (omega arith), simp length-set at write-hex.auto.out)

pub overflow_add-result : goal.overflow_add-result
overflow_add-result c = omega (arith, length_decimal c.args.n (omega arith))

pub returns : goal.returns
returns c =
    let write-hex = c.write_hex in
    let a = c.args in
    let write-decimal = c.write_decimal-space in record { value = omega (arith, length-line a.n a.bits); out_after = line_parts _ _ _ _ _ _ _ write-decimal.ensures.value write-decimal.ensures.out_after write-hex.ensures }
