-- `write_line` meets its contract: a number of a word's size has at most 20 digits, so there is room for both. Assumes nothing.
use native.Mathlib.Omega.{arith}
use Rattle.text.specs.Stored.{prefix-stored}
use Rattle.text.specs.Digits.{length_word}
use Rattle.replay.proofs.Lines.{length-line, line_parts}
use Rattle.replay.proofs.write_line.Goals as goal

pub returns : goal.returns
returns c =
    let all = c.write_decimal-end in
    let of = c.write_bytes-last in
    let right = c.write_decimal-of in
    let name = c.write_bytes-digits in
    let a = c.args in
    let n = length-line a.name.now a.right a.all in
    let is = line_parts a.name.now a.right a.all _ _ _ _ _ _ _ _ _ name.ensures.value name.ensures.out_after
    right.ensures.value right.ensures.out_after of.ensures.value of.ensures.out_after
    all.ensures.value all.ensures.out_after in
    record { value = omega arith; out_after = is; prefix = prefix-stored _ _ _ _ is (omega arith) (omega (arith, length_word a.right (omega arith), length_word a.all (omega arith))) }
