use lib.Ieee.{binary64, of_bits}
use Rattle.variance_report.specs.Report.{numbers_of}
use Rattle.text.specs.Stored.{rest_turn, rest_end}
use Rattle.variance_report.proofs.Variances.{length_numbers, number_at}
use native.Mathlib.Omega.{arith}
use mathlib.Core.Path.{refl, ◌∙◌}
use Rattle.variance_report.proofs.numbers_of.Goals as goal

pub loop-k-init : goal.loop-k-init
loop-k-init c = refl

pub loop-k-preserved : goal.loop-k-preserved
loop-k-preserved c =
    let a = c.args in
    let l = c.loop-k in
    let b = a.bits.now in
    let k = l.k in
    rest_turn (numbers_of b) _ k k _ _ (of_bits binary64 0) (omega (arith, length_numbers b)) refl (c.number_of_bits.ensures ∙ number_at b k) ∙ l.invariant

pub returns : goal.returns
returns c =
    let a = c.args in
    rest_end (numbers_of a.bits.now) c.loop-k.out c.loop-k.k c.loop-k.k
    (omega (arith, length_numbers a.bits.now)) ∙ c.loop-k.invariant
