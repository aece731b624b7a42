use Rattle.variance_report.specs.ReportFront.{pairs_most}
use lib.Ieee.{nan}
use Rattle.variance_report.proofs.Lists.{lent, lent_stored}
use Rattle.variance_report.proofs.Cases.{model_written}
use Rattle.variance_report.proofs.Variances.{variances_made, variances_are}
use native.Mathlib.Omega.{arith}
use mathlib.Core.Path.{refl}
use Prim.Native.Nat.{◌+◌}
use lib.ListN.{length}
use Rattle.variance_report.proofs.write_model.Goals as goal

pub numbers_of-requires : goal.numbers_of-requires
numbers_of-requires c = omega (arith, pairs_most c.args.nmax (omega arith))

pub numbers_of-requires-2 : goal.numbers_of-requires-2
numbers_of-requires-2 c = omega (arith, pairs_most c.args.nmax (omega arith))

pub slice_bounds-cs-end : goal.slice_bounds-cs-end
slice_bounds-cs-end c =
    let Numbers-of = c.numbers_of in
    let a = c.args in
    (lent_stored _ _ _ (length a.c.now) Numbers-of.ensures (omega (arith, pairs_most a.nmax (omega arith)))).within

pub slice_bounds-degree_variances-end : goal.slice_bounds-degree_variances-end
slice_bounds-degree_variances-end c =
    let Numbers-of = c.numbers_of in
    let a = c.args in
    (lent_stored _ _ _ (length a.c.now) Numbers-of.ensures (omega (arith, pairs_most a.nmax (omega arith)))).is

pub slice_bounds-ss-end : goal.slice_bounds-ss-end
slice_bounds-ss-end c =
    let a = c.args in
    (lent_stored _ _ _ (length a.c.now) c.numbers_of-2.ensures (omega (arith, pairs_most a.nmax (omega arith)))).within

pub slice_bounds-degree_variances-end-2 : goal.slice_bounds-degree_variances-end-2
slice_bounds-degree_variances-end-2 c =
    let a = c.args in
    (lent_stored _ _ _ (length a.c.now) c.numbers_of-2.ensures (omega (arith, pairs_most a.nmax (omega arith)))).is

pub slice_bounds-variances-end : goal.slice_bounds-variances-end
slice_bounds-variances-end c =
    let degree-variances = c.degree_variances in
    (lent degree-variances.new.out 87 (c.args.nmax + 1) degree-variances.auto.out (omega arith)).within

pub slice_bounds-write_lines-end : goal.slice_bounds-write_lines-end
slice_bounds-write_lines-end c =
    let degree-variances = c.degree_variances in
    (lent degree-variances.new.out 87 (c.args.nmax + 1) degree-variances.auto.out (omega arith)).is

pub write_lines-requires : goal.write_lines-requires
write_lines-requires c =
    let degree-variances = c.degree_variances in
    let write_bytes = c.write_bytes in
    let p = lent degree-variances.new.out 87 (c.args.nmax + 1) degree-variances.auto.out (omega arith) in
    (omega arith, omega (arith, write_bytes.auto.out))

pub returns : goal.returns
returns c =
    let Numbers-of = c.numbers_of in
    let write_bytes = c.write_bytes in
    let numbers-of2 = c.numbers_of-2 in
    let degree-variances = c.degree_variances in
    let a = c.args in
    let write-lines = c.write_lines in
    let most = pairs_most a.nmax (omega arith) in
    let p = lent_stored _ _ _ (length a.c.now) Numbers-of.ensures (omega arith) in
    let q = lent_stored _ _ _ (length a.c.now) numbers-of2.ensures (omega arith) in
    let made = variances_made _ a.nmax _ _ _ (omega arith) (omega arith) (omega arith) (omega arith) degree-variances.ensures.value
    degree-variances.ensures.out_after in
    let vs = variances_are a.c.now a.s.now a.nmax _ refl (omega arith) _ _ _ _ _ _ _ nan refl (omega arith) (omega arith) (omega arith)
    Numbers-of.ensures numbers-of2.ensures made in
    let w = model_written a.nmax a.c.now a.s.now _ _ _ _ _ vs write_bytes.ensures.out_after write-lines.ensures.value write-lines.ensures.out_after in
    record { value = w.end; out_after = w.text }
