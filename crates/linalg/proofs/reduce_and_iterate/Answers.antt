-- `reduce_and_iterate` meets its contract: the iteration begins with the reduced matrix, and its product is turned to rows. Assumes nothing.
use native.Mathlib.Omega.{arith}
use mathlib.Core.Path.{◌≡◌, sym}
use lib.ListN.{length, take}
use lib.Seq.{length-take-le}
use borrow.Author.Rules.{rules}
use Rattle.storage.specs.Filled.{filled_to}
use Rattle.matrix.specs.Layout.{kept_then}
use Rattle.linalg.specs.EigenLaws.{iterated, lent_kept, solved_convergence, solved_values, solved_vectors, work_kept}
use Rattle.linalg.proofs.reduce_and_iterate.Goals as goal

pub slice_bounds-iterate-end-2 : goal.slice_bounds-iterate-end-2
slice_bounds-iterate-end-2 c = sym (let n = c.args.n in length-take-le n c.reduce.new.values (omega (arith, c.reduce.ensures.filled.long)))

pub slice_bounds-iterate-end-4 : goal.slice_bounds-iterate-end-4
slice_bounds-iterate-end-4 c = sym (let n = c.args.n in length-take-le n c.reduce.new.work (omega (arith, c.reduce.ensures.kept_1.long)))

pub iterate-ended-requires : goal.iterate-ended-requires
iterate-ended-requires c =
    let small = c.requires.fact_1 in
    record {
      of_d = (let n = c.args.n in length-take-le n c.reduce.new.values (omega (arith, c.reduce.ensures.filled.long)));
      of_e = (let n = c.args.n in length-take-le n c.reduce.new.work (omega (arith, c.reduce.ensures.kept_1.long)));
      of_q = record { small = small; long = omega (arith, c.reduce.ensures.kept_2.long) };
    }

pub copy-requires : goal.copy-requires
copy-requires c =
    let pre = c.requires in
    let made = c.reduce.ensures in
    let kept = c.iterate-ended.ensures.kept in
    let work = made.kept_1.long in
    let lent = (lent_kept c.iterate-ended.new.e c.reduce.new.work kept.of_e (omega arith)).long in
    record { fact_1 = omega (arith, pre, work, lent, c.transpose.ensures.long); fact_2 = omega (arith, pre, made.kept_2.long, kept.of_q.long) }

pub returns : goal.returns
returns c =
    let a = c.args in
    let pre = c.requires in
    let made = c.reduce.ensures in
    let work = c.reduce.new.work in
    let it = c.iterate-ended.ensures in
    let d = c.iterate-ended.new.d in
    let e = c.iterate-ended.new.e in
    let q = c.iterate-ended.new.q in
    let room = made.kept_1.long in
    let done =
    iterated a.n a.a.now c.reduce.new.values work c.reduce.new.vectors made.filled made.filled_2 made.vectors_after it
    (omega arith) (omega arith) in
    let lent = (lent_kept e work it.kept.of_e (omega arith)).long in record {
      filled = solved_values a.n a.a.now d e q done made.filled (omega arith);
      filled_2 = solved_vectors a.n a.a.now d e q done c.transpose.ensures (filled_to c.copy.ensures pre.fact_2)
          (kept_then made.kept_2 it.kept.of_q) (omega arith) (omega arith);
      kept = work_kept a.n e made.kept_1 c.transpose.ensures it.kept.of_e (omega arith);
      value = solved_convergence a.n a.a.now d e q done;
    }
