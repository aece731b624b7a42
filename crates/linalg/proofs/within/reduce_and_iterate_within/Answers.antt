-- `within::reduce_and_iterate_within` meets its contract: the iteration begins with the reduced matrix. Assumes nothing.
use native.Mathlib.Omega.{arith}
use mathlib.Core.Path.{◌≡◌, refl, sym, ap, ◌∙◌}
use Prim.Native.Nat.{◌+◌, ◌-◌, ◌*◌, ◌≤◌}
use lib.ListN.{length, take, drop}
use lib.Seq.{length-take-le}
use borrow.Author.Rules.{rules}
use Rattle.matrix.specs.Layout.{plain, transposed, kept_then, kept_from}
use Rattle.householder_within.specs.Within.{lent_whole, lent_long, back-kept}
use Rattle.linalg.specs.EigenLaws.{iterated, solved_convergence, solved_values}
use Rattle.linalg.specs.Within.{solved_behind}
use Rattle.linalg.proofs.within.reduce_and_iterate_within.Goals as goal

pub slice_bounds-iterate-end-2 : goal.slice_bounds-iterate-end-2
slice_bounds-iterate-end-2 c = sym (length-take-le c.args.n c.reduce_within.new.d (omega (arith, c.requires, c.reduce_within.ensures.filled.long)))

pub slice_bounds-iterate-end-3 : goal.slice_bounds-iterate-end-3
slice_bounds-iterate-end-3 c = sym (length-take-le c.args.n c.reduce_within.new.e (omega (arith, c.requires, c.reduce_within.ensures.filled_2.long)))

pub iterate-requires : goal.iterate-requires
iterate-requires c =
    let n = c.args.n in
    let w = c.reduce_within.new.w in
    record {
      of_d = (length-take-le c.args.n c.reduce_within.new.d (omega (arith, c.requires, c.reduce_within.ensures.filled.long)));
      of_e = (length-take-le c.args.n c.reduce_within.new.e (omega (arith, c.requires, c.reduce_within.ensures.filled_2.long)));
      of_q = record {
        small = c.requires.fact_1;
        long = omega (arith, lent_long (n * n) (length w - n * n) w refl, c.requires, c.reduce_within.ensures.kept.long);
      };
    }

pub returns : goal.returns
returns c =
    let n = c.args.n in
    let a = plain n c.args.w.now in
    let made = c.reduce_within.ensures in
    let w = c.reduce_within.new.w in
    let values = c.reduce_within.new.d in
    let m = length w - n * n in
    let it = c.iterate.ensures in
    let d = c.iterate.new.d in
    let e = c.iterate.new.e in
    let q = c.iterate.new.q in
    let long = made.kept.long in
    let inside : n * n ≤ length w = omega (arith, c.requires, long) in
    let done =
    iterated n a values c.reduce_within.new.e (take m (drop (n * n) w)) made.filled made.filled_2
    (ap (transposed n) (lent_whole (n * n) m w refl) ∙ made.w_after) it (omega arith) (omega (arith, c.requires)) in record {
      fact_1 = solved_values n a d e q done made.filled (omega arith);
      fact_2 = solved_behind n m w a d e q done refl inside it.kept.of_q.long;
      fact_3 = kept_then (kept_from (n * n + (n * n + 4 * n)) (omega arith) made.kept)
          (kept_from (n * n + (n * n + 4 * n)) (omega arith) (back-kept (n * n) m w q refl inside it.kept.of_q.long (n * n) it.kept.of_q));
      fact_4 = solved_convergence n a d e q done;
    }
