-- `cap::vectors_of` meets its contract: the solver is lent Grünbaum's matrix and the part of the working list behind the tables. Assumes nothing.
use native.Mathlib.Omega.{arith}
use mathlib.Core.Path.{refl, sym}
use Prim.Native.Nat.{◌-◌}
use lib.ListN.{length}
use lib.Seq.{length-take-le}
use Rattle.matrix.specs.Layout.{filled_kept}
use Rattle.polar_cap.specs.CapOrder.{grunbaum_made, vectors_made, convergence_made}
use Rattle.polar_cap.specs.CapStorage.{apart_part}
use borrow.Author.Rules.{rules}
use Rattle.polar_cap.proofs.cap.vectors_of.Goals as goal

pub slice_bounds-eigen-end-2 : goal.slice_bounds-eigen-end-2
slice_bounds-eigen-end-2 c =
    let sq = c.square-size.ensures in
    let long = c.grunbaum.ensures.long in
    sym (length-take-le c.square-size.result c.grunbaum.new.g
    (omega arith))

pub eigen-requires : goal.eigen-requires
eigen-requires c =
    let sq = c.square-size.ensures in
    let long = c.grunbaum.ensures.long in
    let size = length-take-le c.square-size.result
    c.grunbaum.new.g (omega arith) in
    record { fact_1 = omega arith; fact_2 = omega arith; fact_3 = omega arith; fact_4 = omega arith; fact_5 = omega arith }

pub returns : goal.returns
returns c =
    let a = c.args in
    let made = grunbaum_made a.lmax a.m a.x0 (omega arith) c.square-size.ensures.is
    c.grunbaum.ensures (omega arith) in record {
      fact_1 = vectors_made a.lmax a.m a.x0 (omega arith) made c.eigen.ensures.filled_2;
      fact_2 = filled_kept c.eigen.ensures.filled;
      fact_3 = apart_part a.at (length a.work.now - a.at) a.work.now c.eigen.ensures.kept
          (omega arith) refl;
      fact_4 = convergence_made a.lmax a.m a.x0 (omega arith) made c.eigen.ensures.value;
    }
