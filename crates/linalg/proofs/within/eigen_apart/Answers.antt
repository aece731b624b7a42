-- `within::eigen_apart` meets its contract. Assumes nothing.
use native.Mathlib.Omega.{arith}
use mathlib.Core.Path.{◌≡◌, refl, sym}
use Prim.Native.Nat.{◌+◌, ◌-◌, ◌*◌, ◌≤◌}
use lib.ListN.{length, take}
use lib.Seq.{length-take-le}
use borrow.Author.Rules.{rules}
use Rattle.matrix.specs.Layout.{kept_then, kept_from, filled_kept}
use Rattle.householder_within.specs.Within.{back, back_long, lent_long, back-kept}
use Rattle.linalg.specs.Within.{short_square, apart_values, apart_vectors, apart_convergence}
use Rattle.linalg.proofs.within.eigen_apart.Goals as goal

pub copy-requires : goal.copy-requires
copy-requires c =
    record { fact_1 = omega (arith, c.requires); fact_2 = omega (arith, short_square c.args.n c.requires.fact_1) }

pub slice_bounds-a-end : goal.slice_bounds-a-end
slice_bounds-a-end c = (omega (arith, short_square c.args.n c.requires.fact_1, c.copy.ensures.long))

pub slice_bounds-eigen-end : goal.slice_bounds-eigen-end
slice_bounds-eigen-end c = sym (let n = c.args.n in length-take-le (n * n) c.copy.new.list (omega (arith, short_square c.args.n c.requires.fact_1, c.copy.ensures.long)))

pub eigen-r-requires : goal.eigen-r-requires
eigen-r-requires c =
    let n = c.args.n in
    let w = c.args.w.now in
    let long = lent_long (n * n) (length w - n * n) w refl in
    record { fact_1 = omega arith; fact_2 = (let n = c.args.n in length-take-le (n * n) c.copy.new.list (omega (arith, short_square c.args.n c.requires.fact_1, c.copy.ensures.long))); fact_3 = omega (arith, c.requires, long); fact_4 = omega (arith, c.requires); fact_5 = short_square n c.requires.fact_1 }

pub transpose-requires : goal.transpose-requires
transpose-requires c =
    let eigen = c.eigen-r in
    let n = c.args.n in
    let w = c.args.w.now in
    let values = eigen.ensures.filled in let vectors = eigen.ensures.filled_2 in let kept = eigen.ensures.kept in let ended = eigen.ensures.value in
    let m = length w - n * n in
    let w₁ = back (n * n) m w eigen.new.work in
    let long = back_long (n * n) m w eigen.new.work refl (omega (arith, c.requires)) kept.long in
    let small : n ≤ 512 = omega (arith, c.requires) in record { fact_1 = record { small = small; long = omega (arith, short_square n c.requires.fact_1, vectors.long) }; fact_2 = record { small = small; long = omega (arith, c.requires, long, lent_long (n * n) (length w₁ - n * n) w₁ refl) } }

pub returns : goal.returns
returns c =
    let transpose = c.transpose in
    let eigen = c.eigen-r in
    let n = c.args.n in
    let w = c.args.w.now in
    let short = short_square n c.requires.fact_1 in
    let values = eigen.ensures.filled in let vectors = eigen.ensures.filled_2 in let kept = eigen.ensures.kept in let ended = eigen.ensures.value in
    let y = eigen.new.work in
    let z = transpose.new.list in
    let m = length w - n * n in
    let w₁ = back (n * n) m w y in
    let m₁ = length w₁ - n * n in
    let inside : n * n ≤ length w = omega (arith, c.requires) in
    let long = back_long (n * n) m w y refl inside kept.long in
    let inside₁ : n * n ≤ length w₁ = omega (arith, c.requires, long) in record {
      fact_1 = apart_values n w c.copy.ensures short values;
      fact_2 = apart_vectors n w c.copy.ensures short m₁ w₁ vectors short transpose.ensures refl inside₁
          (omega (arith, c.requires, long, lent_long (n * n) m₁ w₁ refl));
      fact_3 = kept_then (back-kept (n * n) m w y refl inside kept.long (n * n + 4 * n) kept)
          (kept_from (n * n + (n * n + 4 * n)) (omega arith)
          (back-kept (n * n) m₁ w₁ z refl inside₁ transpose.ensures.long (n * n) (filled_kept transpose.ensures)));
      fact_4 = apart_convergence n w c.copy.ensures short ended;
    }
