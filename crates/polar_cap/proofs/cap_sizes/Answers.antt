-- `cap_sizes` meets its contract: no product is too large. Assumes nothing.
use native.Mathlib.Omega.{arith}
use mathlib.Core.Path.{refl}
use Rattle.cap_functions.specs.CapPlaces.{products, sized}
use borrow.Author.Rules.{rules}
use Rattle.polar_cap.proofs.cap_sizes.Goals as goal

pub overflow_mul-product : goal.overflow_mul-product
overflow_mul-product c = let p = products c.args.lmax (omega arith) in omega (arith, p.square, p.two, p.three)

pub overflow_mul-numbers-2 : goal.overflow_mul-numbers-2
overflow_mul-numbers-2 c = let p = products c.args.lmax (omega arith) in omega (arith, p.square, p.two, p.three)

pub overflow_mul-cells : goal.overflow_mul-cells
overflow_mul-cells c = let p = products c.args.lmax (omega arith) in omega (arith, p.square, p.two, p.three)

pub overflow_add-result : goal.overflow_add-result
overflow_add-result c = let p = products c.args.lmax (omega arith) in omega (arith, p.square, p.two, p.three)

pub overflow_add-result-2 : goal.overflow_add-result-2
overflow_add-result-2 c = let p = products c.args.lmax (omega arith) in omega (arith, p.square, p.two, p.three)

pub overflow_add-result-3 : goal.overflow_add-result-3
overflow_add-result-3 c = let p = products c.args.lmax (omega arith) in omega (arith, p.square, p.two, p.three)

pub overflow_mul-result-2 : goal.overflow_mul-result-2
overflow_mul-result-2 c = let p = products c.args.lmax (omega arith) in omega (arith, p.square, p.two, p.three)

pub overflow_mul-result-3 : goal.overflow_mul-result-3
overflow_mul-result-3 c = let p = products c.args.lmax (omega arith) in omega (arith, p.square, p.two, p.three)

pub overflow_add-result-4 : goal.overflow_add-result-4
overflow_add-result-4 c = let p = products c.args.lmax (omega arith) in omega (arith, p.square, p.two, p.three)

pub overflow_add-result-5 : goal.overflow_add-result-5
overflow_add-result-5 c = let p = products c.args.lmax (omega arith) in omega (arith, p.square, p.two, p.three)

pub overflow_add-result-6 : goal.overflow_add-result-6
overflow_add-result-6 c = let p = products c.args.lmax (omega arith) in omega (arith, p.square, p.two, p.three)

pub overflow_add-result-7 : goal.overflow_add-result-7
overflow_add-result-7 c = let p = products c.args.lmax (omega arith) in omega (arith, p.square, p.two, p.three)

pub overflow_add-result-8 : goal.overflow_add-result-8
overflow_add-result-8 c = let p = products c.args.lmax (omega arith) in omega (arith, p.square, p.two, p.three)

pub returns : goal.returns
returns c = sized c.args.lmax refl
