-- `ranked::write_vectors` meets its contract: the vectors of i functions are written. Assumes nothing.
use native.Mathlib.Omega.{arith}
use mathlib.Core.Path.{◌≡◌, refl, ap, ◌∙◌}
use Prim.Native.Nat.{ℕ, ◌<◌}
use lib.ListN.{length}
use lib.ListN.{get_or, take}
use lib.Ieee.{nan}
use mathlib.Core.List.{flatten}
use Rattle.storage.specs.Elements.{from}
use Rattle.storage.specs.Filled.{filled_none, filled_to, filled_same}
use Rattle.caps.specs.Caps.{degrees}
use Rattle.ranking.specs.Rankings.{joined}
use Rattle.cap_functions.specs.CapRanked.{run_at, run_more, run_within, run_filled}
use Rattle.cap_functions.proofs.ranked.write_vectors.Goals as goal

pub loop-i-init : goal.loop-i-init
unfolding flatten
loop-i-init c = (omega arith, refl, filled_none)

pub offset_bounds-places-i : goal.offset_bounds-places-i
offset_bounds-places-i c = omega (arith, c.requires.fact_1.long)

pub bounds-places-i : goal.bounds-places-i
bounds-places-i c = omega (arith, c.requires.fact_1.long)

pub offset_bounds-order-f : goal.offset_bounds-order-f
offset_bounds-order-f c =
    let inside : c.from-f.result < c.args.n = (let f = c.requires.fact_1.inside c.loop-i.i c.loop-i-test.true in omega arith) in
    omega (arith, inside, c.requires.fact_2.of_orders)

pub bounds-order-f : goal.bounds-order-f
bounds-order-f c =
    let inside : c.from-f.result < c.args.n = (let f = c.requires.fact_1.inside c.loop-i.i c.loop-i-test.true in omega arith) in
    omega (arith, inside, c.requires.fact_2.of_orders)

pub overflow_sub-k : goal.overflow_sub-k
overflow_sub-k c =
    let inside : c.from-f.result < c.args.n = (let f = c.requires.fact_1.inside c.loop-i.i c.loop-i-test.true in omega arith) in
    c.requires.fact_2.order c.from-f.result inside

pub overflow_add-k : goal.overflow_add-k
overflow_add-k c = omega (arith, c.requires.fact_2.few)

pub offset_bounds-starts-f : goal.offset_bounds-starts-f
offset_bounds-starts-f c =
    let inside : c.from-f.result < c.args.n = (let f = c.requires.fact_1.inside c.loop-i.i c.loop-i-test.true in omega arith) in
    omega (arith, inside, c.requires.fact_2.of_starts)

pub bounds-starts-f : goal.bounds-starts-f
bounds-starts-f c =
    let inside : c.from-f.result < c.args.n = (let f = c.requires.fact_1.inside c.loop-i.i c.loop-i-test.true in omega arith) in
    let r = c.requires.fact_2 in
    omega (arith, inside, r.of_starts)

pub copy_run-requires : goal.copy_run-requires
copy_run-requires c =
    let inside : c.from-f.result < c.args.n = (let f = c.requires.fact_1.inside c.loop-i.i c.loop-i-test.true in omega arith) in
    let loop = c.loop-i in
    let a = c.args in
    let w = run_within a.lmax a.n a.order.now a.starts.now a.places.now a.work.now c.requires.fact_1
    loop.i c.loop-i-test.true loop.invariant.1 (ap (λ (f : ℕ). degrees a.lmax (get_or a.order.now f 0)) c.from-f.ensures) in
    record { fact_1 = c.requires.fact_2.inside c.from-f.result inside; fact_2 = omega (arith, w, c.requires.fact_3, loop.invariant.2.long) }

pub overflow_add-v : goal.overflow_add-v
overflow_add-v c =
    let loop = c.loop-i in
    let a = c.args in
    let w = run_within a.lmax a.n a.order.now a.starts.now a.places.now a.work.now c.requires.fact_1
    loop.i c.loop-i-test.true loop.invariant.1
    (ap (λ (f : ℕ). degrees a.lmax (get_or a.order.now f 0)) c.from-f.ensures) in
    let long = loop.invariant.2.long in
    omega (arith, w, c.requires.fact_3)

pub loop-i-preserved : goal.loop-i-preserved
loop-i-preserved c =
    let b = c.loop-i-test.true in
    let loop = c.loop-i in
    let a = c.args in
    let copied =
    filled_same (from (get_or a.starts.now (get_or a.places.now loop.i 0) 0) a.work.now nan) c.copy_run.ensures
    (λ j h. ap (λ (f : ℕ). from (get_or a.starts.now f 0) a.work.now nan j) c.from-f.ensures) in (
      omega arith,
      run_more a.lmax a.n a.order.now a.starts.now a.places.now a.work.now c.requires.fact_1
          loop.i b loop.invariant.1 (ap (λ (f : ℕ). degrees a.lmax (get_or a.order.now f 0)) c.from-f.ensures),
      run_filled a.lmax a.n a.order.now a.starts.now a.places.now a.work.now c.requires.fact_1
          loop.i b loop.invariant.1 (ap (λ (f : ℕ). degrees a.lmax (get_or a.order.now f 0)) c.from-f.ensures) loop.invariant.2 copied,
    )

pub returns : goal.returns
returns c =
    let a = c.args in
    let all : c.loop-i.i ≡ a.n = omega (arith, c.loop-i.invariant.0, c.loop-i-test.false) in
    filled_to c.loop-i.invariant.2 (c.loop-i.invariant.1 ∙ ap (λ (x : ℕ). length (joined (run_at a.lmax a.order.now a.starts.now
    a.work.now) (take x a.places.now))) all)
