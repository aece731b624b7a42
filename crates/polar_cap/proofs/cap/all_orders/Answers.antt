-- `cap::all_orders` meets its contract: the orders below m are stored and told of, and the sectoral number and the powers of m are at hand. Assumes nothing.
use native.Mathlib.Omega.{arith}
use mathlib.Core.Path.{◌≡◌, refl, ap, ◌∙◌}
use Prim.Native.Nat.{ℕ, ◌+◌, ◌-◌, ◌*◌, ◌≤◌}
use lib.Ieee.{Float}
use mathlib.Core.Path.{subst}
use Rattle.number.specs.Float64.{◌⊗◌}
use Rattle.number.specs.Root.{root_of}
use Rattle.storage.specs.Filled.{filled_none, filled_to, filled_self}
use Rattle.storage.specs.Triangle.{row_start_zero, row_start_more, row_within}
use Rattle.recursion.specs.Recursion.{sectoral_ratio, pmm_zero, pmm_more}
use Rattle.matrix.specs.Layout.{kept_none, kept_then}
use Rattle.linalg.specs.Solution.{count_within}
use Rattle.caps.specs.Caps.{degrees}
use Rattle.caps.specs.Nodes.{rescales_first, rescales_next}
use Rattle.cap_functions.specs.CapPlaces.{before_zero, order_within, divided, room_kept}
use Rattle.polar_cap.specs.CapOrder.{convergence_few, told_more}
use Rattle.polar_cap.specs.CapStorage.{Stored, stored_none}
use Rattle.polar_cap.proofs.cap.all_orders.Goals as goal

pub overflow_add-count : goal.overflow_add-count
overflow_add-count c = let r = c.requires.fact_3 in omega (arith, r.top)

pub first_rescales-requires : goal.first_rescales-requires
first_rescales-requires c = let r = c.requires.fact_3 in omega
    (arith, r.of_rescales)

pub overflow_add-v : goal.overflow_add-v
overflow_add-v c =
    let r = c.requires.fact_3 in let d = divided c.args.lmax r.top in omega
    (arith, c.requires.fact_1, c.requires.fact_2.size, d.vectors_at_lem, d.end, d.work_small)

pub loop-m-init : goal.loop-m-init
loop-m-init c =
    let a = c.args in
    let t = c.requires.fact_2 in
    let z = before_zero a.lmax in
    let d = divided a.lmax c.requires.fact_3.top in (
      omega arith,
      pmm_zero,
      omega (arith, row_start_zero),
      omega (arith, c.requires.fact_1, z.0),
      omega (arith, c.requires.fact_1, z.1, t.size, d.vectors_at_lem),
      filled_self (rescales_first a.latitudes.now (a.lmax + 1) c.first_rescales.ensures),
      stored_none a.lmax a.x0 a.weights.now a.latitudes.now t,
      kept_none,
      kept_none,
      kept_none,
      kept_none,
      refl,
      refl,
      filled_none,
    )

pub order-ended-requires : goal.order-ended-requires
order-ended-requires c =
    let i = c.loop-m.invariant in
    let first = c.first_rescales.ensures.long in
    let room = room_kept c.requires.fact_3 (i.5.long ∙ first)
    i.11 i.12 i.7.long i.8.long i.9.long i.10.long in record { m_le_lmax_1 = omega (arith, c.loop-m-test.true); m_le_lmax_2 = i.1; m_le_lmax_3 = i.2; m_le_lmax_4 = i.3; m_le_lmax_5 = i.4; filled_1 = filled_self i.5; filled_2 = i.6; filled_3 = room }

pub tell-requires : goal.tell-requires
tell-requires c =
    let a = c.args in
    let l = c.loop-m in
    let top = c.requires.fact_3.top in
    let room = c.requires.fact_4 in
    let taken = c.loop-m-test.true in record { fact_1 = omega (arith, taken, top); fact_2 = count_within c.order-ended.ensures.kept_4 (convergence_few a.lmax l.m a.x0 top); fact_3 = omega (arith, taken, room, l.invariant.13.long) }

pub next_rescales-requires : goal.next_rescales-requires
next_rescales-requires c =
    let r = c.requires.fact_3 in
    let first = c.first_rescales.ensures.long in record {
      fact_1 = omega
          (arith, r.of_rescales, c.loop-m.invariant.5.long, first);
      fact_2 = omega
          (arith, r.of_latitudes);
    }

pub overflow_sub-k : goal.overflow_sub-k
overflow_sub-k c =
    omega (arith, c.loop-m-test.true)

pub overflow_add-f : goal.overflow_add-f
overflow_add-f c =
    let a = c.args in
    let r = c.requires.fact_3 in
    let l = c.loop-m in
    let o = order_within a.lmax l.m (omega (arith, c.loop-m-test.true)) r.top in
    let d = divided a.lmax r.top in
    omega (arith, l.invariant.3, o.functions_more, o.functions_within, d.vectors_at_lem, d.end, d.work_small)

pub square-v-requires : goal.square-v-requires
square-v-requires c =
    let r = c.requires.fact_3 in omega (arith, r.top)

pub overflow_add-v-in-loop-m : goal.overflow_add-v-in-loop-m
overflow_add-v-in-loop-m c =
    let a = c.args in
    let r = c.requires.fact_3 in
    let l = c.loop-m in
    let d = divided a.lmax r.top in
    let o = order_within a.lmax l.m (omega (arith, c.loop-m-test.true)) r.top in
    omega (arith, l.invariant.4, o.numbers_more, o.numbers_within, d.end, d.work_small, c.square-v.ensures.small)

pub overflow_add-start : goal.overflow_add-start
overflow_add-start c =
    let r = c.requires.fact_3 in
    let l = c.loop-m in
    let a = c.args in
    let w = row_within l.m a.lmax (omega (arith, c.loop-m-test.true)) (omega (arith, r.top)) in
    omega (arith, l.invariant.2, w.within, w.more, w.small, r.top)

pub overflow_add-start-in-loop-m : goal.overflow_add-start-in-loop-m
overflow_add-start-in-loop-m c =
    let r = c.requires.fact_3 in
    let l = c.loop-m in
    let a = c.args in
    let w = row_within l.m a.lmax (omega (arith, c.loop-m-test.true)) (omega (arith, r.top)) in
    omega (arith, l.invariant.2, w.within, w.more, w.small, r.top)

pub overflow_add-m : goal.overflow_add-m
overflow_add-m c =
    let r = c.requires.fact_3 in
    omega (arith, c.loop-m-test.true, r.top)

pub next_sectoral-sectoral-requires : goal.next_sectoral-sectoral-requires
next_sectoral-sectoral-requires c =
    let r = c.requires.fact_3 in
    omega (arith, c.loop-m-test.true, r.top)

pub loop-m-preserved : goal.loop-m-preserved
loop-m-preserved c =
    let a = c.args in
    let r = c.requires.fact_3 in
    let l = c.loop-m in
    let i = c.loop-m.invariant in
    let below : l.m ≤ a.lmax = omega (arith, c.loop-m-test.true) in
    let o = order_within a.lmax l.m below r.top in
    let k : a.lmax + 1 - l.m ≡ degrees a.lmax l.m = omega (arith, below) in
    let cells = ap (λ (x : ℕ). x * x) k in
    let done = c.order-ended.ensures in
    let first = c.first_rescales.ensures.long in (
      omega (arith, below),
      c.next_sectoral-sectoral.ensures ∙ ap (λ (y : Float). y ⊗ root_of (sectoral_ratio (l.m + 1))) i.1 ∙ pmm_more l.m,
      omega (arith, i.2, row_start_more l.m),
      omega (arith, i.3, k, o.functions_more),
      omega (arith, i.4, c.square-v.ensures.is, cells, o.numbers_more),
      rescales_next a.latitudes.now l.m (a.lmax + 1) i.5 (omega (arith, r.of_rescales, first))
          c.next_rescales.ensures,
      done.stored_1,
      kept_then i.7 done.stored_2,
      kept_then i.8 done.kept_1,
      kept_then i.9 done.kept_2,
      kept_then i.10 done.kept_3,
      c.order-ended.auto.g ∙ i.11,
      c.order-ended.auto.column ∙ i.12,
      told_more a.lmax l.m a.x0 done.kept_4 i.13 c.tell.ensures,
    )

pub returns : goal.returns
returns c =
    let a = c.args in
    let i = c.loop-m.invariant in
    let all : c.loop-m.m ≡ a.lmax + 1 = omega (arith, i.0, c.loop-m-test.false) in record { stored_1 = subst (λ (n : ℕ). Stored a.lmax a.x0 a.weights.now a.latitudes.now a.total n c.loop-m.work) all i.6; stored_2 = i.7; kept_1 = i.8; kept_2 = i.9; kept_3 = i.10; filled = filled_to i.13 (ap (λ (n : ℕ). n * 2) all) }
