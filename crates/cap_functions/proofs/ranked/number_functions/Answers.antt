-- `ranked::number_functions` meets its contract: the functions of the orders below m are numbered. Assumes nothing.
use native.Mathlib.Omega.{arith}
use mathlib.Core.Path.{◌≡◌, sym, ap, ◌∙◌}
use Prim.Native.Nat.{ℕ, ◌+◌, ◌-◌, ◌*◌, ◌≤◌}
use Rattle.storage.specs.Filled.{Filled, filled_none, filled_to}
use Rattle.caps.specs.Caps.{degrees}
use Rattle.cap_functions.specs.CapPlaces.{functions_before, numbers_before, vectors_at, before_zero, order_within, divided, functions_all}
use Rattle.cap_functions.specs.CapRanked.{order_at, start_at, orders_more, starts_more}
use Rattle.cap_functions.proofs.ranked.number_functions.Goals as goal

pub loop-m-init : goal.loop-m-init
loop-m-init c =
    let z = before_zero c.args.lmax in (
      omega arith,
      omega (arith, z.0),
      omega (arith, z.1, c.requires.fact_2),
      filled_to filled_none (sym z.0),
      filled_to filled_none
          (sym z.0),
    )

pub number_order-requires : goal.number_order-requires
number_order-requires c =
    let o = order_within c.args.lmax c.loop-m.m (omega
    (arith, c.loop-m-test.true)) c.requires.fact_1 in
    let d = divided c.args.lmax c.requires.fact_1 in
    let k : c.args.lmax + 1 - c.loop-m.m ≡ degrees
    c.args.lmax c.loop-m.m = omega
    (arith, c.loop-m-test.true) in
    let cells = ap (λ (x : ℕ). x * x) k in
    let i = c.loop-m.invariant in record { fact_1 = omega (arith, c.requires.fact_1); fact_2 = omega (arith, i.1, o.functions_more, o.functions_within, i.3.long, c.requires.fact_3, k); fact_3 = omega (arith, i.1, o.functions_more, o.functions_within, i.4.long, c.requires.fact_4, k); fact_4 = omega (arith, i.2, cells, o.numbers_more, o.numbers_within, d.end, d.work_small) }

pub overflow_add-f : goal.overflow_add-f
overflow_add-f c =
    let o = order_within c.args.lmax
    c.loop-m.m (omega
    (arith, c.loop-m-test.true))
    c.requires.fact_1 in
    let d = divided c.args.lmax
    c.requires.fact_1 in
    omega (
      arith,
      c.loop-m.invariant.1,
      o.functions_more,
      o.functions_within,
      o.functions_small,
    )

pub square-v-requires : goal.square-v-requires
square-v-requires c = omega (arith, c.requires.fact_1)

pub overflow_add-v : goal.overflow_add-v
overflow_add-v c =
    let o = order_within c.args.lmax c.loop-m.m (omega
    (arith, c.loop-m-test.true)) c.requires.fact_1 in
    let d = divided c.args.lmax c.requires.fact_1 in
    omega (
      arith,
      c.loop-m.invariant.2,
      o.numbers_more,
      o.numbers_within,
      d.end,
      d.work_small,
      c.square-v.ensures.small,
    )

pub loop-m-preserved : goal.loop-m-preserved
loop-m-preserved c =
    let a = c.args in
    let l = c.loop-m in
    let i = c.loop-m.invariant in
    let below : l.m ≤ a.lmax = omega (arith, c.loop-m-test.true) in
    let o = order_within a.lmax l.m below c.requires.fact_1 in
    let k : a.lmax + 1 - l.m ≡ degrees a.lmax l.m = omega (arith, below) in
    let cells = ap (λ (x : ℕ). x * x) k in
    let more : functions_before a.lmax l.m + (a.lmax + 1 - l.m) ≡ functions_before a.lmax (l.m + 1) = omega (arith, k, o.functions_more) in
    let done = c.number_order.ensures in (
      omega (arith, below),
      omega (arith, i.1, more),
      omega (arith, i.2, c.square-v.ensures.is, cells, o.numbers_more),
      filled_to (orders_more a.lmax l.m below i.3 done.fact_1 i.1 k) more,
      filled_to (starts_more a.lmax l.m below i.4 done.fact_2 i.1 k i.2) more,
    )

pub returns : goal.returns
returns c =
    let i = c.loop-m.invariant in
    let all : c.loop-m.m ≡ c.args.lmax + 1 = omega (arith, i.0, c.loop-m-test.false) in
    let n = ap (functions_before c.args.lmax) all ∙ functions_all c.args.lmax in
    record { fact_1 = filled_to i.3 n; fact_2 = filled_to i.4 n }
