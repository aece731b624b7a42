-- `number::root_digits::corrected` meets its contract. Assumes nothing.
use mathlib.Core.Path.{◌≡◌, refl, sym, subst, ◌∙◌}
use Prim.Native.Nat.{ℕ, ◌+◌, ◌-◌, ◌*◌, ◌/◌, ◌%◌, ◌≤◌, ◌<◌, ◌^◌}
use Rattle.std.specs.Int.{from_bool}
use mathlib.Core.Bool.{Bool, true, false, cond}
use lib.Dec.{ltb}
use native.Mathlib.Omega.{arith}
use Rattle.number.specs.NearestRoot.{NearestRoot}
use Rattle.number.proofs.Squares.{H-le, L-le, m_le, remainder, remainder_is, corrected_at}
use Rattle.number.proofs.root_digits.corrected.Goals as goal

abbrev gap : ℕ → ℕ → ℕ
gap a q = remainder a (q / 67108864 * (q / 67108864)) (q / 67108864 * (q % 67108864)) (q % 67108864 * (q % 67108864))

small : (q : ℕ) → q < 2 ^ 53 → q ≤ 2 ^ 54
small q h = omega arith

bit : (b : Bool) → from_bool b ≡ cond b 1 0
bit true = refl
bit false = refl

pub overflow_mul-hh : goal.overflow_mul-hh
overflow_mul-hh c = omega (arith, H-le c.args.q (small c.args.q c.requires.fact_3))

pub overflow_mul-hl : goal.overflow_mul-hl
overflow_mul-hl c = omega (arith, m_le c.args.q (small c.args.q c.requires.fact_3))

pub overflow_mul-ll : goal.overflow_mul-ll
overflow_mul-ll c = omega (arith, L-le c.args.q)

pub returns-then-remainder-q-gt72057594037927938 : goal.returns-then-remainder-q-gt72057594037927938
returns-then-remainder-q-gt72057594037927938 c =
    let a = c.args.a in
    let q = c.args.q in
    let p = c.requires in
    let o = gap a q in
    let e = remainder_is a q c.if-hh-a.true c.if-hl-e.true c.if-ll-g.true in
    let near = corrected_at a q o p.fact_1 p.fact_2 p.fact_3 e c.if-remainder-high.true c.if-remainder-q-gt72057594037927938.true in
    subst (λ (r : ℕ). NearestRoot a (q + r + c.from-not_down.result - 1)) (sym (c.from-up.ensures ∙ bit _))
    (subst (λ (r : ℕ). NearestRoot a (q + cond (ltb (72057594037927936 + q) o) 1 0 + r - 1)) (sym (c.from-not_down.ensures ∙ bit _)) near)
