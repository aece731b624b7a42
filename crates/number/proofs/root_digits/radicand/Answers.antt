-- `number::root_digits::radicand` meets its contract. Assumes nothing.
use borrow.Author.Rules.{rules}
use mathlib.Core.Path.{◌≡◌, ap, ◌∙◌}
use Prim.Native.Nat.{ℕ, ◌+◌, ◌*◌, ◌/◌, ◌%◌, ◌^◌}
use native.Mathlib.Omega.{arith}
use Rattle.number.proofs.root_digits.radicand.Goals as goal

parity : (v : ℕ) → v % 2 ^ 53 / 2 ^ 52 ≡ v / 2 ^ 52 % 2
parity v = omega arith

fraction : (v : ℕ) → v % 2 ^ 53 % 2 ^ 52 ≡ v % 2 ^ 52
fraction v = omega arith

pub returns : goal.returns
returns c =
    let v = c.args.v in record {
      value = c.addend.ensures.result_value
          ∙ ap (λ (r : ℕ). (2 ^ 52 + v % 2 ^ 53 % 2 ^ 52) * (1 + r)) (parity v)
          ∙ ap (λ (t : ℕ). (2 ^ 52 + t) * (1 + v / 2 ^ 52 % 2)) (fraction v);
      lower_bound_1 = omega arith;
      lower_bound_2 = omega arith;
    }
