-- `number::root_digits::addend` meets its contract. Assumes nothing.
use mathlib.Core.Path.{◌≡◌, sym, ap, ◌∙◌}
use Prim.Native.Nat.{ℕ, ◌+◌, ◌*◌, ◌/◌, ◌%◌, ◌^◌, ◌≤◌, ◌<◌}
use native.Mathlib.Omega.{arith}
use Rattle.number.proofs.root_digits.addend.Goals as goal

by : (w k a : ℕ) → w / 2 ^ 52 ≡ k → a ≡ (2 ^ 52 + w % 2 ^ 52) * (1 + k) → a ≡ (2 ^ 52 + w % 2 ^ 52) * (1 + w / 2 ^ 52)
by w k a e h = h ∙ ap (λ (x : ℕ). (2 ^ 52 + w % 2 ^ 52) * (1 + x)) (sym e)

without : (w : ℕ) → w < 2 ^ 52 → w + 2 ^ 52 ≡ (2 ^ 52 + w % 2 ^ 52) * (1 + w / 2 ^ 52)
without w h = by w 0 (w + 2 ^ 52) (omega arith) (omega arith)

with : (w : ℕ) → 2 ^ 52 ≤ w → w < 2 ^ 53 → w + w ≡ (2 ^ 52 + w % 2 ^ 52) * (1 + w / 2 ^ 52)
with w h k = by w 1 (w + w) (omega arith) (omega arith)

pub returns-then-w-lt4503599627370496 : goal.returns-then-w-lt4503599627370496
returns-then-w-lt4503599627370496 c = record { result_value = without c.args.w c.if-w-lt4503599627370496.true; lower_bound_1 = omega arith; lower_bound_2 = omega arith }

pub returns-else-w-lt4503599627370496 : goal.returns-else-w-lt4503599627370496
returns-else-w-lt4503599627370496 c = record { result_value = with c.args.w c.if-w-lt4503599627370496.false c.requires; lower_bound_1 = omega arith; lower_bound_2 = omega arith }
