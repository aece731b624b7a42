-- `write_decimal` meets its contract: the digits but the last are those of a tenth of the number. Assumes nothing.
use native.Mathlib.Omega.{arith}
use mathlib.Core.Path.{◌≡◌, refl}
use Prim.Native.Nat.{ℕ, ◌+◌, ◌/◌, ◌%◌, ◌≤◌, ◌<◌}
use mathlib.Core.List.{List}
use lib.ListN.{length, set}
use Rattle.storage.specs.Store.{store}
use Rattle.text.specs.Stored.{store_last}
use Rattle.text.specs.Digits.{decimal_digits, digits_one, digits_more}
use Rattle.text.proofs.+write_decimal.Goals as goal

one : (n : ℕ) (d : List ℕ) (at : ℕ) → n < 10 → set d at (48 + n) ≡ store at (decimal_digits n) d
unfolding store
one n d at h = rw (digits_one n h) refl

more : (n : ℕ) (d d' : List ℕ) (at end : ℕ) → 10 ≤ n → end ≡ at + length (decimal_digits (n / 10)) → d' ≡ store at (decimal_digits (n / 10)) d
    → set d' end (48 + n % 10) ≡ store at (decimal_digits n) d
more n d d' at end h e p = rw (e, p, digits_more n h) (store_last at (decimal_digits (n / 10)) d (48 + n % 10))

pub returns-then-n-lt10-clause-out_after : goal.returns-then-n-lt10-clause-out_after
returns-then-n-lt10-clause-out_after t c = one c.args.n _ _ (omega arith)

pub returns-clause-out_after : goal.returns-clause-out_after
returns-clause-out_after t c = more c.args.n _ _ _ _ (omega arith) c.write_decimal-end.ensures.value c.write_decimal-end.ensures.out_after
