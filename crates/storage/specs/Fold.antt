-- A left fold over the values of a function, as a running sum is: the operation in the order of the code. Assumes nothing.
use Rattle.std.specs.Prelude.{◌≡◌}
use Rattle.std.proofs.Math.Path.{refl, ap}
use Rattle.std.proofs.Common.{sym, ◌∙◌, arith}
use Prim.Native.Nat.{ℕ, zero, suc, ◌+◌, ◌<◌}
use Rattle.std.proofs.Math.Nat.{add-zero, add-suc}
use Rattle.std.proofs.Math.Numerals.{add-one}

module _ {A B : Type 0} where
  -- x combined from the left with f 0, f 1, .., f (k - 1)
  unfoldable pub fold_left : (A → B → A) → (ℕ → B) → A → ℕ → A
  fold_left op f x zero = x
  fold_left op f x (suc k) = op (fold_left op f x k) (f k)

  module _ (op : A → B → A) where
    pub fold_none : (f : ℕ → B) (x : A) → fold_left op f x 0 ≡ x
    unfolding fold_left
    fold_none f x = refl

    pub fold_more : (f : ℕ → B) (x : A) (k : ℕ) → op (fold_left op f x k) (f k) ≡ fold_left op f x (k + 1)
    unfolding fold_left
    fold_more f x k = rw add-one refl

    -- k values, and then the j after them
    pub fold_join : (f g : ℕ → B) (x : A) (k j : ℕ) → ((i : ℕ) → i < j → f (k + i) ≡ g i) → fold_left op g (fold_left op f x k) j ≡ fold_left op f x (k + j)
    unfolding fold_left
    fold_join f g x k zero e = rw add-zero refl
    fold_join f g x k (suc j) e =
        rw add-suc
        (ap (λ (y : A). op y (g j)) (fold_join f g x k j (λ i h. e i (omega arith)))
        ∙ ap (λ (y : B). op (fold_left op f x (k + j)) y) (sym (e j (omega arith))))

    -- the same values, said otherwise
    pub fold_same : (f g : ℕ → B) (x : A) (k : ℕ) → ((i : ℕ) → i < k → f i ≡ g i) → fold_left op f x k ≡ fold_left op g x k
    unfolding fold_left
    fold_same f g x zero e = refl
    fold_same f g x (suc k) e =
        ap (λ (y : A). op y (f k)) (fold_same f g x k (λ i h. e i (omega arith))) ∙ ap (λ (y : B). op (fold_left op g x k) y) (e k (omega arith))
