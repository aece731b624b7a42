-- A list given by a function of the index, and the laws of the loops that write such a list or copy one. Assumes nothing.
use Rattle.std.specs.Prelude.{◌≡◌, take, drop, set, get_or}
use Rattle.std.proofs.Math.Path.{refl, sym, ap}
use Rattle.std.proofs.Common.{◌∙◌, not-suc-le-zero, le_of_suc-le-suc, add-zero, zero-add, add-suc, suc-add, drop_of_length-le, drop-cons}
use Prim.Native.Nat.{ℕ, zero, suc, ◌+◌, ◌-◌, ◌<◌, ◌≤◌}
use Rattle.std.proofs.Math.Numerals.{add-one}
use native.Mathlib.Omega.{arith}
use mathlib.Core.List.{List, [], ◌∷◌, ◌++◌, append-nil}
use Rattle.std.proofs.Math.ListN.{length}
use Rattle.std.proofs.Math.Seq.{take-suc-set, take_all, append_snoc}
use Rattle.storage.specs.Fill.{fill, fill_same}

module _ {A : Type 0} where
  -- the list of k values of f, from f i on
  unfoldable pub values : (ℕ → A) → ℕ → ℕ → List A
  values f i zero = []
  values f i (suc k) = f i ∷ values f (suc i) k

  -- the list of f i, f (i + 1), .., f (n - 1)
  unfoldable pub tabulate : (ℕ → A) → ℕ → ℕ → List A
  tabulate f i n = values f i (n - i)

  length_values : (f : ℕ → A) (i k : ℕ) → length (values f i k) ≡ k
  unfolding values
  length_values f i zero = refl
  length_values f i (suc k) = ap suc (length_values f (suc i) k)

  pub length-tabulate : (f : ℕ → A) (i n : ℕ) → length (tabulate f i n) ≡ n - i
  unfolding tabulate
  length-tabulate f i n = length_values f i (n - i)

  get_or_values : (f : ℕ → A) (i k j : ℕ) (z : A) → j < k → get_or (values f i k) j z ≡ f (i + j)
  unfolding values
  get_or_values f i zero j z h = absurd (not-suc-le-zero h)
  get_or_values f i (suc k) zero z h = ap f (sym (add-zero i))
  get_or_values f i (suc k) (suc j) z h = get_or_values f (suc i) k j z (le_of_suc-le-suc h) ∙ ap f (suc-add i j ∙ sym (add-suc i j))

  pub get_d_tabulate : (f : ℕ → A) (i n j : ℕ) (z : A) → i + j < n → get_or (tabulate f i n) j z ≡ f (i + j)
  unfolding tabulate
  get_d_tabulate f i n j z h = get_or_values f i (n - i) j z (omega arith)

  values_join : (f : ℕ → A) (i j k : ℕ) → values f i j ++ values f (i + j) k ≡ values f i (j + k)
  unfolding values
  values_join f i zero k = rw (add-zero, zero-add)
  values_join f i (suc j) k =
      ap (λ (t : List A). f i ∷ t) (ap (λ (n : ℕ). values f (suc i) j ++ values f n k) (add-suc i j ∙ sym (suc-add i j)) ∙ values_join f (suc i) j k)
      ∙ ap (values f i) (sym (suc-add j k))

  -- the values up to j, and then those from j on
  pub tabulate_join : (f : ℕ → A) (i j n : ℕ) → i ≤ j → j ≤ n → tabulate f i j ++ tabulate f j n ≡ tabulate f i n
  unfolding tabulate
  tabulate_join f i j n h g =
      let e : j ≡ i + (j - i) = omega arith in
      let k : n - i ≡ j - i + (n - j) = omega arith in
      ap (λ (x : ℕ). values f i (j - i) ++ values f x (n - j)) e ∙ values_join f i (j - i) (n - j) ∙ ap (values f i) (sym k)

  -- a loop that writes f i at each index i: what is written, with what is still to come
  pub tabulate_step : (f : ℕ → A) (i n : ℕ) (l : List A) → i < n → n ≡ length l
      → take (i + 1) (set l i (f i)) ++ tabulate f (i + 1) n ≡ take i l ++ tabulate f i n
  unfolding tabulate values
  tabulate_step f i n l h e =
      let e' : n - i ≡ suc (n - (i + 1)) = omega arith in
      let b : i < length l = omega arith in
      rw (e', add-one, take-suc-set l i (f i) b) (append_snoc (take i l) (f i) (values f (suc i) (n - suc i)))

  pub tabulate_done : (f : ℕ → A) (i n : ℕ) (l : List A) → n ≤ i → n ≡ length l → take i l ++ tabulate f i n ≡ l
  unfolding tabulate values
  tabulate_done f i n l h e =
      let e' : n - i ≡ 0 = omega arith in
      let b : length l ≤ i = omega arith in
      rw (e', take_all i l b) (append-nil l)

  -- a loop that copies s: what is copied, with what is still to come
  pub copy_step : (s l : List A) (i : ℕ) (z : A) → i < length l → length s ≡ length l
      → take (i + 1) (set l i (get_or s i z)) ++ drop (i + 1) s ≡ take i l ++ drop i s
  copy_step s l i z h e =
      let b : i < length s = omega arith in
      rw (add-one, take-suc-set l i (get_or s i z) h, drop-cons s i z b) (append_snoc (take i l) (get_or s i z) (drop (suc i) s))

  pub copy_done : (s l : List A) (i : ℕ) → length l ≤ i → length s ≡ length l → take i l ++ drop i s ≡ l
  copy_done s l i h e = let b : length s ≤ i = omega arith in rw (take_all i l h, drop_of_length-le s b) (append-nil l)

  fill_values : (f : ℕ → A) (i : ℕ) (d : List A) → fill 0 (λ j. f (i + j)) (length d) d ≡ values f i (length d)
  unfolding fill values
  fill_values f i [] = refl
  fill_values f i (x ∷ d) =
      ap (λ (y : A). y ∷ fill 0 (λ j. f (i + suc j)) (length d) d) (ap f (add-zero i))
      ∙ ap (λ (t : List A). f i ∷ t)
      (fill_same 0 (λ j. f (i + suc j)) (λ j. f (suc i + j)) (length d) d (λ j h. ap f (add-suc i j ∙ sym (suc-add i j))) ∙ fill_values f (suc i) d)

  -- a list that is filled whole
  pub fill_all : (f : ℕ → A) (n : ℕ) (d : List A) → n ≡ length d → fill 0 f n d ≡ tabulate f 0 n
  unfolding tabulate
  fill_all f n d e =
      let k : length d ≡ n - 0 = omega arith in
      ap (λ (j : ℕ). fill 0 f j d) e
      ∙ fill_same 0 f (λ j. f (0 + j)) (length d) d (λ j h. ap f (sym (zero-add j)))
      ∙ fill_values f 0 d
      ∙ ap (values f 0) k
