-- The derivative by latitude of a table, each number from its two neighbours in its row. It has no division by the cosine; applied twice
-- it is the second derivative. Assumes nothing.
use Rattle.std.specs.Prelude.{◌≡◌, cond, List, ltb, eqb, length, get_or, Float}
use Rattle.std.proofs.Math.Path.{refl}
use Rattle.std.proofs.Common.{sym, ap, ap₂, ◌∙◌, eq-or-lt_of_le}
use Rattle.std.proofs.Math.Logic.{⊎_elim}
use Prim.Native.Nat.{ℕ, zero, suc, ◌+◌, ◌-◌, ◌^◌, ◌≤◌, ◌<◌}
use native.Mathlib.Omega.{arith}
use Rattle.std.specs.Float.{nan, binary64}
use Rattle.std.specs.Float.Ieee.{neg}
use Rattle.std.specs.Float.Ieee.Fits.{mul-fits}
use borrow.Author.Tests.{lt-ltb, le-ltb, eq-eqb, ne_eqb}
use Rattle.number.specs.Float64.{◌⊕◌, ◌⊖◌, ◌⊗◌, ◌⊘◌, double, of_whole, zero64, one64, two64}
use Rattle.number.specs.Identities.{one_times, product_comm}
use Rattle.number.specs.Root.{root_of}
use Rattle.number.specs.RootLaws.{root_fits}
use Rattle.number.specs.Whole.{whole_sum, whole_difference, whole_next, whole_one}
use Rattle.storage.specs.Elements.{from}
use Rattle.storage.specs.Filled.{Filled, filled_same, filled_in}
use Rattle.storage.specs.Triangle.{row_start, cells, table_size, along, along_same, rows_at, idx-within}
use Rattle.recursion.specs.Recursion.{p_cell}

abbrev pub half64 : Float
half64 = double 0x3fe0_0000_0000_0000

-- √2, rounded
abbrev pub root_two64 : Float
root_two64 = double 0x3ff6_a09e_667f_3bcd

-- what the number at order m - 1 counts for: √((n + m)(n - m + 1)), and √2 times that at m = 1
unfoldable pub lower_of : ℕ → ℕ → Float
lower_of n m =
    let nf = of_whole n in
    let mf = of_whole m in
    cond (eqb m 1) root_two64 one64 ⊗ root_of ((nf ⊕ mf) ⊗ (nf ⊖ mf ⊕ one64))

-- what the number at order m + 1 counts for: √((n - m)(n + m + 1))
unfoldable pub upper_of : ℕ → ℕ → Float
upper_of n m =
    let nf = of_whole n in
    let mf = of_whole m in
    root_of ((nf ⊖ mf) ⊗ (nf ⊕ mf ⊕ one64))

-- what the number at order 1 counts for in column 0: √(n(n + 1)/2)
unfoldable pub zonal_of : ℕ → Float
zonal_of n =
    let nf = of_whole n in
    root_of (nf ⊗ (nf ⊕ one64) ⊘ two64)

-- the derivative of the table s at (n, m); on the diagonal there is no number above, and 0 stands for its term
unfoldable pub d_cell : (ℕ → ℕ → Float) → ℕ → ℕ → Float
d_cell s n m =
    cond (eqb n 0) zero64
    (cond (eqb m 0)
    (zonal_of n ⊗ s n 1)
    (neg half64 ⊗ (lower_of n m ⊗ s n (m - 1) ⊖ cond (ltb m n) (upper_of n m ⊗ s n (m + 1)) zero64)))

-- the derivative of P(n, m)
abbrev pub dp_cell : (a b : ℕ → Float) → (t u : Float) → ℕ → ℕ → Float
dp_cell a b t u n m = d_cell (p_cell a b t u) n m

-- its second derivative, the derivative of that
abbrev pub ddp_cell : (a b : ℕ → Float) → (t u : Float) → ℕ → ℕ → Float
ddp_cell a b t u n m = d_cell (dp_cell a b t u) n m

-- ---- by weights, which do not depend on the latitude
-- what the number at order m - 1 counts for, and in column 0 the number at order 1: the one root that each entry takes
unfoldable pub weight_cell : ℕ → ℕ → Float
weight_cell n m = cond (eqb m 0) (zonal_of n) (lower_of n m)

-- the derivative of the row p of degree n by its weights w
unfoldable pub derived_row : ℕ → (w p : ℕ → Float) → ℕ → Float
derived_row n w p m =
    cond (eqb n 0) zero64
    (cond (eqb m 0) (w 0 ⊗ p 1) (neg half64 ⊗ (w m ⊗ p (m - 1) ⊖ cond (ltb m n) (w (m + 1) ⊗ p (m + 1)) zero64)))

-- both from order 1 on
unfoldable pub weight_above : ℕ → ℕ → Float
weight_above n k = weight_cell n (1 + k)

unfoldable pub derived_above : ℕ → (w p : ℕ → Float) → ℕ → Float
derived_above n w p k = derived_row n w p (1 + k)

-- ---- the roots of a row are shared: the upper one at m is the lower one at m + 1, since sums and differences of whole numbers are exact
same_product : (n m : ℕ) → m < n → n < 2 ^ 52
    → (of_whole n ⊖ of_whole m) ⊗ (of_whole n ⊕ of_whole m ⊕ one64) ≡ (of_whole n ⊕ of_whole (m + 1)) ⊗ (of_whole n ⊖ of_whole (m + 1) ⊕ one64)
same_product n m h b =
    let e : n + (m + 1) ≡ n + m + 1 = omega arith in
    let d : n - (m + 1) + 1 ≡ n - m = omega arith in
    ap₂ ◌⊗◌ (whole_difference n m (omega arith) (omega arith))
    (whole_next (n + m) (whole_sum n m (omega arith) (omega arith)) (omega arith))
    ∙ product_comm binary64 (of_whole (n - m)) (of_whole (n + m + 1))
    ∙ sym
    (ap₂ ◌⊗◌ (whole_sum n (m + 1) (omega arith) (omega arith) ∙ ap of_whole e)
    (whole_next (n - (m + 1)) (whole_difference n (m + 1) (omega arith) (omega arith)) (omega arith) ∙ ap of_whole d))

pub lower_next : (n m : ℕ) → 1 ≤ m → m < n → n < 2 ^ 52 → upper_of n m ≡ lower_of n (m + 1)
unfolding upper_of lower_of
lower_next n m l h b =
    rw (ne_eqb (m + 1) 1 (λ e. omega arith))
    (ap root_of (same_product n m h b)
    ∙ sym (one_times (root_of ((of_whole n ⊕ of_whole (m + 1)) ⊗ (of_whole n ⊖ of_whole (m + 1) ⊕ one64))) (root_fits binary64 _ (mul-fits binary64 _ _))))

-- as the code works them out, with the order as a double
pub upper_at : (n m : ℕ) {mf : Float} → mf ≡ of_whole m → root_of ((of_whole n ⊖ mf) ⊗ (of_whole n ⊕ mf ⊕ one64)) ≡ upper_of n m
unfolding upper_of
upper_at n m e = rw e refl

pub lower_first : (n : ℕ) → root_two64 ⊗ root_of ((of_whole n ⊕ one64) ⊗ (of_whole n ⊖ one64 ⊕ one64)) ≡ lower_of n 1
unfolding lower_of
lower_first n = ap (λ (x : Float). root_two64 ⊗ root_of ((of_whole n ⊕ x) ⊗ (of_whole n ⊖ x ⊕ one64))) whole_one

-- ---- the weights of a row, and the entries that they make, as the code works them out
pub weight_zonal : (n : ℕ) → zonal_of n ≡ weight_cell n 0
unfolding weight_cell
weight_zonal n = refl

weight_lower : (n m : ℕ) → 1 ≤ m → lower_of n m ≡ weight_cell n m
unfolding weight_cell
weight_lower n m h = simp (ne_eqb m 0 (λ e. omega arith))

pub weight_above_lem : (n m : ℕ) {lower : Float} → 1 ≤ m → lower ≡ lower_of n m → lower ≡ weight_above n (m - 1)
unfolding weight_above
weight_above_lem n m h e =
    let k : 1 + (m - 1) ≡ m = omega arith in
    rw k (e ∙ weight_lower n m h)

pub derived_origin : (n : ℕ) (w p : ℕ → Float) → n ≡ 0 → zero64 ≡ derived_row n w p 0
unfolding derived_row
derived_origin n w p e = simp (eq-eqb n 0 e)

module _ (n : ℕ) (h : 1 ≤ n) where
  pub derived_zonal : (w p : ℕ → Float) → w 0 ⊗ p 1 ≡ derived_row n w p 0
  unfolding derived_row
  derived_zonal w p = simp (ne_eqb n 0 (λ e. omega arith))

  pub derived_inner : (w p : ℕ → Float) (m : ℕ) → 1 ≤ m → m < n
      → neg half64 ⊗ (w m ⊗ p (m - 1) ⊖ w (m + 1) ⊗ p (m + 1)) ≡ derived_above n w p (m - 1)
  unfolding derived_above derived_row
  derived_inner w p m g l =
      let k : 1 + (m - 1) ≡ m = omega arith in
      rw k (simp (ne_eqb n 0 (λ e. omega arith), ne_eqb m 0 (λ e. omega arith), lt-ltb m n l))

  pub derived_sectoral : (w p : ℕ → Float) → neg half64 ⊗ (w n ⊗ p (n - 1) ⊖ zero64) ≡ derived_above n w p (n - 1)
  unfolding derived_above derived_row
  derived_sectoral w p =
      let k : 1 + (n - 1) ≡ n = omega arith in
      rw k (simp (ne_eqb n 0 (λ e. omega arith), le-ltb n n (omega arith)))

-- the weights of a row in w and row n of the table s in p make the row of its derivative
pub derived_row_is : (s : ℕ → ℕ → Float) (n : ℕ) (w p : ℕ → Float) → n < 2 ^ 52 → ((m : ℕ) → m ≤ n → w m ≡ weight_cell n m)
    → ((m : ℕ) → m ≤ n → p m ≡ s n m) → (m : ℕ) → m ≤ n → derived_row n w p m ≡ d_cell s n m
unfolding derived_row d_cell
derived_row_is s zero w p b ew ep m h = refl
derived_row_is s (suc n) w p b ew ep zero h =
    simp (ne_eqb (suc n) 0 (λ e. omega arith)) (ap₂ ◌⊗◌ (ew 0 (omega arith) ∙ sym (weight_zonal (suc n))) (ep 1 (omega arith)))
derived_row_is s (suc n) w p b ew ep (suc m) h =
    let below = ap₂ ◌⊗◌ (ew (suc m) h ∙ sym (weight_lower (suc n) (suc m) (omega arith))) (ep (suc m - 1) (omega arith)) in
    ⊎_elim
    (λ (e : suc m ≡ suc n). simp (ne_eqb (suc n) 0 (λ e. omega arith), ne_eqb (suc m) 0 (λ e. omega arith), le-ltb (suc m) (suc n) (omega arith))
    (ap (λ (x : Float). neg half64 ⊗ (x ⊖ zero64)) below))
    (λ (g : suc m < suc n). simp (ne_eqb (suc n) 0 (λ e. omega arith), ne_eqb (suc m) 0 (λ e. omega arith), lt-ltb (suc m) (suc n) g)
    (ap₂ (λ (x y : Float). neg half64 ⊗ (x ⊖ y)) below
    (ap₂ ◌⊗◌
    (ew (suc m + 1) (omega arith) ∙ sym (weight_lower (suc n) (suc m + 1) (omega arith)) ∙ sym (lower_next (suc n) (suc m) (omega arith) g b))
    (ep (suc m + 1) (omega arith)))))
    (eq-or-lt_of_le h)

-- a row of a table, by a list that starts with its weights
pub derived_in_table : {n at : ℕ} {v w d l : List Float} (src : List Float) → at ≡ row_start n → n < 2 ^ 52 → n < length v
    → Filled 0 (weight_cell n) (n + 1) v w → Filled at (derived_row n (from 0 w nan) (from at src nan)) (n + 1) d l
    → Filled at (d_cell (cells src nan) n) (n + 1) d l
unfolding from cells
derived_in_table {n} {at} {v} {w} src e b h weights r =
    filled_same (d_cell (cells src nan) n) r
    (λ m g.
    derived_row_is (cells src nan) n (from 0 w nan) (from at src nan) b
    (λ i k. filled_in {j = i} nan weights (omega arith) refl (omega arith)) (λ i k. ap (λ (x : ℕ). get_or src (x + i) nan) e) m (omega arith))

-- ---- the derivative of two tables that agree up to degree N
module _ (s s' : ℕ → ℕ → Float) (N : ℕ) (same : (n m : ℕ) → m ≤ n → n ≤ N → s n m ≡ s' n m) where
  d_same : (n m : ℕ) → m ≤ n → n ≤ N → d_cell s n m ≡ d_cell s' n m
  unfolding d_cell
  d_same zero m h l = refl
  d_same (suc n) zero h l =
      simp (ne_eqb (suc n) 0 (λ e. omega arith)) (ap (λ (x : Float). zonal_of (suc n) ⊗ x) (same (suc n) 1 (omega arith) l))
  d_same (suc n) (suc m) h l =
      let below = same (suc n) (suc m - 1) (omega arith) l in
      ⊎_elim
      (λ (e : suc m ≡ suc n). simp (ne_eqb (suc n) 0 (λ e. omega arith), ne_eqb (suc m) 0 (λ e. omega arith), le-ltb (suc m) (suc n) (omega arith))
      (ap (λ (x : Float). neg half64 ⊗ (lower_of (suc n) (suc m) ⊗ x ⊖ zero64)) below))
      (λ (g : suc m < suc n). simp (ne_eqb (suc n) 0 (λ e. omega arith), ne_eqb (suc m) 0 (λ e. omega arith), lt-ltb (suc m) (suc n) g)
      (ap₂ (λ (x y : Float). neg half64 ⊗ (lower_of (suc n) (suc m) ⊗ x ⊖ upper_of (suc n) (suc m) ⊗ y)) below (same (suc n) (suc m + 1) (omega arith) l)))
      (eq-or-lt_of_le h)

-- a table p that holds f up to degree N, and the derivative worked out from p
pub derived : (f : ℕ → ℕ → Float) (N : ℕ) {d p e l : List Float} → Filled 0 (along f) (table_size N) d p → table_size N ≤ length d
    → Filled 0 (along (d_cell (cells p nan))) (table_size N) e l → Filled 0 (along (d_cell f)) (table_size N) e l
unfolding cells
derived f N {d} {p} r b q =
    filled_same (along (d_cell f)) q (along_same (d_cell (cells p nan)) (d_cell f) N
    (d_same (cells p nan) f N (λ n m h l. let i = idx-within n m N h l in rows_at f n m nan r h (omega arith) i (omega arith))))
