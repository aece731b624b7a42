-- The recursion of Holmes & Featherstone (2002), each number a function of its degree n and its order m. Assumes nothing.
use Rattle.std.specs.Prelude.{◌≡◌, cond, List, ltb, eqb, take, Float}
use Rattle.std.proofs.Math.Path.{refl, ap}
use Rattle.std.proofs.Common.{sym, ◌∙◌, add-one}
use Prim.Native.Nat.{ℕ, zero, suc, ◌+◌, ◌-◌, ◌*◌, ◌≤◌, ◌<◌}
use native.Mathlib.Omega.{arith}
use Rattle.number.specs.Float64.{◌⊕◌, ◌⊖◌, ◌⊗◌, ◌⊘◌, double, of_whole, zero64, one64, two64, three64}
use Rattle.number.specs.Root.{root_of}
use Rattle.storage.specs.Fill.{fill, fill_join, fill_same, take-fill}
use Rattle.storage.specs.Triangle.{idx, table_size, along, row_start_monotone, along_same}

-- 1e-280, the scale against overflow
abbrev pub scale64 : Float
scale64 = double 0x05cd_0b15_a491_eb84

-- ---- the recursion coefficients
-- a(n, m) = √((2n - 1)(2n + 1) / ((n - m)(n + m))) below the diagonal, and 0 on it
unfoldable pub a_cell : ℕ → ℕ → Float
a_cell n m =
    let nf = of_whole n in
    let mf = of_whole m in
    cond (ltb m n)
    (root_of ((two64 ⊗ nf ⊖ one64) ⊗ (two64 ⊗ nf ⊕ one64) ⊘ ((nf ⊖ mf) ⊗ (nf ⊕ mf))))
    zero64

-- b(n, m) = √((2n + 1)(n + m - 1)(n - m - 1) / ((n - m)(n + m)(2n - 3))) from two below the diagonal on, and 0 elsewhere
unfoldable pub b_cell : ℕ → ℕ → Float
b_cell n m =
    let nf = of_whole n in
    let mf = of_whole m in
    cond (ltb (m + 1) n)
    (root_of
    ((two64 ⊗ nf ⊕ one64) ⊗ (nf ⊕ mf ⊖ one64) ⊗ (nf ⊖ mf ⊖ one64)
    ⊘ ((nf ⊖ mf) ⊗ (nf ⊕ mf) ⊗ (two64 ⊗ nf ⊖ three64))))
    zero64

-- ---- the recursion at one latitude, with the sine t and the cosine u
-- what the sectoral number grows by, under the root, from m - 1 to m
unfoldable pub sectoral_ratio : ℕ → Float
sectoral_ratio m = cond (eqb m 1) three64 (of_whole (2 * m + 1) ⊘ of_whole (2 * m))

-- P(m, m) / u^m, times 1e-280
unfoldable pub pmm : ℕ → Float
pmm zero = scale64
pmm (suc m) = pmm m ⊗ root_of (sectoral_ratio (suc m))

-- u^m / 1e-280
unfoldable pub rescale : Float → ℕ → Float
rescale u zero = one64 ⊘ scale64
rescale u (suc m) = rescale u m ⊗ u

-- a step up a column, from its last number but one and its last, by the coefficients a and b of the new degree
abbrev pub step : Float → Float → Float → Float → Float → Float
step a b t q2 q1 = a ⊗ t ⊗ q1 ⊖ b ⊗ q2

-- column m of P / u^m, times 1e-280: k degrees above its sectoral number. The tables a and b stand along the storage
unfoldable pub q : (a b : ℕ → Float) → Float → ℕ → ℕ → Float
q a b t m zero = pmm m
q a b t m (suc zero) = step (a (idx (m + 1) m)) (b (idx (m + 1) m)) t zero64 (pmm m)
q a b t m (suc (suc k)) = step (a (idx (m + suc (suc k)) m)) (b (idx (m + suc (suc k)) m)) t (q a b t m k) (q a b t m (suc k))

unfoldable pub q_cell : (a b : ℕ → Float) → Float → ℕ → ℕ → Float
q_cell a b t n m = q a b t m (n - m)

-- P(n, m), fully normalized
unfoldable pub p_cell : (a b : ℕ → Float) → (t u : Float) → ℕ → ℕ → Float
p_cell a b t u n m = q_cell a b t n m ⊗ rescale u m

-- ---- one more of each product
pub pmm_zero : scale64 ≡ pmm 0
unfolding pmm
pmm_zero = refl

pub pmm_more : (m : ℕ) → pmm m ⊗ root_of (sectoral_ratio (m + 1)) ≡ pmm (m + 1)
unfolding pmm
pmm_more m = rw add-one refl

pub rescale_zero : (u : Float) → one64 ⊘ scale64 ≡ rescale u 0
unfolding rescale
rescale_zero u = refl

pub rescale_more : (u : Float) (m : ℕ) → rescale u m ⊗ u ≡ rescale u (m + 1)
unfolding rescale
rescale_more u m = rw add-one refl

-- ---- a column's first number, its second, and each other
module _ (a b : ℕ → Float) (t : Float) where
  pub q_sectoral : (n : ℕ) → pmm n ≡ q_cell a b t n n
  unfolding q_cell q
  q_sectoral n = let e : n - n ≡ 0 = omega arith in rw e refl

  pub q_second : (n : ℕ) → 1 ≤ n → step (a (idx n (n - 1))) (b (idx n (n - 1))) t zero64 (q_cell a b t (n - 1) (n - 1)) ≡ q_cell a b t n (n - 1)
  unfolding q_cell q
  q_second n h =
      let e : n - (n - 1) ≡ 1 = omega arith in
      let f : n - 1 - (n - 1) ≡ 0 = omega arith in
      let g : n ≡ n - 1 + 1 = omega arith in
      rw (e, f) (ap (λ (i : ℕ). step (a (idx i (n - 1))) (b (idx i (n - 1))) t zero64 (pmm (n - 1))) g)

  pub q_step : (n m : ℕ) → m + 2 ≤ n → step (a (idx n m)) (b (idx n m)) t (q_cell a b t (n - 2) m) (q_cell a b t (n - 1) m) ≡ q_cell a b t n m
  unfolding q_cell q
  q_step n m h =
      let e : n - m ≡ suc (suc (n - 2 - m)) = omega arith in
      let f : n - 1 - m ≡ suc (n - 2 - m) = omega arith in
      let g : n ≡ m + suc (suc (n - 2 - m)) = omega arith in
      rw (e, f) (ap (λ (i : ℕ). step (a (idx i m)) (b (idx i m)) t (q a b t m (n - 2 - m)) (q a b t m (suc (n - 2 - m)))) g)

-- ---- P(n, m) reads the coefficients of its own column, above its sectoral number and up to degree n
module _ (a b a' b' : ℕ → Float) (t : Float) where
  q_same : (m k : ℕ) → ((n : ℕ) → m < n → n ≤ m + k → (a (idx n m) ≡ a' (idx n m)) × (b (idx n m) ≡ b' (idx n m))) → q a b t m k ≡ q a' b' t m k
  unfolding q
  q_same m zero e = refl
  q_same m (suc zero) e = let (x, y) = e (m + 1) (omega arith) (omega arith) in cc
  q_same m (suc (suc k)) e =
      let (x, y) = e (m + suc (suc k)) (omega arith) (omega arith) in
      let q2 = q_same m k (λ n h l. e n h (omega arith)) in
      let q1 = q_same m (suc k) (λ n h l. e n h (omega arith)) in
      cc

  pub p_same : (u : Float) (n m : ℕ) → m ≤ n → ((i : ℕ) → m < i → i ≤ n → (a (idx i m) ≡ a' (idx i m)) × (b (idx i m) ≡ b' (idx i m)))
      → p_cell a b t u n m ≡ p_cell a' b' t u n m
  unfolding p_cell q_cell
  p_same u n m l e = ap (λ (y : Float). y ⊗ rescale u m) (q_same m (n - m) (λ i h g. e i h (omega arith)))

  -- so a table up to a degree is the front of one up to a higher degree
  pub table_front : (u : Float) (N N' : ℕ) (d : List Float) → N ≤ N'
      → ((n m : ℕ) → m ≤ n → n ≤ N → (a (idx n m) ≡ a' (idx n m)) × (b (idx n m) ≡ b' (idx n m)))
      → take (table_size N) (fill 0 (along (p_cell a b t u)) (table_size N') d) ≡ take (table_size N) (fill 0 (along (p_cell a' b' t u)) (table_size N) d)
  table_front u N N' d h e =
      let F = along (p_cell a b t u) in
      let size = table_size N in
      let rest = table_size N' - size in
      let whole : table_size N' ≡ size + rest = omega (arith, row_start_monotone (N + 1) (N' + 1) (omega arith)) in
      let cells = along_same (p_cell a b t u) (p_cell a' b' t u) N (λ n m g l. p_same u n m g (λ i x y. e i m (omega arith) (omega arith))) in
      ap (λ (k : ℕ). take size (fill 0 F k d)) whole
      ∙ ap (take size) (sym (fill_join 0 F (λ i. F (size + i)) size rest d (λ i x. refl)))
      ∙ take-fill (0 + size) (λ i. F (size + i)) rest size (fill 0 F size d) (omega arith)
      ∙ ap (take size) (fill_same 0 F (along (p_cell a' b' t u)) size d cells)
