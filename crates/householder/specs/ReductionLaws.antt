-- Laws of inner products, Householder vectors and reflections: what a loop's turn adds, and that only the numbers in range count.
-- Assumes nothing.
use Rattle.std.specs.Prelude.{◌≡◌, refl, List, ℕ, ◌+◌, ◌≤◌, ◌<◌, leb, Float}
use Rattle.std.proofs.Common.{ap, ◌∙◌, le_refl}
use Rattle.std.proofs.Math.Path.{ap₂}
use Rattle.std.proofs.Math.Bool.{cond}
use Rattle.number.specs.Float64.{◌⊕◌, ◌⊖◌, ◌⊗◌, ◌⊘◌, zero64, two64}
use Rattle.number.specs.Root.{root_of}
use Rattle.storage.specs.Iterate.{iterate_done, iterate_last, iterate_same}
use Rattle.matrix.specs.Matrix.{cell, matrix_same}
use Rattle.householder.specs.Reduction.{add_product, dot, norm, less_alpha_at, less_alpha, householder_vector, product, correction}
use Rattle.householder.specs.Reduction.{reflected_cell, reflected, accumulated_cell, accumulated}

-- f and g agree at the indices below n
abbrev pub Agree : ℕ → (ℕ → Float) → (ℕ → Float) → Type 0
Agree n f g = (i : ℕ) → i < n → f i ≡ g i

pub dot_none : (x y : ℕ → Float) (lo : ℕ) → dot x y lo lo ≡ zero64
unfolding dot
dot_none x y lo = iterate_done (add_product x y) lo lo zero64 (le_refl lo)

pub dot_more : (x y : ℕ → Float) (lo i : ℕ) {s : Float} → s ≡ dot x y lo i → lo ≤ i → s ⊕ x i ⊗ y i ≡ dot x y lo (i + 1)
unfolding dot add_product
dot_more x y lo i e h = ap (λ (t : Float). t ⊕ x i ⊗ y i) e ∙ iterate_last (add_product x y) lo i zero64 h

pub dot_same : (x x' y y' : ℕ → Float) (lo hi : ℕ) → Agree hi x x' → Agree hi y y' → dot x y lo hi ≡ dot x' y' lo hi
unfolding dot add_product
dot_same x x' y y' lo hi e f =
    iterate_same (add_product x y) (add_product x' y') lo hi zero64 (λ j t h l. ap (λ (z : Float). t ⊕ z) (ap₂ (λ (a b : Float). a ⊗ b) (e j l) (f j l)))

pub norm_same : (x y : ℕ → Float) (lo hi : ℕ) → Agree hi x y → norm x lo hi ≡ norm y lo hi
unfolding norm
norm_same x y lo hi e = ap root_of (dot_same x y x y lo hi e e)

-- the Householder vectors of columns that agree
pub vector_same : (n k : ℕ) (size : Float) (x y : ℕ → Float) → Agree n x y → Agree n (householder_vector n k size x) (householder_vector n k size y)
unfolding householder_vector less_alpha
vector_same n k size x y e i h =
    let u : Agree n (less_alpha k size x) (less_alpha k size y) = λ j l. ap (λ (z : Float). less_alpha_at k size z j) (e j l) in
    ap₂ (λ (a b : Float). a ⊘ b) (u i h) (norm_same (less_alpha k size x) (less_alpha k size y) 0 n u)

module _ (n k : ℕ) (a : List Float) (v v' : ℕ → Float) (e : Agree n v v') where
  product_same : (i : ℕ) → product n k a v i ≡ product n k a v' i
  unfolding product
  product_same i = dot_same (cell n a i) (cell n a i) v v' (k + 1) n (λ j h. refl) e

  correction_same : Agree n (correction n k v (product n k a v)) (correction n k v' (product n k a v'))
  unfolding correction
  correction_same i h =
      let p = product_same in
      let d = dot_same v v' (product n k a v) (product n k a v') (k + 1) n e (λ j l. p j) in
      ap₂ (λ (x y : Float). x ⊖ y) (p i) (ap₂ (λ (x y : Float). x ⊗ y) d (e i h))

  -- the reflections by vectors that agree
  pub reflected_same : reflected n k a v ≡ reflected n k a v'
  unfolding reflected reflected_cell
  reflected_same =
      let q = correction n k v (product n k a v) in
      let q' = correction n k v' (product n k a v') in
      matrix_same n (reflected_cell n a v q) (reflected_cell n a v' q')
      (λ i j h l.
      let c = correction_same in
      ap₂ (λ (x y : Float). cell n a i j ⊖ two64 ⊗ (x ⊕ y)) (ap₂ (λ (x y : Float). x ⊗ y) (e i h) (c j l))
      (ap₂ (λ (x y : Float). x ⊗ y) (c i h) (e j l)))

  pub accumulated_same : accumulated n k a v ≡ accumulated n k a v'
  unfolding accumulated accumulated_cell
  accumulated_same =
      matrix_same n (accumulated_cell n k a v) (accumulated_cell n k a v')
      (λ i j h l. ap₂ (λ (x y : Float). cond (leb j k) (cell n a i j) (cell n a i j ⊖ two64 ⊗ x ⊗ y)) (product_same i) (e j l))
