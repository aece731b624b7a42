-- The storage of `region`. Assumes nothing.
use Rattle.std.specs.Prelude.{◌≡◌, true, false, List, ℕ, ◌+◌, ◌*◌, ◌≤◌, ◌<◌, get_or, Float}
use Rattle.std.proofs.Common.{ap₂, mul-le-mul, arith}
use Rattle.std.specs.Float.{nan}
use Rattle.storage.specs.Filled.{Filled}
use Rattle.storage.specs.Rectangle.{by_rows}
use Rattle.storage.specs.Triangle.{table_size}
use Rattle.matrix.specs.Matrix.{cell}
use Rattle.matrix.specs.Layout.{Kept}
use Rattle.linalg.specs.Eigen.{eigen_vectors}
use Rattle.region_nodes.specs.Basis.{basis_size}
use Rattle.region_nodes.specs.NodeLaws.{degree_within}
use Rattle.region.specs.Region.{concentration_at, numbers_at, region_work}

-- the sizes of a degree: a record, whose fields `omega` finds
pub record Sized (L functions table numbers work : ℕ) : Type 0 where
  pub of_functions : functions ≡ basis_size L
  pub of_table : table ≡ table_size L
  pub of_numbers : numbers ≡ basis_size L * table_size L
  pub of_work : work ≡ region_work L
  pub few : functions ≤ 484
  pub short : table ≤ 253

-- the products are small
pub record Products (functions table : ℕ) : Type 0 where
  pub square : functions * functions ≤ 234256
  pub rows : functions * table ≤ 122452

pub products : {functions table : ℕ} → functions ≤ 484 → table ≤ 253 → Products functions table
products {functions} {table} h g = record {
  square = mul-le-mul {n₁ = functions} {m₁ = functions} {n₂ = 484} {m₂ = 484} h h;
  rows = mul-le-mul {n₁ = functions} {m₁ = table} {n₂ = 484} {m₂ = 253} h g;
}

pub sized : (L : ℕ) {functions table : ℕ} → L ≤ 21 → functions ≡ basis_size L → table ≡ table_size L
    → Sized L functions table (functions * table) (3 * table + 4 * (functions * functions) + 5 * functions)
unfolding region_work
sized L h f t =
    let d = degree_within 0 L (omega arith) h in
    record {
      of_functions = f;
      of_table = t;
      of_numbers = ap₂ (λ (x y : ℕ). x * y) f t;
      of_work = ap₂ (λ (x y : ℕ). 3 * y + 4 * (x * x) + 5 * x) f t;
      few = omega (arith, d, f);
      short = omega (arith, d, t);
    }

-- the eigenvectors of the matrix D stand in w from index at on, one after the other: number j of vector k
pub record VectorsIn (n at : ℕ) (D w : List Float) : Type 0 where
  pub are : (k j : ℕ) → k < n → j < n → get_or w (at + (k * n + j)) nan ≡ cell n (eigen_vectors n D) j k

-- what an accepted call makes of its lists
pub record RegionMade (L : ℕ) (D w w' v v' c c' s s' : List Float) : Type 0 where
  pub concentrations : Filled 0 (concentration_at L D) (basis_size L) v v'
  pub cosines : Filled 0 (by_rows (numbers_at L D false) (table_size L)) (basis_size L * table_size L) c c'
  pub sines : Filled 0 (by_rows (numbers_at L D true) (table_size L)) (basis_size L * table_size L) s s'
  pub kept : Kept (region_work L) w w'
