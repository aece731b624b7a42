-- The kernel of a basin, (1/4π)∫ P(l, m) {cos, sin} mλ dΩ over the basin (Swenson & Wahr 2002), by nodes in colatitude with the integrals over the
-- basin's longitudes at each: in the order of the Rust's operations. Definitions only.
use Rattle.std.specs.Prelude.{Bool, true, false, cond, ◌&&◌, List, ℕ, ◌*◌, eqb, ltb, get_or, Float, Result, ⊤}
use Rattle.std.specs.Float.{nan}
use Rattle.number.specs.Float64.{◌⊕◌, ◌⊗◌, ◌⊘◌, zero64}
use Rattle.refusal.specs.Numbers.{refuse, ◌and_then◌}
use Rattle.refusal.specs.declared.Refusal.TheVariants.{Space}
use Rattle.storage.specs.Checks.{space_check}
use Rattle.storage.specs.Elements.{from}
use Rattle.storage.specs.Iterate.{iterate}
use Rattle.storage.specs.Triangle.{table_size}
use Rattle.legendre.specs.Directions.{legendre_row}
use Rattle.region_nodes.specs.Regions.{longitude_product, integrals, four_pi}
use Rattle.regions.specs.Checks.{nodes_check_to}
use Rattle.refusal.specs.declared.Refusal.{Refusal}

module _ (L : ℕ) (weights lats : List Float) (marks : List ℕ) (s c : List Float) where
  -- what node ν adds to the cosine's number, or the sine's, of degree l and order m: the Rust's `weight * P * product`, with the product of the longitude
  -- factor and 1
  unfoldable pub kernel_term : Bool → ℕ → ℕ → ℕ → Float
  kernel_term sine l m ν =
      get_or weights ν nan
      ⊗ legendre_row lats ν l m
      ⊗ longitude_product (from (ν * integrals L) s nan) (from (ν * integrals L) c nan) m sine 0 false

  -- a node that is marked 0 is skipped
  unfoldable pub add_term : Bool → ℕ → ℕ → ℕ → Float → Float
  add_term sine l m ν x = cond (eqb (get_or marks ν 0) 0) x (x ⊕ kernel_term sine l m ν)

  -- the number of degree l and order m: over all nodes, divided by 4π at the end; there is no sine of order 0, and its number is +0
  unfoldable pub kernel_at : Bool → ℕ → ℕ → ℕ → Float
  kernel_at sine nodes l m = cond (sine && eqb m 0) zero64 (iterate (add_term sine l m) 0 nodes zero64 ⊘ four_pi)

  -- of the cosine, and of the sine
  abbrev pub kernel_c : ℕ → ℕ → ℕ → Float
  kernel_c nodes = kernel_at false nodes

  abbrev pub kernel_s : ℕ → ℕ → ℕ → Float
  kernel_s nodes = kernel_at true nodes

-- the checks of the nodes, up to degree 2700, then SPACE of the working list, three tables long, and of the two tables of the kernel
unfoldable pub kernel_check : (L nodes weights lats marks s c work kc ks : ℕ) → Result ⊤ Refusal
kernel_check L nodes weights lats marks s c work kc ks =
    nodes_check_to 2700 L nodes weights lats marks s c and_then refuse (ltb work (3 * table_size L)) Space (space_check (table_size L) kc ks)
