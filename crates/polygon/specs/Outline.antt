-- A basin drawn as a polygon (the Rust's `polygon`): its vertices in one list, longitude before latitude, its edges straight in both, the last vertex
-- joined to the first. Where a circle of colatitude crosses it, and the colatitudes of its vertices. Definitions only.
use Rattle.std.specs.Prelude.{Bool, true, cond, not, List, ℕ, ◌+◌, ◌-◌, ◌*◌, ◌/◌, eqb, length, get_or, take, Float}
use Rattle.std.specs.Float.{nan}
use Rattle.std.specs.Float.Ieee.{lt, eq}
use Rattle.number.specs.Float64.{◌⊕◌, ◌⊖◌, ◌⊗◌, ◌⊘◌, double, zero64}
use Rattle.storage.specs.Tabulate.{tabulate}
use Rattle.ranking.specs.Places.{rising}
use Rattle.polygon.specs.Picked.{picked_before}

-- ---- the vertices
-- π/2, rounded
abbrev pub half_pi : Float
half_pi = double 0x3ff9_21fb_5444_2d18

abbrev pub longitude_at : List Float → ℕ → Float
longitude_at outline i = get_or outline (i + i) nan

abbrev pub colatitude_at : List Float → ℕ → Float
colatitude_at outline i = half_pi ⊖ get_or outline (i + i + 1) nan

-- the vertex after i of v: (i + 1) mod v
unfoldable pub following : ℕ → ℕ → ℕ
following v i = cond (eqb (i + 1) v) 0 (i + 1)

-- ---- the edge from a vertex at longitude l₀ and colatitude c₀ to one at l₁ and c₁
-- it crosses the circle θ where the product of the two differences, rounded, is below zero: a vertex on the circle adds nothing
abbrev pub straddles : Float → Float → Float → Bool
straddles θ c₀ c₁ = lt ((c₀ ⊖ θ) ⊗ (c₁ ⊖ θ)) zero64

-- the longitude where it does: the product before the quotient
abbrev pub crossing_of : Float → Float → Float → Float → Float → Float
crossing_of θ l₀ c₀ l₁ c₁ = l₀ ⊕ (l₁ ⊖ l₀) ⊗ (θ ⊖ c₀) ⊘ (c₁ ⊖ c₀)

module _ (v : ℕ) (outline : List Float) (θ : Float) where
  unfoldable pub crosses : ℕ → Bool
  crosses i = straddles θ (colatitude_at outline i) (colatitude_at outline (following v i))

  unfoldable pub crossing : ℕ → Float
  crossing i =
      crossing_of θ (longitude_at outline i) (colatitude_at outline i) (longitude_at outline (following v i)) (colatitude_at outline (following v i))

  -- the crossings, in the order of the edges
  unfoldable pub crossings : List Float
  crossings = picked_before crosses crossing v

  -- the ends of the intervals, the western before the eastern: the crossings ranked rising, in pairs; an unpaired last one is dropped
  unfoldable pub intervals_of : List Float
  intervals_of = take (length crossings / 2 * 2) (rising crossings)

-- ---- the breaks
-- of neighbours equal under == the first is kept: NaN equals nothing
unfoldable pub is_first : List Float → ℕ → Bool
is_first l i = cond (eqb i 0) true (not (eq (get_or l (i - 1) nan) (get_or l i nan)))

unfoldable pub number_at : List Float → ℕ → Float
number_at l i = get_or l i nan

unfoldable pub distinct : List Float → List Float
distinct l = picked_before (is_first l) (number_at l) (length l)

unfoldable pub colatitudes : ℕ → List Float → List Float
colatitudes v outline = tabulate (colatitude_at outline) 0 v

-- the colatitudes of the vertices, ranked rising, each once but NaN as often as it stands
unfoldable pub breaks_of : ℕ → List Float → List Float
breaks_of v outline = distinct (rising (colatitudes v outline))
