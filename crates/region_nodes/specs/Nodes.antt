-- What the kernels of one node write. Definitions only.
use Rattle.std.specs.Prelude.{List, ℕ, ◌+◌, get_or, Float}
use Rattle.std.specs.Float.{nan}
use Rattle.storage.specs.Triangle.{idx}
use Rattle.region_nodes.specs.Basis.{basic_at}
use Rattle.region_nodes.specs.Places.{order_in, sine_in}
use Rattle.region_nodes.specs.Regions.{longitude_product}

-- the numbers of a row of the table p that starts at index start: the one of each function of the degree
unfoldable pub in_row : ℕ → List Float → ℕ → Float
in_row start p r = get_or p (start + order_in r) nan

-- the number of the table p for the function at place i
unfoldable pub by_place : ℕ → List Float → ℕ → Float
by_place L p i = get_or p (idx (basic_at L i).degree (basic_at L i).order) nan

-- the product of the longitude factors at the places a and b of their degrees
unfoldable pub product_in : (ℕ → Float) → (ℕ → Float) → ℕ → ℕ → Float
product_in s c a b = longitude_product s c (order_in a) (sine_in a) (order_in b) (sine_in b)
