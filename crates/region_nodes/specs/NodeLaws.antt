-- The kernels of one node, law by law: one for each way through their tests, one for each loop that joins rows, and what the filled lists hold for
-- the functions of the basis. Assumes nothing.
use Rattle.std.specs.Prelude.{◌≡◌, Bool, true, false, List, ℕ, ◌+◌, ◌-◌, ◌*◌, ◌%◌, ◌≤◌, ◌<◌, eqb, length, get_or, Float}
use Rattle.std.proofs.Common.{sym, ap, ◌∙◌, zero-add, mul-le-mul, arith, lt-ltb, le-ltb, ne_eqb}
use Rattle.std.specs.Float.{nan}
use Rattle.std.specs.Float.Ieee.{neg}
use Rattle.number.specs.Float64.{◌⊕◌, ◌⊖◌, ◌⊗◌}
use Rattle.storage.specs.Elements.{from}
use Rattle.storage.specs.Filled.{Filled, filled_join, filled_to}
use Rattle.storage.specs.Rectangle.{by_rows, by_rows_more}
use Rattle.storage.specs.Triangle.{row_start, table_size, idx, along, rows_at, idx-within, row_start_more, row_start_monotone}
use Rattle.region_nodes.specs.Basis.{basic_at, basis_size, in_degree}
use Rattle.region_nodes.specs.Regions.{half, even_at, odd_at, longitude_product, integrals}
use Rattle.region_nodes.specs.Places.{order_in, sine_in, basic_at_lem, found, order_within, in_degree_lem, sine_zero}
use Rattle.region_nodes.specs.Nodes.{in_row, by_place, product_in}

-- ---- whether the function at place r is a sine
pub sine_first : (r : ℕ) → r ≡ 0 → false ≡ sine_in r
sine_first r e = sym (ap sine_in e ∙ sine_zero)

pub sine_later : (r : ℕ) → (r ≡ 0 → ⊥) → eqb (r % 2) 0 ≡ sine_in r
unfolding sine_in
sine_later r h = simp (ne_eqb r 0 h)

-- ---- the integrals at a difference of orders
module _ (at : ℕ) (l : List Float) (a b : ℕ) where
  pub even_less : a < b → get_or l (at + (b - a)) nan ≡ even_at (from at l nan) a b
  unfolding even_at from
  even_less h = simp (lt-ltb a b h)

  pub even_more : b ≤ a → get_or l (at + (a - b)) nan ≡ even_at (from at l nan) a b
  unfolding even_at from
  even_more h = simp (le-ltb a b h)

  pub odd_less : a < b → neg (get_or l (at + (b - a)) nan) ≡ odd_at (from at l nan) a b
  unfolding odd_at from
  odd_less h = simp (lt-ltb a b h)

  pub odd_more : b ≤ a → get_or l (at + (a - b)) nan ≡ odd_at (from at l nan) a b
  unfolding odd_at from
  odd_more h = simp (le-ltb a b h)

-- ---- the products, one for each pair of kinds
module _ (at : ℕ) (s c : List Float) (a b : ℕ) {sa sb : Bool} {x : Float} where
  pub product-sines : sa ≡ true → sb ≡ true → x ≡ even_at (from at s nan) a b
      → half ⊗ (x ⊖ get_or s (at + (a + b)) nan) ≡ longitude_product (from at s nan) (from at c nan) a sa b sb
  unfolding longitude_product from
  product-sines p q e = simp (p, q, e)

  pub product_sine_cosine : sa ≡ true → sb ≡ false → x ≡ odd_at (from at c nan) a b
      → half ⊗ (get_or c (at + (a + b)) nan ⊕ x) ≡ longitude_product (from at s nan) (from at c nan) a sa b sb
  unfolding longitude_product from
  product_sine_cosine p q e = simp (p, q, e)

  pub product_cosine_sine : sa ≡ false → sb ≡ true → x ≡ odd_at (from at c nan) a b
      → half ⊗ (get_or c (at + (a + b)) nan ⊖ x) ≡ longitude_product (from at s nan) (from at c nan) a sa b sb
  unfolding longitude_product from
  product_cosine_sine p q e = simp (p, q, e)

  pub product-cosines : sa ≡ false → sb ≡ false → x ≡ even_at (from at s nan) a b
      → half ⊗ (x ⊕ get_or s (at + (a + b)) nan) ≡ longitude_product (from at s nan) (from at c nan) a sa b sb
  unfolding longitude_product from
  product-cosines p q e = simp (p, q, e)

-- the product at the places a and b
pub product_places : (s c : ℕ → Float) (a b : ℕ) {m n : ℕ} {sa sb : Bool} {x : Float} → m ≡ order_in a → sa ≡ sine_in a → n ≡ order_in b → sb ≡ sine_in b
    → x ≡ longitude_product s c m sa n sb → x ≡ product_in s c a b
unfolding product_in
product_places s c a b em ea en eb e = e ∙ simp (em, ea, en, eb)

-- row a of the products behind those before it
pub products_more : (s c : ℕ → Float) (L a : ℕ) {at n : ℕ} {d x y : List Float} → n ≡ integrals L
    → Filled 0 (by_rows (product_in s c) (integrals L)) (a * n) d x → Filled at (product_in s c a) (L + L + 1) x y → at ≡ a * n
    → Filled 0 (by_rows (product_in s c) (integrals L)) ((a + 1) * n) d y
unfolding integrals
products_more s c L a e r t p =
    filled_to (by_rows_more (product_in s c) (integrals L) a r t (ap (λ (x : ℕ). a * x) e) p) (ap (λ (x : ℕ). (a + 1) * x) (sym e))

-- ---- the rows of the functions
-- the number at place r of its row
pub in_row_lem : (start : ℕ) (p : List Float) (r : ℕ) {m : ℕ} → m ≡ order_in r → get_or p (start + m) nan ≡ in_row start p r
unfolding in_row
in_row_lem start p r e = ap (λ (i : ℕ). get_or p (start + i) nan) e

-- what the loop over the degrees up to L knows in degree l: a record, whose fields `omega` finds
pub record DegreeWithin (l L : ℕ) : Type 0 where
  pub more : row_start (l + 1) ≡ row_start l + l + 1
  pub row : row_start (l + 1) ≤ table_size L
  pub rows : table_size L ≤ 253
  pub inside : l * l + (l + l + 1) ≤ basis_size L
  pub places : basis_size L ≤ 484

pub degree_within : (l L : ℕ) → l ≤ L → L ≤ 21 → DegreeWithin l L
unfolding basis_size row_start
degree_within l L h b =
    record {
      more = row_start_more l;
      row = row_start_monotone (l + 1) (L + 1) (omega arith);
      rows = row_start_monotone (L + 1) 22 (omega arith);
      inside = omega (arith, mul-le-mul h h);
      places = omega (arith, mul-le-mul b b);
    }

-- row l behind those of the degrees below: it begins at place l * l
pub functions_more : (L l : ℕ) (p : List Float) {at start k j : ℕ} {d x y : List Float} → l ≤ L → Filled 0 (by_place L p) k d x
    → Filled at (in_row start p) j x y → k ≡ l * l → at ≡ k → start ≡ row_start l → j ≡ l + l + 1 → Filled 0 (by_place L p) (k + j) d y
unfolding by_place in_row
functions_more L l p {at} {start} {k} {j} h r s ek ea es ej =
    filled_join r s (ea ∙ sym (zero-add k))
    (λ i b.
    let e = ap (basic_at L) (ap (λ (x : ℕ). x + i) ek) ∙ basic_at_lem L l i h (omega arith) in
    ap (λ f. get_or p (idx f.degree f.order) nan) e ∙ ap (λ (x : ℕ). get_or p (x + order_in i) nan) (sym es))

-- ---- what the filled lists hold
-- the functions, from a table that holds F
pub by_place_lem : (F : ℕ → ℕ → Float) (L : ℕ) {d p : List Float} → Filled 0 (along F) (table_size L) d p → table_size L ≤ length d → (i : ℕ) → i < basis_size L
    → by_place L p i ≡ F (basic_at L i).degree (basic_at L i).order
unfolding by_place
by_place_lem F L {d} {p} r room i h =
    let f = found L i h in
    let e = ap (basic_at L) f.place ∙ basic_at_lem L f.l f.r f.top f.inside in
    let m = order_within f.r f.l f.inside in
    let w = idx-within f.l (order_in f.r) L m f.top in
    ap (λ g. get_or p (idx g.degree g.order) nan) e
    ∙ rows_at F f.l (order_in f.r) nan r m (sym (zero-add (idx f.l (order_in f.r)))) w (omega arith)
    ∙ sym (ap (λ g. F g.degree g.order) e)

-- a function's place within its degree tells its order and its kind
order_at_lem : (L i : ℕ) → i < basis_size L → order_in (in_degree (basic_at L i).order (basic_at L i).sine) ≡ (basic_at L i).order
order_at_lem L i h =
    let f = found L i h in
    let e = ap (basic_at L) f.place ∙ basic_at_lem L f.l f.r f.top f.inside in
    ap (λ g. order_in (in_degree g.order g.sine)) e ∙ ap order_in (in_degree_lem f.r) ∙ sym (ap (λ g. g.order) e)

sine_at_lem : (L i : ℕ) → i < basis_size L → sine_in (in_degree (basic_at L i).order (basic_at L i).sine) ≡ (basic_at L i).sine
sine_at_lem L i h =
    let f = found L i h in
    let e = ap (basic_at L) f.place ∙ basic_at_lem L f.l f.r f.top f.inside in
    ap (λ g. sine_in (in_degree g.order g.sine)) e ∙ ap sine_in (in_degree_lem f.r) ∙ sym (ap (λ g. g.sine) e)

-- and the place is one of the 2L + 1
pub place-within : (L i : ℕ) → i < basis_size L → in_degree (basic_at L i).order (basic_at L i).sine ≤ L + L
place-within L i h =
    let f = found L i h in
    let e = ap (basic_at L) f.place ∙ basic_at_lem L f.l f.r f.top f.inside in
    let g = ap (λ g. in_degree g.order g.sine) e ∙ in_degree_lem f.r in
    omega (arith, g, f.inside, f.top)

-- the product of two functions, by their places within their degrees
pub product_in_lem : (s c : ℕ → Float) (L i j : ℕ) → i < basis_size L → j < basis_size L
    → product_in s c (in_degree (basic_at L i).order (basic_at L i).sine) (in_degree (basic_at L j).order (basic_at L j).sine)
    ≡ longitude_product s c (basic_at L i).order (basic_at L i).sine (basic_at L j).order (basic_at L j).sine
unfolding product_in
product_in_lem s c L i j hi hj = simp (order_at_lem L i hi, sine_at_lem L i hi, order_at_lem L j hj, sine_at_lem L j hj)
