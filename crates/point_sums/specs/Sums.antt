-- The sums of one point as loops form them, over the orders of a degree and then over the degrees. Assumes nothing.
use Rattle.std.specs.Prelude.{◌≡◌, List, ℕ, suc, ◌+◌, ◌*◌, ◌≤◌, ◌<◌, length, get_or, Float}
use Rattle.std.proofs.Math.Path.{refl, ap}
use Rattle.std.proofs.Common.{sym, ap₂, ◌∙◌, zero-add, add-one, arith}
use Rattle.std.specs.Float.Ieee.{nan, binary64, of_bits}
use Rattle.number.specs.Float64.{◌⊕◌, ◌⊖◌, ◌⊗◌, ◌⊘◌, of_whole, zero64, one64}
use Rattle.storage.specs.Elements.{from}
use Rattle.storage.specs.Filled.{Filled, filled_in}
use Rattle.storage.specs.Triangle.{row_start, idx, table_size, cells, along, idx-within, along-idx}
use Rattle.recursion.specs.Recursion.{a_cell, b_cell, p_cell, pmm, rescale}
use Rattle.legendre.specs.Rows.{next_row, scaled_row, UpToRow, up_to_none, up_to_more, scaled_row_is}
use Rattle.derivative.specs.Derivative.{dp_cell, weight_cell, derived_row, derived_row_is}
use Rattle.legendre.specs.Directions.{cosines, sines}
use Rattle.rounding.specs.Sums.{zero⁺, running_sum}
use Rattle.rounding.specs.SumSteps.{running_none, running_more, running_same}
use Rattle.point_lists.specs.Tables.{Tabled}
use Rattle.local.specs.declared.Partials.{Partials}
use Rattle.point_sums.specs.declared.DegreeSums.{DegreeSums}
use Rattle.local.specs.Point.{even_term, east_term, order_sum, even_row, east_row, running_power, degree_term, degree_sum, radial_sum, partials_of, point_at}

-- the cosine and the sine of order m in a list where those of the point start at index k
unfoldable pub cosine_from : ℕ → List Float → ℕ → Float
cosine_from k trig m = get_or trig (k + (m + m)) nan

unfoldable pub sine_from : ℕ → List Float → ℕ → Float
sine_from k trig m = get_or trig (k + (m + m + 1)) nan

-- ---- the orders of a degree
-- the sums of degree n depend on the numbers of its orders alone
module _ (c s : ℕ → Float) {p p' cos cos' sin sin' : ℕ → Float} (n : ℕ) (ep : (m : ℕ) → m ≤ n → p m ≡ p' m)
    (ec : (m : ℕ) → m ≤ n → cos m ≡ cos' m) (es : (m : ℕ) → m ≤ n → sin m ≡ sin' m) where
  pub even_same : order_sum (even_term p c s cos sin) n ≡ order_sum (even_term p' c s cos' sin') n
  unfolding order_sum even_term
  even_same =
      running_same binary64 (even_term p c s cos sin) (even_term p' c s cos' sin') (n + 1) zero⁺
      (λ m h. let a = ep m (omega arith) in let b = ec m (omega arith) in let d = es m (omega arith) in cc)

  pub east_same : order_sum (east_term p c s cos sin) n ≡ order_sum (east_term p' c s cos' sin') n
  unfolding order_sum east_term
  east_same =
      running_same binary64 (east_term p c s cos sin) (east_term p' c s cos' sin') (n + 1) zero⁺
      (λ m h. let a = ep m (omega arith) in let b = ec m (omega arith) in let d = es m (omega arith) in cc)

-- the sums over the orders below m
module _ (p d c s cos sin : ℕ → Float) where
  pub record OrdersBelow (m : ℕ) (even north east : Float) : Type 0 where
    pub of_p : even ≡ running_sum binary64 (even_term p c s cos sin) m zero⁺
    pub of_d : north ≡ running_sum binary64 (even_term d c s cos sin) m zero⁺
    pub of_m : east ≡ running_sum binary64 (east_term p c s cos sin) m zero⁺

  pub orders_none : OrdersBelow 0 zero64 zero64 zero64
  unfolding of_bits
  orders_none = record { of_p = running_none binary64 _ zero⁺; of_d = running_none binary64 _ zero⁺; of_m = running_none binary64 _ zero⁺ }

  pub orders_more : (m : ℕ) {even north east pm dm mf : Float} → OrdersBelow m even north east → pm ≡ p m → dm ≡ d m → mf ≡ of_whole m
      → let both = c m ⊗ cos m ⊕ s m ⊗ sin m in
      OrdersBelow (m + 1) (even ⊕ pm ⊗ both) (north ⊕ dm ⊗ both) (east ⊕ pm ⊗ mf ⊗ (s m ⊗ cos m ⊖ c m ⊗ sin m))
  unfolding even_term east_term
  orders_more m below ep ed em =
      let one = running_more binary64 (even_term p c s cos sin) m zero⁺ in
      let two = running_more binary64 (even_term d c s cos sin) m zero⁺ in
      let three = running_more binary64 (east_term p c s cos sin) m zero⁺ in
      let x = below.of_p in
      let y = below.of_d in
      let z = below.of_m in
      record { of_p = cc; of_d = cc; of_m = cc }

  pub orders_all : (n : ℕ) {m : ℕ} {even north east : Float} → OrdersBelow m even north east → m ≡ n + 1
      → (even ≡ order_sum (even_term p c s cos sin) n) × ((north ≡ order_sum (even_term d c s cos sin) n) × (east ≡ order_sum (east_term p c s cos sin) n))
  unfolding order_sum
  orders_all n below e = rw (← e) (below.of_p, (below.of_d, below.of_m))

-- ---- the degrees
-- rows that agree in the degrees below k have the same sums
pub degree_same : (q : Float) (row row' : ℕ → Float) (k : ℕ) → ((n : ℕ) → n < k → row n ≡ row' n) → degree_sum q row k ≡ degree_sum q row' k
unfolding degree_sum degree_term
degree_same q row row' k e =
    running_same binary64 (degree_term q row) (degree_term q row') k zero⁺ (λ n h. ap (λ (x : Float). running_power q n ⊗ x) (e n h))

-- the sums x with those of degree n over its orders added
abbrev pub with_row : (n : ℕ) (q even north east : Float) → DegreeSums → DegreeSums
with_row n q even north east x = record {
  power = x.power ⊗ q;
  v = x.v ⊕ x.power ⊗ even;
  dr = x.dr ⊖ of_whole (n + 1) ⊗ x.power ⊗ even;
  dlat = x.dlat ⊕ x.power ⊗ north;
  dlon = x.dlon ⊕ x.power ⊗ east;
}

-- by the degree's rows of P, of its derivative, of C and of S
unfoldable pub with_degree : (n : ℕ) (q : Float) (p d c s cos sin : ℕ → Float) → DegreeSums → DegreeSums
with_degree n q p d c s cos sin =
    with_row n q (order_sum (even_term p c s cos sin) n) (order_sum (even_term d c s cos sin) n) (order_sum (east_term p c s cos sin) n)

pub degree_added : (n : ℕ) (q : Float) (p d c s cos sin : ℕ → Float) (x : DegreeSums) {y : DegreeSums} {even north east : Float}
    → y ≡ with_row n q even north east x
    → even ≡ order_sum (even_term p c s cos sin) n → north ≡ order_sum (even_term d c s cos sin) n → east ≡ order_sum (east_term p c s cos sin) n
    → y ≡ with_degree n q p d c s cos sin x
unfolding with_degree
degree_added n q p d c s cos sin x e even north east = rw (← even, ← north, ← east) e

-- the next power of q, and the sums over the degrees below n
unfoldable pub sums_below : (q : Float) (P dP c s : ℕ → ℕ → Float) (cos sin : ℕ → Float) (n : ℕ) → DegreeSums
sums_below q P dP c s cos sin n = record {
  power = running_power q n;
  v = degree_sum q (even_row P c s cos sin) n;
  dr = radial_sum q (even_row P c s cos sin) n;
  dlat = degree_sum q (even_row dP c s cos sin) n;
  dlon = degree_sum q (east_row P c s cos sin) n;
}

module _ (q : Float) (P dP c s : ℕ → ℕ → Float) (cos sin : ℕ → Float) where
  sums_none : (x : DegreeSums) → x ≡ record { power = one64; v = zero64; dr = zero64; dlat = zero64; dlon = zero64 } → x ≡ sums_below q P dP c s cos sin 0
  unfolding sums_below degree_sum radial_sum running_power running_sum of_bits
  sums_none x e = e

  sums_more : (n : ℕ) → with_degree n q (P n) (dP n) (c n) (s n) cos sin (sums_below q P dP c s cos sin n) ≡ sums_below q P dP c s cos sin (n + 1)
  unfolding with_degree sums_below degree_sum degree_term radial_sum running_power running_sum even_row east_row
  sums_more n = last ∙ ap (sums_below q P dP c s cos sin) (sym (add-one n))
    where
      last : with_degree n q (P n) (dP n) (c n) (s n) cos sin (sums_below q P dP c s cos sin n) ≡ sums_below q P dP c s cos sin (suc n)
      last = refl

-- rows that agree in the orders of the degree add the same
with_degree_same : (n : ℕ) (q : Float) (c s cos sin : ℕ → Float) {p p' d d' : ℕ → Float} (x : DegreeSums) → ((m : ℕ) → m ≤ n → p m ≡ p' m)
    → ((m : ℕ) → m ≤ n → d m ≡ d' m) → with_degree n q p d c s cos sin x ≡ with_degree n q p' d' c s cos sin x
unfolding with_degree
with_degree_same n q c s cos sin {p} {p'} {d} {d'} x ep ed =
    let even = even_same c s {p = p} {p' = p'} {cos = cos} {cos' = cos} {sin = sin} {sin' = sin} n ep (λ m h. refl) (λ m h. refl) in
    let north = even_same c s {p = d} {p' = d'} {cos = cos} {cos' = cos} {sin = sin} {sin' = sin} n ed (λ m h. refl) (λ m h. refl) in
    let east = east_same c s {p = p} {p' = p'} {cos = cos} {cos' = cos} {sin = sin} {sin' = sin} n ep (λ m h. refl) (λ m h. refl) in
    ap (λ (y : Float). with_row n q y (order_sum (even_term d c s cos sin) n) (order_sum (east_term p c s cos sin) n) x) even
    ∙ ap₂ (λ (y z : Float). with_row n q (order_sum (even_term p' c s cos sin) n) y z x) north east

-- ---- the lists that a point is worked out in
-- the lists, by their lengths, have room for the degrees and orders up to nmax
pub record PointRoom (nmax a b w c s sectorals r even odd p d : ℕ) : Type 0 where
  pub top : nmax ≤ 2700
  pub of_a : table_size nmax ≤ a
  pub of_b : table_size nmax ≤ b
  pub of_w : table_size nmax ≤ w
  pub of_c : table_size nmax ≤ c
  pub of_s : table_size nmax ≤ s
  pub of_sectorals : nmax < sectorals
  pub of_r : nmax < r
  pub of_even : nmax < even
  pub of_odd : nmax < odd
  pub of_p : nmax < p
  pub of_d : nmax < d

-- lists that are written keep it, as they keep their lengths
pub room_kept : {nmax a b w c s f r even odd p d r' even' odd' p' d' : ℕ} → PointRoom nmax a b w c s f r even odd p d
    → r' ≡ r → even' ≡ even → odd' ≡ odd → p' ≡ p → d' ≡ d → PointRoom nmax a b w c s f r' even' odd' p' d'
room_kept k er ee eo ep ed = record {
  top = k.top;
  of_a = k.of_a;
  of_b = k.of_b;
  of_w = k.of_w;
  of_c = k.of_c;
  of_s = k.of_s;
  of_sectorals = k.of_sectorals;
  of_r = omega (arith, k.of_r);
  of_even = omega (arith, k.of_even);
  of_odd = omega (arith, k.of_odd);
  of_p = omega (arith, k.of_p);
  of_d = omega (arith, k.of_d);
}

-- ---- the degrees of a point
-- the sums over the degrees below n of the field c, s at the latitude with t and u and the longitude whose cosines and sines start at index k
abbrev pub point_sums : (q t u : Float) (k : ℕ) (c s trig : List Float) → ℕ → DegreeSums
point_sums q t u k c s trig =
    sums_below q (p_cell (along a_cell) (along b_cell) t u) (dp_cell (along a_cell) (along b_cell) t u) (cells c nan) (cells s nan)
    (cosine_from k trig) (sine_from k trig)

-- they stand in x
pub record DegreesBelow (n at : ℕ) (q t u : Float) (k : ℕ) (c s trig newer older : List Float) (x : DegreeSums) : Type 0 where
  pub rows : UpToRow (along a_cell) (along b_cell) t n at newer older
  pub are : x ≡ point_sums q t u k c s trig n

pub degrees_none : {q t u : Float} {k : ℕ} {c s trig newer older : List Float} {x : DegreeSums}
    → x ≡ record { power = one64; v = zero64; dr = zero64; dlat = zero64; dlon = zero64 } → DegreesBelow 0 0 q t u k c s trig newer older x
degrees_none e = record { rows = up_to_none; are = sums_none _ _ _ _ _ _ _ _ e }

-- the lists have room for degree n
pub record DegreeFits (n N : ℕ) (sectorals r newer older p d : List Float) : Type 0 where
  pub degree : n ≤ N
  pub top : N ≤ 2700
  pub of_sectorals : n < length sectorals
  pub of_r : n < length r
  pub of_newer : n ≤ length newer
  pub of_older : n < length older
  pub of_p : n < length p
  pub of_d : n < length d

-- row n of the recursion, where a, b and the sectoral numbers stand in lists
next_rows : {n at N : ℕ} {t : Float} {a b w sectorals newer older l : List Float} → UpToRow (along a_cell) (along b_cell) t n at newer older
    → Tabled N a b w → Filled 0 pmm (N + 1) sectorals sectorals → n ≤ N → n < length sectorals → n ≤ length newer → n < length older
    → Filled 0 (next_row n at t (get_or sectorals n nan) a b newer older) (n + 1) older l
    → UpToRow (along a_cell) (along b_cell) t (n + 1) (at + n + 1) l newer
next_rows {n} {at} {N} {a = a} {b} below tabled sectoral h hs hn ho r =
    up_to_more below a b (λ m g. tabled.of_a (idx n m) (idx-within n m N (omega arith) (omega arith)))
    (λ m g. tabled.of_b (idx n m) (idx-within n m N (omega arith) (omega arith)))
    (filled_in {j = n} nan sectoral (omega arith) (sym (zero-add n)) hs) hn (omega arith) r refl refl

-- the weights of degree n, where they stand in a list
pub weights_at : {n at N : ℕ} {a b w : List Float} → at ≡ row_start n → Tabled N a b w → n ≤ N → (m : ℕ) → m ≤ n → from at w nan m ≡ weight_cell n m
unfolding from
weights_at {n} {at} {N} {w = w} e tabled h m g =
    ap (λ (i : ℕ). get_or w (i + m) nan) e ∙ tabled.of_w (idx n m) (idx-within n m N g h) ∙ along-idx weight_cell n m g

-- with degree n added
module _ {n at N : ℕ} {q t u : Float} {k : ℕ} {a b w c s trig sectorals newer older r p d l p' d' : List Float} {x x' : DegreeSums} where
  pub degrees_more : {n' at' : ℕ} → DegreesBelow n at q t u k c s trig newer older x → Tabled N a b w → Filled 0 pmm (N + 1) sectorals sectorals
      → Filled 0 (rescale u) (N + 1) r r → DegreeFits n N sectorals r newer older p d
      → Filled 0 (next_row n at t (get_or sectorals n nan) a b newer older) (n + 1) older l → Filled 0 (scaled_row l r) (n + 1) p p'
      → Filled 0 (derived_row n (from at w nan) (from 0 p' nan)) (n + 1) d d'
      → x' ≡ with_degree n q (from 0 p' nan) (from 0 d' nan) (from at c nan) (from at s nan) (cosine_from k trig) (sine_from k trig) x
      → n' ≡ n + 1 → at' ≡ at + n + 1 → DegreesBelow n' at' q t u k c s trig l newer x'
  unfolding from cells
  degrees_more {n'} {at'} below tabled sectoral powers room rq rp rd ex en ea =
      let P = p_cell (along a_cell) (along b_cell) t u in
      let dP = dp_cell (along a_cell) (along b_cell) t u in
      let cos = cosine_from k trig in
      let sin = sine_from k trig in
      let rows = next_rows below.rows tabled sectoral room.degree room.of_sectorals room.of_newer room.of_older rq in
      let row : (m : ℕ) → m ≤ n → from 0 p' nan m ≡ P n m =
      λ m g. filled_in {j = m} nan rp (omega arith) refl (omega arith)
      ∙ scaled_row_is u rows.last powers (omega arith) (omega arith) (omega arith) m g in
      let derived : (m : ℕ) → m ≤ n → from 0 d' nan m ≡ dP n m =
      λ m g. filled_in {j = m} nan rd (omega arith) refl (omega arith)
      ∙ derived_row_is P n (from at w nan) (from 0 p' nan) (omega arith) (weights_at below.rows.start tabled room.degree) row m g in
      rw (en, ea) record {
        rows = rows;
        are =
            ex
            ∙ with_degree_same n q (from at c nan) (from at s nan) cos sin x row derived
            ∙ ap (λ (i : ℕ). with_degree n q (P n) (dP n) (from i c nan) (from i s nan) cos sin x) below.rows.start
            ∙ ap (with_degree n q (P n) (dP n) (cells c nan n) (cells s nan n) cos sin) below.are
            ∙ sums_more q P dP (cells c nan) (cells s nan) cos sin n;
      }

-- as many, said otherwise
pub degrees_to : {n n' at : ℕ} {q t u : Float} {k : ℕ} {c s trig newer older : List Float} {x : DegreeSums}
    → DegreesBelow n at q t u k c s trig newer older x → n ≡ n' → x ≡ point_sums q t u k c s trig n'
degrees_to below e = rw (← e) below.are

-- ---- the point, from its sums over all degrees: the last multiplications
abbrev point_from : (gm r : Float) → DegreeSums → Partials
point_from gm r x = record { v = gm ⊘ r ⊗ x.v; dr = gm ⊘ r ⊘ r ⊗ x.dr; dlat = gm ⊘ r ⊗ x.dlat; dlon = gm ⊘ r ⊗ x.dlon }

pub point_is : (gm radius r t u : Float) (N i k : ℕ) (c s trig : List Float) {x : DegreeSums} → k ≡ i * (N + N + 2)
    → x ≡ point_sums (radius ⊘ r) t u k c s trig (N + 1)
    → point_from gm r x ≡ point_at gm radius N c s trig i r t u
unfolding point_at partials_of sums_below cosine_from sine_from cosines sines
point_is gm radius r t u N i k c s trig {x} ek ex =
    ap (point_from gm r) ex
    ∙ ap (λ (j : ℕ). point_from gm r (point_sums (radius ⊘ r) t u j c s trig (N + 1))) ek
