-- The sums of one point for its second derivatives as loops form them, over the orders of a degree and then over the degrees. Assumes nothing.
use Rattle.std.specs.Prelude.{◌≡◌, List, ℕ, zero, suc, ◌+◌, ◌*◌, ◌≤◌, ◌<◌, length, Float}
use Rattle.std.proofs.Math.Path.{refl, ap}
use Rattle.std.proofs.Common.{sym, ap₂, ◌∙◌, zero-add, add-one, arith}
use Rattle.std.proofs.Math.ListN.{get_or}
use Rattle.std.specs.Float.Ieee.{nan, binary64, of_bits, neg}
use Rattle.number.specs.Float64.{◌⊕◌, ◌⊖◌, ◌⊗◌, of_whole, zero64, one64}
use Rattle.storage.specs.Elements.{from}
use Rattle.storage.specs.Filled.{Filled, filled_in}
use Rattle.storage.specs.Rectangle.{by_rows}
use Rattle.storage.specs.Triangle.{row_start, idx, table_size, cells, along, row_start_zero, row_start_more, idx-within}
use Rattle.recursion.specs.Recursion.{a_cell, b_cell, p_cell, pmm, rescale}
use Rattle.derivative.specs.Derivative.{dp_cell, ddp_cell, derived_row, derived_row_is}
use Rattle.rounding.specs.Sums.{zero⁺, running_sum}
use Rattle.rounding.specs.SumSteps.{running_none, running_more, running_same}
use Rattle.local.specs.Point.{even_term, order_sum, even_row, running_power, degree_term, degree_sum}
use Rattle.local.specs.Second.{across_term, curve_term, running_loss, order_loss, across_row, curve_row, falling, falling_twice}
use Rattle.point_lists.specs.Tables.{Tabled}
use Rattle.point_sums.specs.Sums.{cosine_from, sine_from, even_same, weights_at}
use Rattle.second_sums.specs.Pairs.{next_pair, scaled_pair, LastPairs, last_pairs_none, last_pairs_more, scaled_pair_is}
use Rattle.second_sums.specs.declared.SecondRow.{SecondRow}
use Rattle.second_sums.specs.declared.SecondSums.{SecondSums}

-- ---- the orders of a degree
loss_more : (f : ℕ → Float) (m : ℕ) → running_loss f (m + 1) ≡ running_loss f m ⊖ f m
unfolding running_loss
loss_more f m = ap (running_loss f) (add-one m)

loss_same : (f g : ℕ → Float) (k : ℕ) → ((m : ℕ) → m < k → f m ≡ g m) → running_loss f k ≡ running_loss g k
unfolding running_loss
loss_same f g zero e = refl
loss_same f g (suc m) e = ap₂ ◌⊖◌ (loss_same f g m (λ i h. e i (omega arith))) (e m (omega arith))

-- the sums of degree n, by its rows of P, of its two derivatives, of C and of S
unfoldable pub row_of : (n : ℕ) (p d dd c s cos sin : ℕ → Float) → SecondRow
row_of n p d dd c s cos sin = record {
  v = order_sum (even_term p c s cos sin) n;
  lat = order_sum (even_term d c s cos sin) n;
  latlat = order_sum (even_term dd c s cos sin) n;
  lon = order_sum (across_term p c s cos sin) n;
  lonlon = order_loss (curve_term p c s cos sin) n;
  latlon = order_sum (across_term d c s cos sin) n;
}

-- by lists: the row of the recursion in pairs, the powers of u in r; the degree's weights and coefficients start at index `at`
unfoldable pub row_sums : (n at k : ℕ) (rows r w c s trig : List Float) → SecondRow
row_sums n at k rows r w c s trig =
    let p = scaled_pair rows r in
    let d = derived_row n (from at w nan) p in
    row_of n p d (derived_row n (from at w nan) d) (from at c nan) (from at s nan) (cosine_from k trig) (sine_from k trig)

-- the sums depend on the numbers of the orders alone
module _ (c s : ℕ → Float) {p p' cos cos' sin sin' : ℕ → Float} (n : ℕ) (ep : (m : ℕ) → m ≤ n → p m ≡ p' m)
    (ec : (m : ℕ) → m ≤ n → cos m ≡ cos' m) (es : (m : ℕ) → m ≤ n → sin m ≡ sin' m) where
  pub across_same : order_sum (across_term p c s cos sin) n ≡ order_sum (across_term p' c s cos' sin') n
  unfolding order_sum across_term
  across_same =
      running_same binary64 (across_term p c s cos sin) (across_term p' c s cos' sin') (n + 1) zero⁺
      (λ m h. let a = ep m (omega arith) in let b = ec m (omega arith) in let d = es m (omega arith) in cc)

  pub curve_same : order_loss (curve_term p c s cos sin) n ≡ order_loss (curve_term p' c s cos' sin') n
  unfolding order_loss curve_term
  curve_same =
      loss_same (curve_term p c s cos sin) (curve_term p' c s cos' sin') (n + 1)
      (λ m h. let a = ep m (omega arith) in let b = ec m (omega arith) in let d = es m (omega arith) in cc)

row_same : (n : ℕ) (c s cos sin : ℕ → Float) {p p' d d' e e' : ℕ → Float} → ((m : ℕ) → m ≤ n → p m ≡ p' m) → ((m : ℕ) → m ≤ n → d m ≡ d' m)
    → ((m : ℕ) → m ≤ n → e m ≡ e' m) → row_of n p d e c s cos sin ≡ row_of n p' d' e' c s cos sin
unfolding row_of
row_same n c s cos sin {p} {p'} {d} {d'} {e} {e'} ep ed ee =
    let v = even_same c s {cos = cos} {cos' = cos} {sin = sin} {sin' = sin} n ep (λ m h. refl) (λ m h. refl) in
    let lat = even_same c s {cos = cos} {cos' = cos} {sin = sin} {sin' = sin} n ed (λ m h. refl) (λ m h. refl) in
    let latlat = even_same c s {cos = cos} {cos' = cos} {sin = sin} {sin' = sin} n ee (λ m h. refl) (λ m h. refl) in
    let lon = across_same c s {cos = cos} {cos' = cos} {sin = sin} {sin' = sin} n ep (λ m h. refl) (λ m h. refl) in
    let lonlon = curve_same c s {cos = cos} {cos' = cos} {sin = sin} {sin' = sin} n ep (λ m h. refl) (λ m h. refl) in
    let latlon = across_same c s {cos = cos} {cos' = cos} {sin = sin} {sin' = sin} n ed (λ m h. refl) (λ m h. refl) in
    rw (v, lat, latlat, lon, lonlon, latlon) refl

-- the sums over the orders below m
module _ (p d dd c s cos sin : ℕ → Float) where
  pub record OrdersBelow (m : ℕ) (v lat latlat lon lonlon latlon : Float) : Type 0 where
    pub of_v : v ≡ running_sum binary64 (even_term p c s cos sin) m zero⁺
    pub of_lat : lat ≡ running_sum binary64 (even_term d c s cos sin) m zero⁺
    pub of_latlat : latlat ≡ running_sum binary64 (even_term dd c s cos sin) m zero⁺
    pub of_lon : lon ≡ running_sum binary64 (across_term p c s cos sin) m zero⁺
    pub of_lonlon : lonlon ≡ running_loss (curve_term p c s cos sin) m
    pub of_latlon : latlon ≡ running_sum binary64 (across_term d c s cos sin) m zero⁺

  pub orders_none : OrdersBelow 0 zero64 zero64 zero64 zero64 zero64 zero64
  unfolding of_bits running_loss
  orders_none = record {
    of_v = running_none binary64 _ zero⁺;
    of_lat = running_none binary64 _ zero⁺;
    of_latlat = running_none binary64 _ zero⁺;
    of_lon = running_none binary64 _ zero⁺;
    of_lonlon = refl;
    of_latlon = running_none binary64 _ zero⁺;
  }

  pub orders_more : (m : ℕ) {v lat latlat lon lonlon latlon here dm em mf : Float} → OrdersBelow m v lat latlat lon lonlon latlon
      → here ≡ p m → dm ≡ d m → em ≡ dd m → mf ≡ of_whole m
      → let both = c m ⊗ cos m ⊕ s m ⊗ sin m in
      let across = mf ⊗ (s m ⊗ cos m ⊖ c m ⊗ sin m) in
      OrdersBelow (m + 1) (v ⊕ here ⊗ both) (lat ⊕ dm ⊗ both) (latlat ⊕ em ⊗ both) (lon ⊕ here ⊗ across) (lonlon ⊖ here ⊗ mf ⊗ mf ⊗ both)
      (latlon ⊕ dm ⊗ across)
  unfolding even_term across_term curve_term
  orders_more m below ep ed ee em =
      let v = running_more binary64 (even_term p c s cos sin) m zero⁺ in
      let lat = running_more binary64 (even_term d c s cos sin) m zero⁺ in
      let latlat = running_more binary64 (even_term dd c s cos sin) m zero⁺ in
      let lon = running_more binary64 (across_term p c s cos sin) m zero⁺ in
      let lonlon = loss_more (curve_term p c s cos sin) m in
      let latlon = running_more binary64 (across_term d c s cos sin) m zero⁺ in
      record {
        of_v = let x = below.of_v in cc;
        of_lat = let x = below.of_lat in cc;
        of_latlat = let x = below.of_latlat in cc;
        of_lon = let x = below.of_lon in cc;
        of_lonlon = let x = below.of_lonlon in cc;
        of_latlon = let x = below.of_latlon in cc;
      }

  pub orders_all : (n : ℕ) {m : ℕ} {v lat latlat lon lonlon latlon : Float} → OrdersBelow m v lat latlat lon lonlon latlon → m ≡ n + 1
      → record { v = v; lat = lat; latlat = latlat; lon = lon; lonlon = lonlon; latlon = latlon } ≡ row_of n p d dd c s cos sin
  unfolding row_of order_sum order_loss
  orders_all n below e =
      rw (below.of_v, below.of_lat, below.of_latlat, below.of_lon, below.of_lonlon, below.of_latlon, e) refl

-- ---- the degrees
-- the sums x with those of degree n over its orders added
abbrev pub with_row : (n : ℕ) (q : Float) → SecondRow → SecondSums → SecondSums
with_row n q row x =
    let fall = neg (of_whole (n + 1)) in
    record {
      power = x.power ⊗ q;
      v = x.v ⊕ x.power ⊗ row.v;
      dr = x.dr ⊕ x.power ⊗ (fall ⊗ row.v);
      dlat = x.dlat ⊕ x.power ⊗ row.lat;
      dlon = x.dlon ⊕ x.power ⊗ row.lon;
      drr = x.drr ⊕ x.power ⊗ (of_whole ((n + 1) * (n + 2)) ⊗ row.v);
      dlatlat = x.dlatlat ⊕ x.power ⊗ row.latlat;
      dlonlon = x.dlonlon ⊕ x.power ⊗ row.lonlon;
      drlat = x.drlat ⊕ x.power ⊗ (fall ⊗ row.lat);
      drlon = x.drlon ⊕ x.power ⊗ (fall ⊗ row.lon);
      dlatlon = x.dlatlon ⊕ x.power ⊗ row.latlon;
    }

-- the next power of q, and the sums over the degrees below n
unfoldable pub sums_below : (q : Float) (P dP ddP c s : ℕ → ℕ → Float) (cos sin : ℕ → Float) (n : ℕ) → SecondSums
sums_below q P dP ddP c s cos sin n = record {
  power = running_power q n;
  v = degree_sum q (even_row P c s cos sin) n;
  dr = degree_sum q (falling (even_row P c s cos sin)) n;
  dlat = degree_sum q (even_row dP c s cos sin) n;
  dlon = degree_sum q (across_row P c s cos sin) n;
  drr = degree_sum q (falling_twice (even_row P c s cos sin)) n;
  dlatlat = degree_sum q (even_row ddP c s cos sin) n;
  dlonlon = degree_sum q (curve_row P c s cos sin) n;
  drlat = degree_sum q (falling (even_row dP c s cos sin)) n;
  drlon = degree_sum q (falling (across_row P c s cos sin)) n;
  dlatlon = degree_sum q (across_row dP c s cos sin) n;
}

module _ (q : Float) (P dP ddP c s : ℕ → ℕ → Float) (cos sin : ℕ → Float) where
  sums_none : (x : SecondSums)
      → x ≡ record {
        power = one64;
        v = zero64;
        dr = zero64;
        dlat = zero64;
        dlon = zero64;
        drr = zero64;
        dlatlat = zero64;
        dlonlon = zero64;
        drlat = zero64;
        drlon = zero64;
        dlatlon = zero64;
      }
      → x ≡ sums_below q P dP ddP c s cos sin 0
  unfolding sums_below degree_sum running_power running_sum of_bits
  sums_none x e = e

  sums_more : (n : ℕ) → with_row n q (row_of n (P n) (dP n) (ddP n) (c n) (s n) cos sin) (sums_below q P dP ddP c s cos sin n)
      ≡ sums_below q P dP ddP c s cos sin (n + 1)
  unfolding row_of sums_below degree_sum degree_term running_power running_sum even_row across_row curve_row falling falling_twice
  sums_more n = last ∙ ap (sums_below q P dP ddP c s cos sin) (sym (add-one n))
    where
      last : with_row n q (row_of n (P n) (dP n) (ddP n) (c n) (s n) cos sin) (sums_below q P dP ddP c s cos sin n)
          ≡ sums_below q P dP ddP c s cos sin (suc n)
      last = refl

-- ---- the lists that a point is worked out in
-- by their lengths, they have room for the degrees and orders up to nmax
pub record SecondRoom (nmax a b w c s sectorals r rows : ℕ) : Type 0 where
  pub top : nmax ≤ 2700
  pub of_a : table_size nmax ≤ a
  pub of_b : table_size nmax ≤ b
  pub of_w : table_size nmax ≤ w
  pub of_c : table_size nmax ≤ c
  pub of_s : table_size nmax ≤ s
  pub of_sectorals : nmax < sectorals
  pub of_r : nmax < r
  pub of_rows : nmax + nmax < rows

-- ---- the degrees of a point
-- the sums over the degrees below n of the field c, s at the latitude with t and u and the longitude whose cosines and sines start at index k
abbrev pub second_sums : (q t u : Float) (k : ℕ) (c s trig : List Float) → ℕ → SecondSums
second_sums q t u k c s trig =
    sums_below q (p_cell (along a_cell) (along b_cell) t u) (dp_cell (along a_cell) (along b_cell) t u) (ddp_cell (along a_cell) (along b_cell) t u)
    (cells c nan) (cells s nan) (cosine_from k trig) (sine_from k trig)

-- they stand in x, row n is the next one, its coefficients start at index at, and the two rows before it stand in the pairs
pub record DegreesBelow (n at : ℕ) (q t u : Float) (k : ℕ) (c s trig rows : List Float) (x : SecondSums) : Type 0 where
  pub start : at ≡ row_start n
  pub last : LastPairs (along a_cell) (along b_cell) t n rows
  pub are : x ≡ second_sums q t u k c s trig n

pub degrees_none : {q t u : Float} {k : ℕ} {c s trig rows : List Float} {x : SecondSums}
    → x ≡ record {
      power = one64;
      v = zero64;
      dr = zero64;
      dlat = zero64;
      dlon = zero64;
      drr = zero64;
      dlatlat = zero64;
      dlonlon = zero64;
      drlat = zero64;
      drlon = zero64;
      dlatlon = zero64;
    }
    → DegreesBelow 0 0 q t u k c s trig rows x
degrees_none e = record { start = sym row_start_zero; last = last_pairs_none; are = sums_none _ _ _ _ _ _ _ _ _ e }

-- the lists have room for degree n
pub record DegreeFits (n N : ℕ) (sectorals r rows : List Float) : Type 0 where
  pub degree : n ≤ N
  pub top : N ≤ 2700
  pub of_sectorals : n < length sectorals
  pub of_r : n < length r
  pub of_rows : n + n < length rows

-- with degree n added
module _ {n at N : ℕ} {q t u : Float} {k : ℕ} {a b w c s trig sectorals rows r l : List Float} {x x' : SecondSums} where
  pub degrees_more : {n' at' : ℕ} → DegreesBelow n at q t u k c s trig rows x → Tabled N a b w → Filled 0 pmm (N + 1) sectorals sectorals
      → Filled 0 (rescale u) (N + 1) r r → DegreeFits n N sectorals r rows
      → Filled 0 (by_rows (next_pair n at t (get_or sectorals n nan) a b rows) 2) (n + n + 1) rows l → x' ≡ with_row n q (row_sums n at k l r w c s trig) x
      → n' ≡ n + 1 → at' ≡ at + n + 1 → DegreesBelow n' at' q t u k c s trig l x'
  unfolding row_sums cells from
  degrees_more {n'} {at'} below tabled sectoral powers room rq ex en ea =
      let P = p_cell (along a_cell) (along b_cell) t u in
      let dP = dp_cell (along a_cell) (along b_cell) t u in
      let ddP = ddp_cell (along a_cell) (along b_cell) t u in
      let cos = cosine_from k trig in
      let sin = sine_from k trig in
      let p = scaled_pair l r in
      let v = from at w nan in
      let place : (m : ℕ) → at + m ≡ idx n m = λ m. ap (λ (i : ℕ). i + m) below.start in
      let within : (m : ℕ) → m < n → idx n m < table_size N = λ m g. idx-within n m N (omega arith) room.degree in
      let last =
      last_pairs_more below.last at a b (λ m g. ap (λ (i : ℕ). get_or a i nan) (place m) ∙ tabled.of_a (idx n m) (within m g))
      (λ m g. ap (λ (i : ℕ). get_or b i nan) (place m) ∙ tabled.of_b (idx n m) (within m g))
      (filled_in {j = n} nan sectoral (omega arith) (sym (zero-add n)) room.of_sectorals) room.of_rows rq in
      let weights = weights_at below.start tabled room.degree in
      let row : (m : ℕ) → m ≤ n → p m ≡ P n m = scaled_pair_is u last powers (omega arith) room.of_r in
      let first : (m : ℕ) → m ≤ n → derived_row n v p m ≡ dP n m = derived_row_is P n v p (omega arith) weights row in
      let second : (m : ℕ) → m ≤ n → derived_row n v (derived_row n v p) m ≡ ddP n m = derived_row_is dP n v (derived_row n v p) (omega arith) weights first in
      rw (en, ea) record {
        start = omega (arith, row_start_more n, below.start);
        last = last;
        are =
            ex
            ∙ ap (λ (y : SecondRow). with_row n q y x) (row_same n (from at c nan) (from at s nan) cos sin row first second)
            ∙ ap (λ (i : ℕ). with_row n q (row_of n (P n) (dP n) (ddP n) (from i c nan) (from i s nan) cos sin) x) below.start
            ∙ ap (with_row n q (row_of n (P n) (dP n) (ddP n) (cells c nan n) (cells s nan n) cos sin)) below.are
            ∙ sums_more q P dP ddP (cells c nan) (cells s nan) cos sin n;
      }

-- as many, said otherwise
pub degrees_to : {n n' at : ℕ} {q t u : Float} {k : ℕ} {c s trig rows : List Float} {x : SecondSums}
    → DegreesBelow n at q t u k c s trig rows x → n ≡ n' → x ≡ second_sums q t u k c s trig n'
degrees_to below e = rw (← e) below.are
