-- The functions of a cap by their places: the order and the vector of the function at each place, and what the ranked places pick. Assumes nothing.
use Rattle.std.specs.Prelude.{◌≡◌, Bool, List, ◌++◌, take, Float}
use Rattle.std.proofs.Math.Path.{refl, sym, ap}
use Rattle.std.proofs.Common.{◌∙◌, eq-or-lt_of_le, not-suc-le-zero}
use Rattle.std.proofs.Math.Bool.{true, false}
use Rattle.std.proofs.Math.Logic.{⊎_elim}
use Prim.Native.Nat.{ℕ, zero, suc, ◌+◌, ◌-◌, ◌*◌, ◌≤◌, ◌<◌}
use Rattle.std.proofs.Math.Nat.{zero-add}
use native.Mathlib.Omega.{arith}
use Rattle.std.proofs.Math.Dec.{ltb}
use borrow.Author.Tests.{ltb-true, ltb-false}
use Rattle.std.proofs.Math.ListN.{length, get_or, length-append, get_or-append}
use Rattle.std.proofs.Math.Seq.{get_or-append-add}
use Rattle.std.specs.Float.Ieee.{nan}
use Rattle.number.specs.Float64.{of_whole}
use Rattle.storage.specs.Elements.{from, from_zero}
use Rattle.storage.specs.Filled.{Filled, filled_join, filled_same}
use Rattle.storage.specs.Tabulate.{tabulate, length-tabulate, get_d_tabulate}
use Rattle.storage.specs.Triangle.{table_size}
use Rattle.caps.specs.Caps.{degrees}
use Rattle.cap_functions.specs.Functions.{in_column, functions_below, functions}
use Rattle.ranking.specs.Rankings.{joined, joined_more, joined-within, joined_at}
use Rattle.ranking.specs.RankedIn.{PlacesIn, RankedIn}
use Rattle.cap_functions.specs.CapPlaces.{functions_before, numbers_before, vectors_at, before, functions_all}

-- the function at a place
unfoldable pub function_at : ℕ → ℕ → ℕ × ℕ
function_at L f = get_or (functions L) f (0, 0)

-- its order, and where its vector begins in the working list
unfoldable pub order_at : ℕ → ℕ → ℕ
order_at L f = (function_at L f).0

unfoldable pub start_of : ℕ → ℕ × ℕ → ℕ
start_of L p = vectors_at L + (numbers_before L p.0 + p.1 * degrees L p.0)

unfoldable pub start_at : ℕ → ℕ → ℕ
start_at L f = start_of L (function_at L f)

-- the numbers that stand from the start of a function's vector on
unfoldable pub run_at : ℕ → List ℕ → List ℕ → List Float → ℕ → List Float
run_at L orders starts work f = tabulate (from (get_or starts f 0) work nan) 0 (degrees L (get_or orders f 0))

-- what the loop over the ranked places picks: orders, and numbers of the working list from index at on
unfoldable pub picked_order : List ℕ → List ℕ → ℕ → Float
picked_order places orders i = of_whole (get_or orders (get_or places i 0) 0)

unfoldable pub picked_number : ℕ → List ℕ → List Float → ℕ → Float
picked_number at places work i = get_or work (at + get_or places i 0) nan

-- n functions have their orders, and their vectors within a working list of so many numbers
pub record RunsIn (L n : ℕ) (orders starts : List ℕ) (work : ℕ) : Type 0 where
  pub few : L ≤ 180
  pub of_orders : n ≤ length orders
  pub of_starts : n ≤ length starts
  pub order : (f : ℕ) → f < n → get_or orders f 0 ≤ L
  pub inside : (f : ℕ) → f < n → get_or starts f 0 + degrees L (get_or orders f 0) ≤ work

-- the same for the columns of one order: m for each, and starts that are k apart
unfoldable pub same_order : ℕ → ℕ → ℕ
same_order m col = m

unfoldable pub apart_by : ℕ → ℕ → ℕ → ℕ
apart_by v k col = v + col * k

module _ (L : ℕ) where
  length-below : (m : ℕ) → length (functions_below L m) ≡ functions_before L m
  unfolding functions_below functions_before
  length-below zero = refl
  length-below (suc m) =
      let e : degrees L m - 0 ≡ degrees L m = omega arith in
      let n = length-tabulate (in_column m) 0 (degrees L m) in
      let a = length-append (functions_below L m) (tabulate (in_column m) 0 (degrees L m)) in
      let r = length-below m in
      omega arith

  below_at : (n m col : ℕ) → m < n → col < degrees L m → get_or (functions_below L n) (functions_before L m + col) (0, 0) ≡ (m, col)
  unfolding functions_below in_column
  below_at zero m col h b = absurd (not-suc-le-zero h)
  below_at (suc n) m col h b =
      let long = length-below n in
      ⊎_elim
      (λ e.
      let at : functions_before L m + col ≡ length (functions_below L n) + col = ap (λ (x : ℕ). x + col) (ap (functions_before L) e ∙ sym long) in
      ap (λ (i : ℕ). get_or (functions_below L n ++ tabulate (in_column n) 0 (degrees L n)) i (0, 0)) at
      ∙ get_or-append-add (functions_below L n) (tabulate (in_column n) 0 (degrees L n)) col (0, 0)
      ∙ get_d_tabulate (in_column n) 0 (degrees L n) col (0, 0) (omega (arith, ap (degrees L) e, zero-add col))
      ∙ ap (in_column n) (zero-add col)
      ∙ ap (λ (x : ℕ). (x, col)) (sym e))
      (λ l.
      let c = before L m n l in
      get_or-append (functions_below L n) (tabulate (in_column n) 0 (degrees L n)) (0, 0) (functions_before L m + col) (omega (arith, c.functions, long))
      ∙ below_at n m col l b)
      (eq-or-lt_of_le {n = m} {m = n} (omega arith))

  pub function_at_lem : (m col : ℕ) → m ≤ L → col < degrees L m → function_at L (functions_before L m + col) ≡ (m, col)
  unfolding function_at functions
  function_at_lem m col h b = below_at (L + 1) m col (omega arith) b

  pub length_functions : length (functions L) ≡ table_size L
  unfolding functions
  length_functions = length-below (L + 1) ∙ functions_all L

  -- every place is that of an order and a column
  pub record Found (f : ℕ) : Type 0 where
    pub m : ℕ
    pub col : ℕ
    pub top : m ≤ L
    pub inside : col < degrees L m
    pub place : f ≡ functions_before L m + col

  found_below : (n f : ℕ) → n ≤ L + 1 → f < functions_before L n → Found f
  unfolding functions_before
  found_below zero f h b = absurd (not-suc-le-zero b)
  found_below (suc n) f h b =
      pick (ltb f (functions_before L n)) refl (λ l. found_below n f (omega arith) l)
    where
      pick : (x : Bool) → ltb f (functions_before L n) ≡ x → (f < functions_before L n → Found f) → Found f
      pick true e r = r (ltb-true f (functions_before L n) e)
      pick false e r =
          let g = ltb-false f (functions_before L n) e in
          record { m = n; col = f - functions_before L n; top = omega arith; inside = omega arith; place = omega arith }

  pub found : (f : ℕ) → f < table_size L → Found f
  found f h = found_below (L + 1) f (omega arith) (omega (arith, functions_all L))

-- ---- the loops' laws
module _ (L m : ℕ) (h : m ≤ L) where
  -- the orders and the starts of order m behind those before it
  pub orders_more : {f k : ℕ} {d l l' : List ℕ} → Filled 0 (order_at L) (functions_before L m) d l → Filled f (same_order m) k l l' → f ≡ functions_before L m
      → k ≡ degrees L m → Filled 0 (order_at L) (functions_before L m + k) d l'
  unfolding order_at same_order
  orders_more {f} r s e g =
      filled_join r s (e ∙ sym (zero-add (functions_before L m)))
      (λ col b. ap (λ (p : ℕ × ℕ). p.0) (function_at_lem L m col h (omega arith)))

  pub starts_more : {f k v : ℕ} {d l l' : List ℕ} → Filled 0 (start_at L) (functions_before L m) d l → Filled f (apart_by v k) k l l' → f ≡ functions_before L m
      → k ≡ degrees L m → v ≡ vectors_at L + numbers_before L m → Filled 0 (start_at L) (functions_before L m + k) d l'
  unfolding start_at start_of apart_by
  starts_more {f} {k} {v} r s e g u =
      filled_join r s (e ∙ sym (zero-add (functions_before L m)))
      (λ col b.
      let at : vectors_at L + (numbers_before L m + col * degrees L m) ≡ v + col * k = omega (arith, u, ap (λ (x : ℕ). col * x) g) in
      ap (start_of L) (function_at_lem L m col h (omega arith)) ∙ at)

-- one vector more, of those in the order of the places
module _ (L n : ℕ) (orders starts places : List ℕ) (work : List Float) (p : PlacesIn n places) (i : ℕ) (h : i < n) {v k : ℕ}
    (ev : v ≡ length (joined (run_at L orders starts work) (take i places))) (ek : k ≡ degrees L (get_or orders (get_or places i 0) 0)) where
  length_run : length (run_at L orders starts work (get_or places i 0)) ≡ k
  unfolding run_at
  length_run =
      let f = get_or places i 0 in
      let e : degrees L (get_or orders f 0) - 0 ≡ degrees L (get_or orders f 0) = omega arith in
      length-tabulate (from (get_or starts f 0) work nan) 0 (degrees L (get_or orders f 0)) ∙ e ∙ sym ek

  run_at_lem : (j : ℕ) → j < degrees L (get_or orders (get_or places i 0) 0)
      → get_or (run_at L orders starts work (get_or places i 0)) j nan ≡ from (get_or starts (get_or places i 0) 0) work nan j
  unfolding run_at
  run_at_lem j b =
      get_d_tabulate (from (get_or starts (get_or places i 0) 0) work nan) 0 (degrees L (get_or orders (get_or places i 0) 0)) j nan (omega arith)
      ∙ ap (from (get_or starts (get_or places i 0) 0) work nan) (zero-add j)

  pub run_more : v + k ≡ length (joined (run_at L orders starts work) (take (i + 1) places))
  run_more =
      let g = run_at L orders starts work in
      let e = length-append (joined g (take i places)) (g (get_or places i 0)) in
      let r = length_run in
      let m = ap length (joined_more g places i 0 (omega (arith, p.long))) in
      omega arith

  pub run_within : v + k ≤ length (joined (run_at L orders starts work) (take n places))
  run_within =
      let r = length_run in
      let m = joined-within (run_at L orders starts work) places i n 0 h (omega (arith, p.long)) in
      omega arith

  pub run_filled : {d l l' : List Float} → Filled 0 (from 0 (joined (run_at L orders starts work) (take n places)) nan) v d l
      → Filled v (from (get_or starts (get_or places i 0) 0) work nan) k l l'
      → Filled 0 (from 0 (joined (run_at L orders starts work) (take n places)) nan) (v + k) d l'
  run_filled r s =
      let g = run_at L orders starts work in
      let f = get_or places i 0 in
      let J = joined g (take n places) in
      filled_join r s (sym (zero-add v))
      (λ j b.
      from_zero J nan (v + j)
      ∙ ap (λ (x : ℕ). get_or J (x + j) nan) ev
      ∙ joined_at g places i n 0 j nan h (omega (arith, p.long)) (omega (arith, length_run))
      ∙ run_at_lem j (omega (arith, ek)))

-- ---- the ranked places
module _ {n : ℕ} {P places : List ℕ} (r : RankedIn n P places) where
  pub picked_orders : (orders : List ℕ) {d l : List Float} → Filled 0 (picked_order places orders) n d l → Filled 0 (picked_order P orders) n d l
  unfolding picked_order
  picked_orders orders s = filled_same (picked_order P orders) s (λ i b. ap (λ (x : ℕ). of_whole (get_or orders x 0)) (r.at i b))

  pub picked_numbers : (at : ℕ) (work : List Float) {d l : List Float} → Filled 0 (picked_number at places work) n d l
      → Filled 0 (picked_number at P work) n d l
  unfolding picked_number
  picked_numbers at work s = filled_same (picked_number at P work) s (λ i b. ap (λ (x : ℕ). get_or work (at + x) nan) (r.at i b))
