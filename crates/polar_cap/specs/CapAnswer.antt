-- The answer of `polar_cap`: what the ranked places pick from the working list is what the definitions say. Assumes nothing.
use Rattle.std.specs.Prelude.{◌≡◌, take, drop, Float}
use Rattle.std.proofs.Math.Path.{refl, sym, ap, ap₂}
use Rattle.std.proofs.Common.{◌∙◌, length-drop, get_or-take, get_or-drop, length-take-le}
use mathlib.Core.List.{List, map, flatten, map-map}
use Prim.Native.Nat.{ℕ, zero, suc, ◌+◌, ◌-◌, ◌*◌, ◌≤◌, ◌<◌}
use Rattle.std.proofs.Math.Nat.{zero-add, mul-le-mul_right}
use native.Mathlib.Omega.{arith}
use Rattle.std.proofs.Math.ListN.{length, get_or, length-map, length-append}
use Rattle.std.proofs.Math.Seq.{ext_get_or}
use Rattle.std.specs.Float.Ieee.{nan}
use Rattle.number.specs.Float64.{of_whole}
use Rattle.number.specs.Order.{ranks_before}
use Rattle.number.specs.Ranking.{ranking}
use Rattle.storage.specs.Elements.{from, from_zero}
use Rattle.storage.specs.Filled.{Filled, filled_in, filled_same, filled_to}
use Rattle.storage.specs.Tabulate.{tabulate, values, length-tabulate, get_d_tabulate}
use Rattle.storage.specs.Triangle.{table_size}
use Rattle.ranking.specs.Places.{key_before, up_to, ranked_places}
use Rattle.caps.specs.Caps.{degrees}
use Rattle.polar_cap.specs.PolarCap.{in_column, functions_below, functions, coefficient, coefficients, order_of, concentration_of, better_than}
use Rattle.polar_cap.specs.PolarCap.{ranked, cap_orders, cap_concentrations, cap_vectors, vectors_size, cap_work}
use Rattle.ranking.specs.Rankings.{length_places, every-place, every-from, every_at, ranking-map, map_at, map_same, joined, joined-append, joined-ranking}
use Rattle.cap_functions.specs.CapPlaces.{functions_before, numbers_before, concentrations_at, vectors_at, numbers_all, order_within, divided}
use Rattle.polar_cap.specs.CapStorage.{Stored}
use Rattle.cap_functions.specs.CapRanked.{function_at, order_at, start_of, start_at, run_at, picked_order, picked_number, function_at_lem, length_functions, found}
use Rattle.cap_functions.specs.CapRanked.{RunsIn}

-- ---- general
tabulate_same : {A : Type 0} (z : A) (f g : ℕ → A) (n : ℕ) → ((i : ℕ) → i < n → f i ≡ g i) → tabulate f 0 n ≡ tabulate g 0 n
tabulate_same z f g n e =
    let a = length-tabulate f 0 n in
    let b = length-tabulate g 0 n in
    ext_get_or z (tabulate f 0 n) (tabulate g 0 n) (a ∙ sym b)
    (λ i h. get_d_tabulate f 0 n i z (omega arith) ∙ e (0 + i) (omega arith) ∙ sym (get_d_tabulate g 0 n i z (omega arith)))

-- ---- how many numbers all vectors have
module _ (L : ℕ) (x₀ : Float) where
  length-coefficients : (p : ℕ × ℕ) → length (coefficients L x₀ p) ≡ degrees L p.0
  unfolding coefficients
  length-coefficients p =
      let e : degrees L p.0 - 0 ≡ degrees L p.0 = omega arith in
      length-tabulate (coefficient L x₀ p) 0 (degrees L p.0) ∙ e

  order_numbers : (m i k : ℕ) → length (joined (coefficients L x₀) (values (in_column m) i k)) ≡ k * degrees L m
  unfolding values flatten in_column
  order_numbers m i zero = omega arith
  order_numbers m i (suc k) =
      let a = length-append (coefficients L x₀ (m, i)) (joined (coefficients L x₀) (values (in_column m) (suc i) k)) in
      let c = length-coefficients (m, i) in
      let r = order_numbers m (suc i) k in
      omega arith

  below_numbers : (m : ℕ) → length (joined (coefficients L x₀) (functions_below L m)) ≡ numbers_before L m
  unfolding functions_below numbers_before flatten tabulate
  below_numbers zero = refl
  below_numbers (suc m) =
      let o : List (ℕ × ℕ) = tabulate (in_column m) 0 (degrees L m) in
      let j = ap length (joined-append (coefficients L x₀) (functions_below L m) o) in
      let a = length-append (joined (coefficients L x₀) (functions_below L m)) (joined (coefficients L x₀) o) in
      let n : length (joined (coefficients L x₀) o) ≡ (degrees L m - 0) * degrees L m = order_numbers m 0 (degrees L m - 0) in
      let e : (degrees L m - 0) * degrees L m ≡ degrees L m * degrees L m = let z : degrees L m - 0 ≡ degrees L m = omega arith in ap (λ (x : ℕ). x * degrees L m) z in
      j ∙ a ∙ ap₂ (λ (x y : ℕ). x + y) (below_numbers m) (n ∙ e)

  pub length_vectors : (weights lats : List Float) → length (cap_vectors L x₀ weights lats) ≡ vectors_size L
  unfolding cap_vectors ranked functions
  length_vectors weights lats =
      joined-ranking (coefficients L x₀) (better_than L x₀ weights lats) (functions_below L (L + 1)) ∙ below_numbers (L + 1) ∙ numbers_all L

-- ---- from the working list w of all orders, with the n functions' orders os and the starts ss of their vectors
module _ (L : ℕ) (x₀ : Float) (weights lats w : List Float) (n at : ℕ) {total : ℕ} (s : Stored L x₀ weights lats total (L + 1) w) {os ss d e : List ℕ}
    (ro : Filled 0 (order_at L) (table_size L) d os) (rs : Filled 0 (start_at L) (table_size L) e ss) (lo : table_size L ≤ length d)
    (ls : table_size L ≤ length e) (room : cap_work L ≤ length w) (top : L ≤ 180) (en : n ≡ table_size L) (ea : at ≡ concentrations_at L) where
  function_is : (f : ℕ) (h : f < table_size L) → function_at L f ≡ ((found L f h).m, (found L f h).col)
  function_is f h =
      let p = found L f h in
      ap (function_at L) p.place ∙ function_at_lem L p.m p.col p.top p.inside

  order_is : (f : ℕ) → f < table_size L → get_or os f 0 ≡ (function_at L f).0
  unfolding order_at
  order_is f h = filled_in {j = f} 0 ro h (sym (zero-add f)) (omega arith)

  start_is : (f : ℕ) → f < table_size L → get_or ss f 0 ≡ start_of L (function_at L f)
  unfolding start_at
  start_is f h = filled_in {j = f} 0 rs h (sym (zero-add f)) (omega arith)

  run_end : (m col : ℕ) → m ≤ L → col < degrees L m → start_of L (m, col) + degrees L m ≤ length w
  unfolding start_of
  run_end m col h b =
      let o = order_within L m h top in
      let d = divided L top in
      let u = mul-le-mul_right (degrees L m) b in
      omega (arith, u, o.numbers_more, o.numbers_within, d.end)

  pub runs_in : RunsIn L n os ss (length w)
  runs_in = record {
    few = top;
    of_orders = omega (arith, ro.long);
    of_starts = omega (arith, rs.long);
    order = λ f h.
        let b : f < table_size L = omega arith in
        let p = ap (λ (q : ℕ × ℕ). q.0) (function_is f b) in
        let t = (found L f b).top in
        omega (arith, order_is f b);
    inside = λ f h.
        let b : f < table_size L = omega arith in
        let p = found L f b in
        let q = function_is f b in
        let m : get_or os f 0 ≡ p.m = order_is f b ∙ ap (λ (x : ℕ × ℕ). x.0) q in
        let v : get_or ss f 0 ≡ start_of L (p.m, p.col) = start_is f b ∙ ap (start_of L) q in
        let g = ap (degrees L) m in
        omega (arith, run_end p.m p.col p.top p.inside);
  }

  run_is : (f : ℕ) → f < table_size L → run_at L os ss w f ≡ coefficients L x₀ (function_at L f)
  unfolding run_at coefficients start_of from
  run_is f b =
      let p = found L f b in
      let q = function_is f b in
      let m : get_or os f 0 ≡ p.m = order_is f b ∙ ap (λ (x : ℕ × ℕ). x.0) q in
      let v : get_or ss f 0 ≡ start_of L (p.m, p.col) = start_is f b ∙ ap (start_of L) q in
      let k = degrees L p.m in
      ap₂ (λ (x y : ℕ). tabulate (from x w nan) 0 (degrees L y)) v m
      ∙ tabulate_same nan (from (start_of L (p.m, p.col)) w nan) (coefficient L x₀ (p.m, p.col)) k
      (λ i h.
      let a : vectors_at L + (numbers_before L p.m + p.col * k) + i ≡ vectors_at L + (numbers_before L p.m + (p.col * k + i)) = omega arith in
      ap (λ (x : ℕ). get_or w x nan) a ∙ s.vectors p.m p.col i (omega (arith, p.top)) p.inside h)
      ∙ ap (coefficients L x₀) (sym q)

  -- the concentrations, as the keys of the ranking
  abbrev keys : List Float
  keys = take n (drop at w)

  length-keys : length keys ≡ table_size L
  length-keys = let d = divided L top in length-take-le n (drop at w) (omega (arith, length-drop at w, d.vectors_at_lem, d.end)) ∙ en

  key_is : (f : ℕ) → f < table_size L → get_or w (at + f) nan ≡ concentration_of L x₀ weights lats (function_at L f)
  unfolding concentration_of
  key_is f b =
      let p = found L f b in
      let a : at + f ≡ concentrations_at L + (functions_before L p.m + p.col) = omega (arith, p.place) in
      ap (λ (x : ℕ). get_or w x nan) a
      ∙ s.concentrations p.m p.col (omega (arith, p.top)) p.inside
      ∙ ap (concentration_of L x₀ weights lats) (sym (function_is f b))

  key_at : (f : ℕ) → f < table_size L → get_or keys f nan ≡ concentration_of L x₀ weights lats (function_at L f)
  key_at f b = get_or-take n (drop at w) f nan (omega arith) ∙ get_or-drop at w f nan ∙ key_is f b

  all_functions : map (function_at L) (up_to 0 (length keys)) ≡ functions L
  unfolding function_at
  all_functions =
      let k = length-keys in
      let t = length-tabulate (λ i. i) 0 (length keys) in
      let a = length-map (up_to 0 (length keys)) (function_at L) in
      let l = length_functions L in
      ext_get_or (0, 0) (map (function_at L) (up_to 0 (length keys))) (functions L) (omega arith)
      (λ i h.
      map_at (function_at L) (up_to 0 (length keys)) i (0, 0) 0 (omega arith)
      ∙ ap (function_at L) (get_d_tabulate (λ i. i) 0 (length keys) i 0 (omega arith) ∙ zero-add i))

  -- the functions at the ranked places are the ranked functions
  ranked_is : map (function_at L) (ranked_places keys) ≡ ranked L x₀ weights lats
  unfolding ranked_places ranked key_before better_than
  ranked_is =
      ranking-map (λ f. f < length keys) (key_before keys) (function_at L) (better_than L x₀ weights lats)
      (λ i j h g.
      ap₂ (λ (x y : Float). ranks_before x y) (key_at i (omega (arith, h, length-keys))) (key_at j (omega (arith, g, length-keys))))
      (up_to 0 (length keys))
      (every-from (λ f. f < length keys) 0 (up_to 0 (length keys))
      (λ i b.
      let t = length-tabulate (λ i. i) 0 (length keys) in
      let a = get_d_tabulate (λ i. i) 0 (length keys) i 0 (omega arith) in
      omega arith))
      ∙ ap (ranking (better_than L x₀ weights lats)) all_functions

  place-below : (i : ℕ) → i < n → get_or (ranked_places keys) i 0 < table_size L
  place-below i h =
      let k = length-keys in
      let l = length_places keys in
      let g = every_at (λ f. f < length keys) 0 (ranked_places keys) (every-place keys) i (omega arith) in
      omega arith

  -- what f is of the ranked functions
  picked : (f : ℕ × ℕ → Float) (i : ℕ) → i < n → f (function_at L (get_or (ranked_places keys) i 0)) ≡ from 0 (map f (ranked L x₀ weights lats)) nan i
  picked f i h =
      let k = length-keys in
      let l = length_places keys in
      let a = length-map (ranked_places keys) (function_at L) in
      sym
      (from_zero (map f (ranked L x₀ weights lats)) nan i
      ∙ ap (λ (t : List (ℕ × ℕ)). get_or (map f t) i nan) (sym ranked_is)
      ∙ map_at f (map (function_at L) (ranked_places keys)) i nan (0, 0) (omega arith)
      ∙ ap f (map_at (function_at L) (ranked_places keys) i (0, 0) 0 (omega arith)))

  pub orders_picked : {o o' : List Float} → Filled 0 (picked_order (ranked_places keys) os) n o o' → Filled 0 (from 0 (cap_orders L x₀ weights lats) nan) (table_size L) o o'
  unfolding picked_order cap_orders order_of
  orders_picked r =
      filled_to
      (filled_same (from 0 (cap_orders L x₀ weights lats) nan) r
      (λ i h. ap of_whole (order_is (get_or (ranked_places keys) i 0) (place-below i h)) ∙ picked order_of i h))
      en

  pub concentrations_picked : {o o' : List Float} → Filled 0 (picked_number at (ranked_places keys) w) n o o'
      → Filled 0 (from 0 (cap_concentrations L x₀ weights lats) nan) (table_size L) o o'
  unfolding picked_number cap_concentrations
  concentrations_picked r =
      filled_to
      (filled_same (from 0 (cap_concentrations L x₀ weights lats) nan) r
      (λ i h. key_is (get_or (ranked_places keys) i 0) (place-below i h) ∙ picked (concentration_of L x₀ weights lats) i h))
      en

  vectors_are : joined (run_at L os ss w) (ranked_places keys) ≡ cap_vectors L x₀ weights lats
  unfolding cap_vectors
  vectors_are =
      ap flatten
      (map_same (λ f. f < length keys) (run_at L os ss w) (λ f. coefficients L x₀ (function_at L f)) (λ f h. run_is f (omega (arith, h, length-keys)))
      (ranked_places keys) (every-place keys)
      ∙ sym (map-map (coefficients L x₀) (function_at L) (ranked_places keys))
      ∙ ap (map (coefficients L x₀)) ranked_is)

  pub numbers_are : length (joined (run_at L os ss w) (ranked_places keys)) ≡ vectors_size L
  numbers_are = ap length vectors_are ∙ length_vectors L x₀ weights lats

  pub vectors_picked : {o o' : List Float}
      → Filled 0 (from 0 (joined (run_at L os ss w) (ranked_places keys)) nan) (length (joined (run_at L os ss w) (ranked_places keys))) o o'
      → Filled 0 (from 0 (cap_vectors L x₀ weights lats) nan) (vectors_size L) o o'
  vectors_picked {o} {o'} r =
      filled_to (filled_same (from 0 (cap_vectors L x₀ weights lats) nan) r (λ i h. ap (λ (t : List Float). from 0 t nan i) vectors_are)) numbers_are
