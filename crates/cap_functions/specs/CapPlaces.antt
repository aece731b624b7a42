-- Where the functions of a cap and the numbers of their vectors stand, order after order, and where both stand in the working list. Assumes nothing.
use Rattle.std.specs.Prelude.{◌≡◌, refl, ℕ, zero, suc, ◌+◌, ◌-◌, ◌*◌, ◌/◌, ◌≤◌, ◌<◌}
use Rattle.std.proofs.Common.{sym, ap, ◌∙◌, mul-le-mul, le_refl, add-zero, add-suc, add-one, arith}
use Rattle.storage.specs.Triangle.{row_start, table_size, table_size_lem, row_start_more, row_start_monotone}
use Rattle.caps.specs.Caps.{degrees}
use Rattle.cap_functions.specs.Functions.{vectors_size, cap_work}

-- how many functions the orders below m have, and how many numbers their vectors
unfoldable pub functions_before : ℕ → ℕ → ℕ
functions_before L zero = 0
functions_before L (suc m) = functions_before L m + degrees L m

unfoldable pub numbers_before : ℕ → ℕ → ℕ
numbers_before L zero = 0
numbers_before L (suc m) = numbers_before L m + degrees L m * degrees L m

-- the cells of a k by k matrix, for k up to 181
pub record Square (k r : ℕ) : Type 0 where
  pub is : r ≡ k * k
  pub small : r ≤ 32761

-- where the concentrations stand in the working list, behind the tables and the solver's numbers, and where the vectors
unfoldable pub concentrations_at : ℕ → ℕ
concentrations_at L = table_size L + table_size L + ((L + 1) * (L + 1) + 4 * (L + 1))

unfoldable pub vectors_at : ℕ → ℕ
vectors_at L = concentrations_at L + table_size L

pub before_zero : (L : ℕ) → (functions_before L 0 ≡ 0) × (numbers_before L 0 ≡ 0)
unfolding functions_before numbers_before
before_zero L = (refl, refl)

functions_suc : (L m : ℕ) → functions_before L (suc m) ≡ functions_before L m + degrees L m
unfolding functions_before
functions_suc L m = refl

numbers_suc : (L m : ℕ) → numbers_before L (suc m) ≡ numbers_before L m + degrees L m * degrees L m
unfolding numbers_before
numbers_suc L m = refl

-- 1² + 2² + .. + n²
squares : ℕ → ℕ
squares n = n * (n + 1) * (2 * n + 1) / 6

squares_suc : (n : ℕ) → squares (n + 1) ≡ squares n + (n + 1) * (n + 1)
unfolding squares
squares_suc n = omega arith

vectors_size_lem : (L : ℕ) → vectors_size L ≡ squares (L + 1)
unfolding vectors_size squares
vectors_size_lem L = let e : (L + 1) * (L + 2) * (2 * L + 3) ≡ (L + 1) * (L + 1 + 1) * (2 * (L + 1) + 1) = omega arith in ap (λ (x : ℕ). x / 6) e

-- what the orders from m on have is left
functions_left : (L m : ℕ) → m ≤ L + 1 → functions_before L m + row_start (L + 1 - m) ≡ table_size L
functions_left L zero h = let e : L + 1 - 0 ≡ L + 1 = omega arith in omega (arith, (before_zero L).0, ap row_start e)
functions_left L (suc m) h =
    let e : L + 1 - m ≡ L - m + 1 = omega arith in
    let g : L + 1 - suc m ≡ L - m = omega arith in
    omega (arith, functions_suc L m, functions_left L m (omega arith), row_start_more (L - m), ap row_start e, ap row_start g)

numbers_left : (L m : ℕ) → m ≤ L + 1 → numbers_before L m + squares (L + 1 - m) ≡ vectors_size L
numbers_left L zero h = let e : L + 1 - 0 ≡ L + 1 = omega arith in omega (arith, (before_zero L).1, ap squares e, vectors_size_lem L)
numbers_left L (suc m) h =
    let e : L + 1 - m ≡ L - m + 1 = omega arith in
    let g : L + 1 - suc m ≡ L - m = omega arith in
    omega (arith, numbers_suc L m, numbers_left L m (omega arith), squares_suc (L - m), ap squares e, ap squares g)

-- ---- the bounds
functions_up : (L m k : ℕ) → functions_before L m ≤ functions_before L (m + k)
functions_up L m zero = rw add-zero (le_refl (functions_before L m))
functions_up L m (suc k) = rw add-suc (omega (arith, functions_up L m k, functions_suc L (m + k)))

numbers_up : (L m k : ℕ) → numbers_before L m ≤ numbers_before L (m + k)
numbers_up L m zero = rw add-zero (le_refl (numbers_before L m))
numbers_up L m (suc k) = rw add-suc (omega (arith, numbers_up L m k, numbers_suc L (m + k)))

-- an order below another has its functions and numbers before those of the other
pub record Before (L j m : ℕ) : Type 0 where
  pub functions : functions_before L j + degrees L j ≤ functions_before L m
  pub numbers : numbers_before L j + degrees L j * degrees L j ≤ numbers_before L m

pub before : (L j m : ℕ) → j < m → Before L j m
before L j m h =
    let e : suc j + (m - suc j) ≡ m = omega arith in
    record {
      functions = omega (arith, functions_up L (suc j) (m - suc j), functions_suc L j, ap (functions_before L) e);
      numbers = omega (arith, numbers_up L (suc j) (m - suc j), numbers_suc L j, ap (numbers_before L) e);
    }

-- what a loop over the orders knows at order m: a record, whose fields `omega` finds
pub record Order (L m : ℕ) : Type 0 where
  pub functions_more : functions_before L (m + 1) ≡ functions_before L m + degrees L m
  pub functions_within : functions_before L (m + 1) ≤ table_size L
  pub numbers_more : numbers_before L (m + 1) ≡ numbers_before L m + degrees L m * degrees L m
  pub numbers_within : numbers_before L (m + 1) ≤ vectors_size L
  pub functions_small : table_size L ≤ 16471
  pub numbers_small : vectors_size L ≤ 1992991
  pub cells : degrees L m * degrees L m ≤ (L + 1) * (L + 1)

-- how large the products are
pub record Products (L : ℕ) : Type 0 where
  pub square : (L + 1) * (L + 1) ≤ 32761
  pub two : (L + 1) * (L + 2) ≤ 32942
  pub three : (L + 1) * (L + 2) * (2 * L + 3) ≤ 11957946

pub products : (L : ℕ) → L ≤ 180 → Products L
products L h =
    let a = mul-le-mul {n₁ = L + 1} {m₁ = L + 2} {n₂ = 181} {m₂ = 182} (omega arith) (omega arith) in
    record {
      square = mul-le-mul {n₁ = L + 1} {m₁ = L + 1} {n₂ = 181} {m₂ = 181} (omega arith) (omega arith);
      two = a;
      three = mul-le-mul {n₁ = (L + 1) * (L + 2)} {m₁ = 2 * L + 3} {n₂ = 32942} {m₂ = 363} a (omega arith);
    }

squares_most : (L : ℕ) → L ≤ 180 → vectors_size L ≤ 1992991
unfolding vectors_size
squares_most L h = let p = products L h in omega (arith, p.three)

functions_most : (L : ℕ) → L ≤ 180 → table_size L ≤ 16471
unfolding row_start
functions_most L h = row_start_monotone (L + 1) 181 (omega arith)

pub order_within : (L m : ℕ) → m ≤ L → L ≤ 180 → Order L m
order_within L m h b =
    let e = add-one m in
    record {
      functions_more = ap (functions_before L) e ∙ functions_suc L m;
      functions_within = omega (arith, functions_left L (m + 1) (omega arith));
      numbers_more = ap (numbers_before L) e ∙ numbers_suc L m;
      numbers_within = omega (arith, numbers_left L (m + 1) (omega arith));
      functions_small = functions_most L b;
      numbers_small = squares_most L b;
      cells = mul-le-mul {n₁ = degrees L m} {m₁ = degrees L m} {n₂ = L + 1} {m₂ = L + 1} (omega arith) (omega arith);
    }

-- all orders together
pub functions_all : (L : ℕ) → functions_before L (L + 1) ≡ table_size L
unfolding row_start
functions_all L = let e : L + 1 - (L + 1) ≡ 0 = omega arith in omega (arith, functions_left L (L + 1) (omega arith), ap row_start e)

pub numbers_all : (L : ℕ) → numbers_before L (L + 1) ≡ vectors_size L
unfolding squares
numbers_all L = let e : L + 1 - (L + 1) ≡ 0 = omega arith in omega (arith, numbers_left L (L + 1) (omega arith), ap squares e)

-- how the working list is divided
pub record Divided (L : ℕ) : Type 0 where
  pub concentrations_at_lem : concentrations_at L ≡ table_size L + table_size L + ((L + 1) * (L + 1) + 4 * (L + 1))
  pub vectors_at_lem : vectors_at L ≡ concentrations_at L + table_size L
  pub end : vectors_at L + vectors_size L ≤ cap_work L
  pub cells_small : (L + 1) * (L + 1) ≤ 32761
  pub work_small : cap_work L ≤ 3000000

pub divided : (L : ℕ) → L ≤ 180 → Divided L
unfolding concentrations_at vectors_at cap_work
divided L h =
    let s = (products L h).square in
    let f = functions_most L h in
    let v = squares_most L h in
    record {
      concentrations_at_lem = refl;
      vectors_at_lem = refl;
      end = omega arith;
      cells_small = s;
      work_small = omega (arith, s, f, v);
    }

-- the sizes of a call, and where the concentrations stand in its working list
pub record Sized (L functions numbers at work : ℕ) : Type 0 where
  pub of_functions : functions ≡ table_size L
  pub of_numbers : numbers ≡ vectors_size L
  pub of_concentrations : at ≡ concentrations_at L
  pub of_work : work ≡ cap_work L

pub sized : (L : ℕ) {f : ℕ} → f ≡ (L + 1) * (L + 2) / 2
    → Sized L f ((L + 1) * (L + 2) * (2 * L + 3) / 6) (f + f + ((L + 1) * (L + 1) + 4 * (L + 1)))
    (3 * f + 4 * ((L + 1) * (L + 1)) + 5 * (L + 1) + f + f + (L + 1) * (L + 2) * (2 * L + 3) / 6)
unfolding vectors_size concentrations_at cap_work
sized L {f} e =
    let t = e ∙ sym (table_size_lem L) in
    record { of_functions = t; of_numbers = refl; of_concentrations = rw t refl; of_work = rw t refl }

-- the lengths of the lists that every order is lent
pub record CapRoom (L weights lats rescales g column work orders concentrations vectors : ℕ) : Type 0 where
  pub top : L ≤ 180
  pub of_weights : L < weights
  pub of_latitudes : L + L + 1 < lats
  pub of_rescales : L < rescales
  pub of_matrix_lem : (L + 1) * (L + 1) ≤ g
  pub of_column : L < column
  pub of_work : cap_work L ≤ work
  pub of_orders : table_size L ≤ orders
  pub of_concentrations : table_size L ≤ concentrations
  pub of_vectors : vectors_size L ≤ vectors

pub room_kept : {L weights lats rescales g column work orders concentrations vectors rescales' g' column' work' orders' concentrations' vectors' : ℕ}
    → CapRoom L weights lats rescales g column work orders concentrations vectors → rescales' ≡ rescales → g' ≡ g → column' ≡ column → work' ≡ work
    → orders' ≡ orders → concentrations' ≡ concentrations → vectors' ≡ vectors
    → CapRoom L weights lats rescales' g' column' work' orders' concentrations' vectors'
room_kept r a b c d e f h = rw (a, b, c, d, e, f, h) r

-- what one order asks for: k functions, of which the concentrations are stored from index f on and the vectors from index v on
pub record OrderRoom (L m k total f v g column work orders concentrations vectors : ℕ) : Type 0 where
  pub few : k ≤ 181
  pub all_degrees : m + k ≡ L + 1
  pub of_matrix_lem : k * k ≤ g
  pub of_column : k ≤ column
  pub of_solver : total + total + (k * k + 4 * k) ≤ work
  pub before_stored : total + total + (k * k + 4 * k) ≤ concentrations_at L
  pub of_orders : k ≤ orders
  pub of_concentrations : k ≤ concentrations
  pub of_vectors : k * k ≤ vectors
  pub of_tables : total + row_start (m + k) + m < work
  pub in_functions : k ≤ table_size L
  pub in_numbers : k * k ≤ vectors_size L
  pub apart : f + k ≤ v
  pub behind : total + total ≤ f
  pub end : v + k * k ≤ cap_work L
  pub of_store : v + k * k ≤ work

pub order_room : {L m k total f v weights lats rescales g column work orders concentrations vectors : ℕ}
    → CapRoom L weights lats rescales g column work orders concentrations vectors → m ≤ L → k ≡ degrees L m → total ≡ table_size L
    → f ≡ concentrations_at L + functions_before L m → v ≡ vectors_at L + numbers_before L m
    → OrderRoom L m k total f v g column work orders concentrations vectors
order_room {L} {m} {k} {total} r h ek et ef ev =
    let o = order_within L m h r.top in
    let d = divided L r.top in
    let cells = ap (λ (x : ℕ). x * x) ek in
    let all : m + k ≡ L + 1 = omega arith in
    let rows = ap row_start all in
    record {
      few = omega (arith, r.top);
      all_degrees = all;
      of_matrix_lem = omega (arith, cells, o.cells, r.of_matrix_lem);
      of_column = omega (arith, r.of_column);
      of_solver = omega (arith, cells, o.cells, d.concentrations_at_lem, d.vectors_at_lem, d.end, r.of_work);
      before_stored = omega (arith, cells, o.cells, d.concentrations_at_lem);
      of_orders = omega (arith, o.functions_more, o.functions_within, r.of_orders);
      of_concentrations = omega (arith, o.functions_more, o.functions_within, r.of_concentrations);
      of_vectors = omega (arith, cells, o.numbers_more, o.numbers_within, r.of_vectors);
      of_tables = omega (arith, rows, d.concentrations_at_lem, d.vectors_at_lem, d.end, r.of_work);
      in_functions = omega (arith, o.functions_more, o.functions_within);
      in_numbers = omega (arith, cells, o.numbers_more, o.numbers_within);
      apart = omega (arith, o.functions_more, o.functions_within, d.vectors_at_lem);
      behind = omega (arith, d.concentrations_at_lem);
      end = omega (arith, cells, o.numbers_more, o.numbers_within, d.end);
      of_store = omega (arith, cells, o.numbers_more, o.numbers_within, d.end, r.of_work);
    }
