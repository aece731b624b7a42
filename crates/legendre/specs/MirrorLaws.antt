-- Change request W6, on what calls hand back, whatever their lists held: with the sine t negated and the cosine u kept, entry (n, m) of the table is the
-- old one times (-1) ^ (n - m), and of the first derivative times (-1) ^ (n - m + 1), for all numbers t and u and all tables a and b. Assumes nothing.
use Rattle.std.specs.Prelude.{◌≡◌, Bool, true, false, cond, List, ℕ, ◌+◌, ◌-◌, ◌≤◌, T, eqb, ltb, length, get_or, take, Float, Ok, Result, ⊤}
use Rattle.std.proofs.Common.{sym, ◌∙◌, subst, subst₂, zero-add, le_refl, arith, get_or-take}
use Rattle.std.proofs.Math.Path.{ap}
use Rattle.std.specs.Float.Ieee.{nan, fits, neg}
use Rattle.std.specs.Float.{binary64}
use Rattle.std.specs.Float.Ieee.Fits.{mul-fits}
use Rattle.std.specs.Float.Ieee.Bits.{of_bits-fits}
use Rattle.number.specs.Float64.{◌⊖◌, ◌⊗◌, zero64}
use Rattle.number.specs.Parity.{is_odd, minus_one_to, minus_one_to_lem}
use Rattle.number.specs.Turned.{Turned, Alike, turned_if, turned_alike, turned_times, turned_back, turned_twice}
use Rattle.refusal.specs.Numbers.{after}
use Rattle.storage.specs.Answers.{size_is}
use Rattle.storage.specs.Checks.{outputs_check, tables_done, Outputs, outputs_passed}
use Rattle.storage.specs.Elements.{from}
use Rattle.storage.specs.Fill.{fill, fill_same, fill_again}
use Rattle.storage.specs.Filled.{filled, filled_standing, filled_length}
use Rattle.storage.specs.Triangle.{idx, table_size, along, along_same, cells, cells_along, rows_at, idx-within}
use Rattle.recursion.specs.Recursion.{p_cell}
use Rattle.recursion.specs.Mirror.{p_mirror}
use Rattle.derivative.specs.Derivative.{half64, lower_of, upper_of, zonal_of, d_cell, dp_cell}
use Rattle.derivative.specs.Mirror.{p_each, dp_mirror}
use Rattle.legendre.specs.Checks.{compute_check, mirror_check, compute_done, compute_passed, mirror_done, mirror_passed}
use Rattle.legendre.specs.Mirrored.{mirrored_row, mirrored}
use Rattle.refusal.specs.declared.Refusal.{Refusal}

-- `compute` at t and u with the lists a, b and p answers r and leaves p': its promise, which is proved by way of this record
pub record Compute (N : ℕ) (t u : Float) (a b p : List Float) (r : Result ⊤ Refusal) (p' : List Float) : Type 0 where
  pub answers : r ≡ compute_check N (length a) (length b) (length p)
  pub leaves : p' ≡ after r (fill 0 (along (p_cell (from 0 a nan) (from 0 b nan) t u)) (table_size N) p) p

-- `compute_with_derivative` likewise, with the lists p and dp
pub record Derive (N : ℕ) (t u : Float) (a b p dp : List Float) (r : Result ⊤ Refusal) (p' dp' : List Float) : Type 0 where
  pub answers : r ≡ outputs_check N (length a) (length b) N (length p) (length dp)
  pub leaves : p' ≡ after r (fill 0 (along (p_cell (from 0 a nan) (from 0 b nan) t u)) (table_size N) p) p
  pub leaves_derivative : dp' ≡ after r (fill 0 (along (dp_cell (from 0 a nan) (from 0 b nan) t u)) (table_size N) dp) dp

-- `mirror` likewise, where shift is 0, and `mirror_derivative`, where it is 1
pub record Mirror (shift N : ℕ) (table : List Float) (r : Result ⊤ Refusal) (table' : List Float) : Type 0 where
  pub answers : r ≡ mirror_check N (length table)
  pub leaves : table' ≡ after r (fill 0 (along (mirrored shift table)) (table_size N) table) table

-- the promises as the calls state them
pub compute_promise : (N : ℕ) (t u : Float) (a b p : List Float) {p' : List Float} {r : Result ⊤ Refusal} → Compute N t u a b p r p'
    → (r ≡ compute_check N (length a) (length b) (length p))
    × (p' ≡ after r (fill 0 (along (p_cell (from 0 a nan) (from 0 b nan) t u)) (table_size N) p) p)
compute_promise N t u a b p w = (w.answers, w.leaves)

pub derive_promise : (N : ℕ) (t u : Float) (a b p dp : List Float) {p' dp' : List Float} {r : Result ⊤ Refusal} → Derive N t u a b p dp r p' dp'
    → (r ≡ outputs_check N (length a) (length b) N (length p) (length dp))
    × ((p' ≡ after r (fill 0 (along (p_cell (from 0 a nan) (from 0 b nan) t u)) (table_size N) p) p)
    × (dp' ≡ after r (fill 0 (along (dp_cell (from 0 a nan) (from 0 b nan) t u)) (table_size N) dp) dp))
derive_promise N t u a b p dp w = (w.answers, (w.leaves, w.leaves_derivative))

pub mirror_promise : {shift N : ℕ} {table table' : List Float} {r : Result ⊤ Refusal} → Mirror shift N table r table'
    → (r ≡ mirror_check N (length table)) × (table' ≡ after r (fill 0 (along (mirrored shift table)) (table_size N) table) table)
mirror_promise w = (w.answers, w.leaves)

-- ---- tables at the front of lists
-- l is d with the table of f up to degree N at its front
record Table (f : ℕ → ℕ → Float) (N : ℕ) (d l : List Float) : Type 0 where
  made : l ≡ fill 0 (along f) (table_size N) d
  room : table_size N ≤ length d

module _ {f : ℕ → ℕ → Float} {N : ℕ} {d l : List Float} (w : Table f N d l) where
  entry_is : (n m : ℕ) → m ≤ n → n ≤ N → get_or l (idx n m) nan ≡ f n m
  entry_is n m h g =
      let i = idx-within n m N h g in
      rows_at f n m nan (filled 0 (along f) (table_size N) d w.made) h (sym (zero-add (idx n m))) i (omega (arith, i, w.room))

  -- the table itself, which is what the mirrors take
  table_length : length (take (table_size N) l) ≡ table_size N
  table_length = filled_length (filled 0 (along f) (table_size N) d w.made) w.room

-- of two of them the second has the entries of the first, each times (-1) to the power e
module _ {f g : ℕ → ℕ → Float} {N : ℕ} {d l d' l' : List Float} (w : Table f N d l) (w' : Table g N d' l') (e : ℕ → ℕ → ℕ)
    (each : (n m : ℕ) → m ≤ n → Turned (is_odd (e n m)) (f n m) (g n m)) (n m : ℕ) (h : m ≤ n) (k : n ≤ N) where
  entries_turned : Turned (is_odd (e n m)) (get_or l (idx n m) nan) (get_or l' (idx n m) nan)
  entries_turned = subst₂ (λ (x y : Float). Turned (is_odd (e n m)) x y) (sym (entry_is w n m h k)) (sym (entry_is w' n m h k)) (each n m h)

  entries_times : T (fits binary64 (f n m)) → Alike (get_or l' (idx n m) nan) (get_or l (idx n m) nan ⊗ minus_one_to (e n m))
  entries_times fit =
      rw minus_one_to_lem (turned_times (is_odd (e n m)) (subst (λ (x : Float). T (fits binary64 x)) (sym (entry_is w n m h k)) fit) entries_turned)

-- what the mirror makes of one of them, which it takes
module _ {f : ℕ → ℕ → Float} {N : ℕ} {d l : List Float} (top : N ≤ 2700) (w : Table f N d l) (shift : ℕ) {r : Result ⊤ Refusal} {x : List Float}
    (by : Mirror shift N (take (table_size N) l) r x) where
  mirror_answers : r ≡ Ok tt
  mirror_answers = by.answers ∙ sym (mirror_done N (length (take (table_size N) l)) top (table_length w))

  mirror_table : Table (mirrored shift (take (table_size N) l)) N (take (table_size N) l) x
  mirror_table =
      let table = take (table_size N) l in record {
        made = by.leaves ∙ ap (λ (z : Result ⊤ Refusal). after z (fill 0 (along (mirrored shift table)) (table_size N) table) table) mirror_answers;
        room = omega (arith, table_length w);
      }

  mirror_entry : (n m : ℕ) → m ≤ n → n ≤ N → get_or x (idx n m) nan ≡ turned_if (is_odd (n - m + shift)) (f n m)
  unfolding mirrored mirrored_row cells
  mirror_entry n m h k =
      entry_is mirror_table n m h k
      ∙ ap (turned_if (is_odd (n - m + shift))) (get_or-take (table_size N) l (idx n m) nan (idx-within n m N h k) ∙ entry_is w n m h k)

  -- is the other, where the entries of the other are its own with their signs turned
  entries_mirror : {g : ℕ → ℕ → Float} {d' l' : List Float} → Table g N d' l'
      → ((n m : ℕ) → m ≤ n → Turned (is_odd (n - m + shift)) (f n m) (g n m)) → (n m : ℕ) → m ≤ n → n ≤ N → Alike (get_or x (idx n m) nan) (get_or l' (idx n m) nan)
  entries_mirror w' each n m h k =
      subst₂ Alike (sym (mirror_entry n m h k)) (sym (entry_is w' n m h k)) (turned_alike (turned_back (is_odd (n - m + shift)) (each n m h)))

-- ---- the values
p_fits : (a b : ℕ → Float) (t u : Float) (n m : ℕ) → T (fits binary64 (p_cell a b t u n m))
unfolding p_cell
p_fits a b t u n m = mul-fits binary64 _ _

-- what `compute` leaves where it is done
computed : {N : ℕ} {t u : Float} {a b p p' : List Float} → Compute N t u a b p (Ok tt) p' → Table (p_cell (from 0 a nan) (from 0 b nan) t u) N p p'
computed {N} {a = a} {b} {p} w = record { made = w.leaves; room = (compute_passed N (length a) (length b) (length p) w.answers).room }

module _ (N : ℕ) (t u : Float) {a b p p' q q' : List Float} (north : Compute N t u a b p (Ok tt) p') (south : Compute N (neg t) u a b q (Ok tt) q') where
  -- entry (n, m) at -t is that at t, with its sign turned where n - m is odd
  pub compute_turned : (n m : ℕ) → m ≤ n → n ≤ N → Turned (is_odd (n - m)) (get_or p' (idx n m) nan) (get_or q' (idx n m) nan)
  compute_turned n m h k = entries_turned (computed north) (computed south) (λ i j. i - j) (λ i j l. p_mirror (from 0 a nan) (from 0 b nan) t u i j) n m h k

  -- in the request's words: it is the old one times (-1) ^ (n - m), zeros equal whatever their sign and NaN as NaN
  pub compute_mirror : (n m : ℕ) → m ≤ n → n ≤ N → Alike (get_or q' (idx n m) nan) (get_or p' (idx n m) nan ⊗ minus_one_to (n - m))
  compute_mirror n m h k =
      entries_times (computed north) (computed south) (λ i j. i - j) (λ i j l. p_mirror (from 0 a nan) (from 0 b nan) t u i j) n m h k
      (p_fits (from 0 a nan) (from 0 b nan) t u n m)

  -- so what `mirror` makes of the table at t, which it takes, is the table at -t
  pub mirror_computes : {r : Result ⊤ Refusal} {x : List Float} → Mirror 0 N (take (table_size N) p') r x
      → (r ≡ Ok tt) × ((n m : ℕ) → m ≤ n → n ≤ N → Alike (get_or x (idx n m) nan) (get_or q' (idx n m) nan))
  mirror_computes by =
      let top = (compute_passed N (length a) (length b) (length p) north.answers).tables.top in
      let each = p_each (from 0 a nan) (from 0 b nan) t u in
      (mirror_answers top (computed north) 0 by, entries_mirror top (computed north) 0 by (computed south) each)

-- ---- the derivatives
d_fits : (s : ℕ → ℕ → Float) (n m : ℕ) → T (fits binary64 (d_cell s n m))
unfolding d_cell
d_fits s n m = go (eqb n 0) (eqb m 0) (ltb m n)
  where
    go : (v w z : Bool)
        → T (fits binary64 (cond v zero64 (cond w (zonal_of n ⊗ s n 1) (neg half64 ⊗ (lower_of n m ⊗ s n (m - 1) ⊖ cond z (upper_of n m ⊗ s n (m + 1)) zero64)))))
    go true w z = of_bits-fits binary64 0
    go false true z = mul-fits binary64 _ _
    go false false z = mul-fits binary64 _ _

module _ {N : ℕ} {t u : Float} {a b p dp p' dp' : List Float} (w : Derive N t u a b p dp (Ok tt) p' dp') where
  passed : Outputs N (length a) (length b) N (length p) (length dp)
  passed = outputs_passed N (length a) (length b) N (length p) (length dp) w.answers

  size : table_size N ≤ length dp
  size = let z = size_is N passed.tables.top in omega (arith, z, passed.second)

  -- the values are those of `compute`
  pub derive_computes : Compute N t u a b p (Ok tt) p'
  derive_computes =
      let t = passed.tables in
      let z = size_is N t.top in record {
        answers = compute_done N (length a) (length b) (length p) (tables_done N (length a) (length b) t.top t.c t.s) (omega (arith, z, passed.first));
        leaves = w.leaves;
      }

  derived : Table (dp_cell (from 0 a nan) (from 0 b nan) t u) N dp dp'
  derived = record { made = w.leaves_derivative; room = size }

module _ (N : ℕ) (t u : Float) {a b p dp p' dp' q dq q' dq' : List Float} (north : Derive N t u a b p dp (Ok tt) p' dp')
    (south : Derive N (neg t) u a b q dq (Ok tt) q' dq') where
  -- entry (n, m) of the derivative at -t is that at t, with its sign turned where n - m + 1 is odd
  pub derive_turned : (n m : ℕ) → m ≤ n → n ≤ N → Turned (is_odd (n - m + 1)) (get_or dp' (idx n m) nan) (get_or dq' (idx n m) nan)
  derive_turned n m h k = entries_turned (derived north) (derived south) (λ i j. i - j + 1) (dp_mirror (from 0 a nan) (from 0 b nan) t u) n m h k

  -- in the request's words: it is the old one times (-1) ^ (n - m + 1), zeros equal whatever their sign and NaN as NaN
  pub derive_mirror : (n m : ℕ) → m ≤ n → n ≤ N → Alike (get_or dq' (idx n m) nan) (get_or dp' (idx n m) nan ⊗ minus_one_to (n - m + 1))
  derive_mirror n m h k =
      entries_times (derived north) (derived south) (λ i j. i - j + 1) (dp_mirror (from 0 a nan) (from 0 b nan) t u) n m h k
      (d_fits (p_cell (from 0 a nan) (from 0 b nan) t u) n m)

  -- so what `mirror_derivative` makes of the table at t, which it takes, is the table at -t
  pub mirror_derives : {r : Result ⊤ Refusal} {x : List Float} → Mirror 1 N (take (table_size N) dp') r x
      → (r ≡ Ok tt) × ((n m : ℕ) → m ≤ n → n ≤ N → Alike (get_or x (idx n m) nan) (get_or dq' (idx n m) nan))
  mirror_derives by =
      let top = (passed north).tables.top in
      let each = dp_mirror (from 0 a nan) (from 0 b nan) t u in
      (mirror_answers top (derived north) 1 by, entries_mirror top (derived north) 1 by (derived south) each)

-- ---- twice
-- a table that is mirrored twice is what it was, zeros with their signs
pub mirror_twice : (shift N : ℕ) {table x y : List Float} → Mirror shift N table (Ok tt) x → Mirror shift N x (Ok tt) y → y ≡ table
unfolding mirrored mirrored_row cells
mirror_twice shift N {table} {x} by again =
    let whole = (mirror_passed N (length table) by.answers).whole in
    let once : Table (mirrored shift table) N table x = record { made = by.leaves; room = omega (arith, whole) } in
    let back : (n m : ℕ) → m ≤ n → n ≤ N → mirrored shift x n m ≡ cells table nan n m =
    λ n m h k. ap (turned_if (is_odd (n - m + shift))) (entry_is once n m h k) ∙ turned_twice (is_odd (n - m + shift)) (get_or table (idx n m) nan) in
    let stands = filled_standing {F = along (cells table nan)} nan 0 table (table_size N)
    (λ k b. ap (λ (i : ℕ). get_or table i nan) (zero-add k) ∙ sym (cells_along table nan k)) in
    again.leaves
    ∙ fill_same 0 (along (mirrored shift x)) (along (cells table nan)) (table_size N) x (along_same (mirrored shift x) (cells table nan) N back)
    ∙ ap (fill 0 (along (cells table nan)) (table_size N)) by.leaves
    ∙ fill_again 0 (along (mirrored shift table)) (along (cells table nan)) (table_size N) (table_size N) table (le_refl (table_size N))
    ∙ sym stands.is
