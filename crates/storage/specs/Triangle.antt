-- Triangular storage, row by row: row n holds the orders m = 0 .. n of degree n, and the rows follow each other. Assumes nothing.
use Rattle.std.specs.Prelude.{◌≡◌, refl, cond, List, ℕ, zero, suc, ◌+◌, ◌-◌, ◌*◌, ◌/◌, ◌≤◌, ◌<◌, eqb, length, get_or}
use Rattle.std.proofs.Common.{sym, ap, ◌∙◌, subst, ⊎_elim, zero-le, eq-or-lt_of_le, le_of_suc-le-suc, lt_of_not-le, add-zero, add-suc, add-sub_of_le, add-one, arith, eq-eqb, ne_eqb}
use Rattle.storage.specs.Filled.{Filled, filled_to, filled_join, filled_in, filled_same}

-- where row n starts: how many entries the rows below n have
unfoldable pub row_start : ℕ → ℕ
row_start n = n * (n + 1) / 2

-- the index of degree n and order m
abbrev pub idx : ℕ → ℕ → ℕ
idx n m = row_start n + m

-- how many entries a table up to degree N has, T for short
abbrev pub table_size : ℕ → ℕ
table_size N = row_start (N + 1)

pub row_start_zero : row_start 0 ≡ 0
unfolding row_start
row_start_zero = refl

pub row_start_one : row_start 1 ≡ 1
unfolding row_start
row_start_one = refl

row_start_suc : (n : ℕ) → row_start (suc n) ≡ row_start n + n + 1
unfolding row_start
row_start_suc n = omega arith

pub row_start_more : (n : ℕ) → row_start (n + 1) ≡ row_start n + n + 1
row_start_more n = rw (add-one n) (row_start_suc n)

pub row_start_least : (n : ℕ) → n ≤ row_start n
row_start_least zero = zero-le
row_start_least (suc n) = omega (arith, row_start_suc n, row_start_least n)

-- a row's start from those of the two rows before it, also where there is no such row
pub row_start_last : (n : ℕ) → row_start n ≡ row_start (n - 1) + n
unfolding row_start
row_start_last zero = refl
row_start_last (suc n) = let e : suc n - 1 ≡ n = omega arith in omega (arith, row_start_suc n, ap row_start e)

pub row_start_last_2 : (n : ℕ) → row_start n ≡ row_start (n - 2) + n + (n - 1)
row_start_last_2 n = let e : n - 1 - 1 ≡ n - 2 = omega arith in omega (arith, row_start_last n, row_start_last (n - 1), ap row_start e)

row_start_add : (n k : ℕ) → row_start n ≤ row_start (n + k)
row_start_add n zero = rw add-zero (omega arith)
row_start_add n (suc k) = rw add-suc (omega (arith, row_start_add n k, row_start_suc (n + k)))

pub row_start_monotone : (n k : ℕ) → n ≤ k → row_start n ≤ row_start k
row_start_monotone n k h = subst (λ (j : ℕ). row_start n ≤ row_start j) (add-sub_of_le h) (row_start_add n (k - n))

pub table_size_lem : (N : ℕ) → table_size N ≡ (N + 1) * (N + 2) / 2
unfolding row_start
table_size_lem N = let e : N + 1 + 1 ≡ N + 2 = omega arith in ap (λ (j : ℕ). (N + 1) * j / 2) e

pub table_size_most : (N : ℕ) → N ≤ 2700 → table_size N ≤ 3649051
unfolding row_start
table_size_most N h = row_start_monotone (N + 1) 2701 (omega arith)

-- what a loop over the rows of a table up to degree top knows in row n: a record, whose fields `omega` finds
pub record RowWithin (n top : ℕ) : Type 0 where
  pub more : row_start (n + 1) ≡ row_start n + n + 1
  pub within : row_start (n + 1) ≤ table_size top
  pub small : table_size top ≤ 3649051
  pub far : n + (n - 1) ≤ row_start n

pub row_within : (n top : ℕ) → n ≤ top → top ≤ 2700 → RowWithin n top
row_within n top h b = record {
  more = row_start_more n;
  within = row_start_monotone (n + 1) (top + 1) (omega arith);
  small = table_size_most top b;
  far = omega (arith, row_start_last_2 n);
}

-- the index of a valid pair is within a table up to degree N exactly where the degree is
pub idx-within : (n m N : ℕ) → m ≤ n → n ≤ N → idx n m < table_size N
idx-within n m N h l = omega (arith, row_start_more n, row_start_monotone (n + 1) (N + 1) (omega arith))

pub idx_degree : (n m N : ℕ) → idx n m < table_size N → n ≤ N
idx_degree n m N l = le_of_suc-le-suc (lt_of_not-le {n = suc N} {m = n} (λ g. omega (arith, row_start_monotone (N + 1) n (omega arith))))

-- the degree and the order after (n, m) along the storage
abbrev next : ℕ × ℕ → ℕ × ℕ
next s = cond (eqb s.1 s.0) (s.0 + 1, 0) (s.0, s.1 + 1)

-- the degree and the order of the entry at index k, by counting
unfoldable pub degree_order : ℕ → ℕ × ℕ
degree_order zero = (0, 0)
degree_order (suc k) = next (degree_order k)

-- the table of f along its storage
unfoldable pub along : {A : Type 0} → (ℕ → ℕ → A) → ℕ → A
along f k = f (degree_order k).0 (degree_order k).1

-- its rows from row n on
unfoldable pub rows_from : {A : Type 0} → (ℕ → ℕ → A) → ℕ → ℕ → A
rows_from f n k = along f (row_start n + k)

next_in : (n m : ℕ) → m < n → next (n, m) ≡ (n, m + 1)
next_in n m h = simp (ne_eqb m n (λ e. omega arith))

next_end : (n : ℕ) → next (n, n) ≡ (n + 1, 0)
next_end n = simp (eq-eqb n n refl)

in_row_lem : (n : ℕ) → degree_order (row_start n) ≡ (n, 0) → (m : ℕ) → m ≤ n → degree_order (row_start n + m) ≡ (n, m)
unfolding degree_order
in_row_lem n start zero h = rw add-zero start
in_row_lem n start (suc m) h = rw add-suc (ap next (in_row_lem n start m (omega arith)) ∙ next_in n m h ∙ ap (λ (j : ℕ). (n, j)) (add-one m))

at_start : (n : ℕ) → degree_order (row_start n) ≡ (n, 0)
unfolding degree_order
at_start zero = rw row_start_zero
at_start (suc n) =
    let e : row_start (suc n) ≡ suc (row_start n + n) = omega (arith, row_start_suc n) in
    rw e (ap next (in_row_lem n (at_start n) n (omega arith)) ∙ next_end n ∙ ap (λ (j : ℕ). (j, 0)) (add-one n))

pub degree_order_idx : (n m : ℕ) → m ≤ n → degree_order (idx n m) ≡ (n, m)
degree_order_idx n m h = in_row_lem n (at_start n) m h

-- two pairs at one index are the same pair
pub idx_injective : (n m n' m' : ℕ) → m ≤ n → m' ≤ n' → idx n m ≡ idx n' m' → (n ≡ n') × (m ≡ m')
idx_injective n m n' m' h h' e =
    let p : ◌≡◌ {A = ℕ × ℕ} (n, m) (n', m') = sym (degree_order_idx n m h) ∙ ap degree_order e ∙ degree_order_idx n' m' h' in
    (ap (λ (s : ℕ × ℕ). s.0) p, ap (λ (s : ℕ × ℕ). s.1) p)

-- s is a degree and an order that does not exceed it, and its index is k
abbrev StandsAt : ℕ → ℕ × ℕ → Type 0
StandsAt k s = (s.1 ≤ s.0) × (idx s.0 s.1 ≡ k)

next_stands : (k n m : ℕ) → StandsAt k (n, m) → StandsAt (suc k) (next (n, m))
next_stands k n m (h, e) =
    ⊎_elim
    (λ x. subst (StandsAt (suc k)) (sym (ap next (ap (λ (j : ℕ). (n, j)) x) ∙ next_end n)) (zero-le, omega (arith, row_start_more n)))
    (λ x. subst (StandsAt (suc k)) (sym (next_in n m x)) (omega arith, omega arith))
    (eq-or-lt_of_le h)

-- every index is that of its degree and its order
pub idx_degree_order : (k : ℕ) → ((degree_order k).1 ≤ (degree_order k).0) × (idx (degree_order k).0 (degree_order k).1 ≡ k)
unfolding degree_order
idx_degree_order zero = (zero-le, rw row_start_zero refl)
idx_degree_order (suc k) = next_stands k (degree_order k).0 (degree_order k).1 (idx_degree_order k)

pub along-idx : {A : Type 0} (f : ℕ → ℕ → A) (n m : ℕ) → m ≤ n → along f (idx n m) ≡ f n m
unfolding along
along-idx f n m h = ap (λ (s : ℕ × ℕ). f s.0 s.1) (degree_order_idx n m h)

-- two tables that agree at every degree up to N agree along their storage
pub along_same : {A : Type 0} (f g : ℕ → ℕ → A) (N : ℕ) → ((n m : ℕ) → m ≤ n → n ≤ N → f n m ≡ g n m) → (k : ℕ) → k < table_size N → along f k ≡ along g k
unfolding along
along_same f g N e k h =
    let (b, i) = idx_degree_order k in
    e (degree_order k).0 (degree_order k).1 b (idx_degree (degree_order k).0 (degree_order k).1 N (omega arith))

-- what a list holds at degree n and order m, with z past its end
unfoldable pub cells : {A : Type 0} → List A → A → ℕ → ℕ → A
cells l z n m = get_or l (idx n m) z

-- along the storage they are the list
pub cells_along : {A : Type 0} (l : List A) (z : A) (k : ℕ) → along (cells l z) k ≡ get_or l k z
unfolding along cells
cells_along l z k = let (h, e) = idx_degree_order k in ap (λ (i : ℕ). get_or l i z) e

module _ {A : Type 0} (f : ℕ → ℕ → A) (n : ℕ) {at k : ℕ} {d l : List A} where
  -- row n written after the rows below it, in a table that starts at index at
  pub rows_more : {at' j : ℕ} {l' : List A} → Filled at (along f) k d l → Filled at' (f n) j l l' → k ≡ row_start n → at' ≡ at + k → j ≡ n + 1
      → Filled at (along f) (row_start (n + 1)) d l'
  rows_more {at'} {j} r s e p h =
      filled_to (filled_join r s p (λ i b. rw e (along-idx f n i (omega arith)))) (omega (arith, row_start_more n))

  -- what stands at (n, m) of a table whose first k entries are written
  pub rows_at : {i : ℕ} (m : ℕ) (z : A) → Filled at (along f) k d l → m ≤ n → i ≡ at + idx n m → idx n m < k → i < length d → get_or l i z ≡ f n m
  rows_at {i} m z r h p b c = filled_in z r b p c ∙ along-idx f n m h

-- row n written after the rows from row s on, which start at index at
pub rows_from_more : {A : Type 0} (f : ℕ → ℕ → A) (n s : ℕ) {at at' j : ℕ} {d l l' : List A} → at ≡ row_start s → s ≤ n
    → Filled at (rows_from f s) (row_start n - at) d l → Filled at' (f n) j l l' → at' ≡ row_start n → j ≡ n + 1
    → Filled at (rows_from f s) (row_start (n + 1) - at) d l'
unfolding rows_from
rows_from_more f n s {at} {at'} {j} e h r g p q =
    let m = row_start_monotone s n h in
    let same : (i : ℕ) → i < j → along f (row_start s + (row_start n - at + i)) ≡ f n i =
    λ i b. ap (along f) (omega arith) ∙ along-idx f n i (omega arith) in
    filled_to (filled_join r g (omega arith) same) (omega (arith, row_start_more n))

-- the rows from row 0 on are the table
pub rows_from_zero : {A : Type 0} (f : ℕ → ℕ → A) (N : ℕ) {d l : List A} → Filled 0 (rows_from f 0) (table_size N - 0) d l → Filled 0 (along f) (table_size N) d l
unfolding rows_from
rows_from_zero f N r = filled_same (along f) (filled_to r (omega arith)) (λ i b. ap (along f) (omega (arith, row_start_zero)))
