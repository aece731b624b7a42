-- The places of the basis, one by one: which function stands at place r of a degree, and that degree l begins at place l * l. Assumes nothing.
use Rattle.std.specs.Prelude.{◌≡◌, refl, Bool, true, false, cond, List, [], ◌∷◌, ◌++◌, ℕ, zero, suc, ◌+◌, ◌-◌, ◌*◌, ◌/◌, ◌%◌, ◌≤◌, ◌<◌, eqb, ltb, length, get_or}
use Rattle.std.proofs.Common.{sym, ap, ap₂, ◌∙◌, ⊎_elim, eq-or-lt_of_le, not-suc-le-zero, mul-le-mul, add-one, arith, length-append, get_or-append-add, eq-eqb, ne_eqb, eqb-true, ltb-true, ltb-false}
use Rattle.std.proofs.Math.ListN.{get_or-append}
use Rattle.std.proofs.lemmas.Bool.{eqb-false}
use Rattle.region_nodes.specs.Basis.{basic, pairs, basis_row, basis_below, basis, basis_size, basic_at, place_of, in_degree}

-- the order of the function at place r of its degree, and whether it is a sine
unfoldable pub order_in : ℕ → ℕ
order_in r = (r + 1) / 2

unfoldable pub sine_in : ℕ → Bool
sine_in r = cond (eqb r 0) false (eqb (r % 2) 0)

-- ---- within a degree: 1 at place 0, the cosine of order m at place 2m - 1, its sine at 2m
order_cosine : (r m : ℕ) → r + 1 ≡ m + m → order_in r ≡ m
unfolding order_in
order_cosine r m e = omega arith

order_sine : (r m : ℕ) → r ≡ m + m → order_in r ≡ m
unfolding order_in
order_sine r m e = omega arith

pub sine_zero : sine_in 0 ≡ false
unfolding sine_in
sine_zero = refl

sine_cosine : (r m : ℕ) → r + 1 ≡ m + m → sine_in r ≡ false
unfolding sine_in
sine_cosine r m e = simp (ne_eqb r 0 (λ z. omega arith), ne_eqb (r % 2) 0 (λ z. omega arith))

sine_sine : (r m : ℕ) → r ≡ m + m → 0 < m → sine_in r ≡ true
unfolding sine_in
sine_sine r m e h = simp (ne_eqb r 0 (λ z. omega arith), eq-eqb (r % 2) 0 (omega arith))

-- the order at a place of degree l is one of the degree's
pub order_within : (r l : ℕ) → r ≤ l + l → order_in r ≤ l
unfolding order_in
order_within r l h = omega arith

in_zero : (sine : Bool) → in_degree 0 sine ≡ 0
unfolding in_degree
in_zero sine = refl

in_cosine : (m : ℕ) → 0 < m → in_degree m false ≡ m + m - 1
unfolding in_degree
in_cosine m h = simp (ne_eqb m 0 (λ z. omega arith))

in_sine : (m : ℕ) → 0 < m → in_degree m true ≡ m + m
unfolding in_degree
in_sine m h = simp (ne_eqb m 0 (λ z. omega arith))

-- the place of the function at place r is r
pub in_degree_lem : (r : ℕ) → in_degree (order_in r) (sine_in r) ≡ r
unfolding in_degree order_in sine_in
in_degree_lem zero = refl
in_degree_lem (suc r) = pick (eqb (suc r % 2) 0) refl
  where
    pick : (x : Bool) → eqb (suc r % 2) 0 ≡ x → in_degree (order_in (suc r)) (sine_in (suc r)) ≡ suc r
    pick true e =
        let m = suc r / 2 in
        let z = eqb-true (suc r % 2) 0 e in
        let h : suc r ≡ m + m = omega arith in
        ap₂ in_degree (order_sine (suc r) m h) (sine_sine (suc r) m h (omega arith)) ∙ in_sine m (omega arith) ∙ sym h
    pick false e =
        let m = (suc r + 1) / 2 in
        let z = eqb-false (suc r % 2) 0 e in
        let h : suc r + 1 ≡ m + m = omega arith in
        let g : m + m - 1 ≡ suc r = omega arith in
        ap₂ in_degree (order_cosine (suc r) m h) (sine_cosine (suc r) m h) ∙ in_cosine m (omega arith) ∙ g

-- and the function at the place of order m is of that order, a sine where one was asked for
pub order_in_lem : (m : ℕ) (sine : Bool) → order_in (in_degree m sine) ≡ m
order_in_lem zero sine = ap order_in (in_zero sine) ∙ order_sine 0 0 refl
order_in_lem (suc m) false =
    let e : suc m + suc m - 1 + 1 ≡ suc m + suc m = omega arith in
    ap order_in (in_cosine (suc m) (omega arith)) ∙ order_cosine (suc m + suc m - 1) (suc m) e
order_in_lem (suc m) true = ap order_in (in_sine (suc m) (omega arith)) ∙ order_sine (suc m + suc m) (suc m) refl

pub sine_in_lem : (m : ℕ) → sine_in (in_degree m false) ≡ false
sine_in_lem zero = ap sine_in (in_zero false) ∙ sine_zero
sine_in_lem (suc m) =
    let e : suc m + suc m - 1 + 1 ≡ suc m + suc m = omega arith in
    ap sine_in (in_cosine (suc m) (omega arith)) ∙ sine_cosine (suc m + suc m - 1) (suc m) e

sine_in_true : (m : ℕ) → 0 < m → sine_in (in_degree m true) ≡ true
sine_in_true m h = ap sine_in (in_sine m h) ∙ sine_sine (m + m) m refl h

pub in_within : (m l : ℕ) (sine : Bool) → m ≤ l → in_degree m sine ≤ l + l
in_within zero l sine h = omega (arith, in_zero sine)
in_within (suc m) l false h = omega (arith, in_cosine (suc m) (omega arith))
in_within (suc m) l true h = omega (arith, in_sine (suc m) (omega arith))

-- ---- the lists
length_pairs : (l m : ℕ) → length (pairs l m) ≡ m + m
unfolding pairs
length_pairs l zero = refl
length_pairs l (suc m) =
    let a = length-append (pairs l m) (basic l (suc m) false ∷ basic l (suc m) true ∷ []) in
    let two : length (basic l (suc m) false ∷ basic l (suc m) true ∷ []) ≡ 2 = refl in
    let r = length_pairs l m in
    omega arith

length-row : (l : ℕ) → length (basis_row l) ≡ l + l + 1
unfolding basis_row
length-row l = let r = length_pairs l l in omega arith

length-below : (l : ℕ) → length (basis_below l) ≡ l * l
unfolding basis_below
length-below zero = refl
length-below (suc l) =
    let a = length-append (basis_below l) (basis_row l) in
    let r = length-row l in
    let b = length-below l in
    omega arith

pub length-basis : (L : ℕ) → length (basis L) ≡ basis_size L
unfolding basis basis_size
length-basis L = length-below (L + 1)

pairs_at : (l m j : ℕ) → j < m + m → get_or (pairs l m) j (basic 0 0 false) ≡ basic l (order_in (j + 1)) (sine_in (j + 1))
unfolding pairs
pairs_at l zero j h = absurd (not-suc-le-zero h)
pairs_at l (suc m) j h =
    let two = basic l (suc m) false ∷ basic l (suc m) true ∷ [] in
    let long = length_pairs l m in
    ⊎_elim
    (λ e.
    let at : j ≡ length (pairs l m) + 1 = omega arith in
    ap (λ (i : ℕ). get_or (pairs l m ++ two) i (basic 0 0 false)) at
    ∙ get_or-append-add (pairs l m) two 1 (basic 0 0 false)
    ∙ sym (ap₂ (basic l) (order_sine (j + 1) (suc m) (omega arith)) (sine_sine (j + 1) (suc m) (omega arith) (omega arith))))
    (λ b.
    ⊎_elim
    (λ e.
    let at : j ≡ length (pairs l m) + 0 = omega arith in
    ap (λ (i : ℕ). get_or (pairs l m ++ two) i (basic 0 0 false)) at
    ∙ get_or-append-add (pairs l m) two 0 (basic 0 0 false)
    ∙ sym (ap₂ (basic l) (order_cosine (j + 1) (suc m) (omega arith)) (sine_cosine (j + 1) (suc m) (omega arith))))
    (λ k. get_or-append (pairs l m) two (basic 0 0 false) j (omega arith) ∙ pairs_at l m j (omega arith))
    (eq-or-lt_of_le {n = j} {m = m + m} (omega arith)))
    (eq-or-lt_of_le {n = j} {m = m + m + 1} (omega arith))

row_at : (l r : ℕ) → r ≤ l + l → get_or (basis_row l) r (basic 0 0 false) ≡ basic l (order_in r) (sine_in r)
unfolding basis_row
row_at l zero h = sym (ap₂ (basic l) (order_sine 0 0 refl) sine_zero)
row_at l (suc r) h = pairs_at l l r (omega arith) ∙ ap (λ (i : ℕ). basic l (order_in i) (sine_in i)) (add-one r)

below_at : (n l r : ℕ) → l < n → r ≤ l + l → get_or (basis_below n) (l * l + r) (basic 0 0 false) ≡ basic l (order_in r) (sine_in r)
unfolding basis_below
below_at zero l r h b = absurd (not-suc-le-zero h)
below_at (suc n) l r h b =
    let long = length-below n in
    ⊎_elim
    (λ e.
    let at : l * l + r ≡ length (basis_below n) + r = ap (λ (x : ℕ). x + r) (ap (λ (x : ℕ). x * x) e ∙ sym long) in
    ap (λ (i : ℕ). get_or (basis_below n ++ basis_row n) i (basic 0 0 false)) at
    ∙ get_or-append-add (basis_below n) (basis_row n) r (basic 0 0 false)
    ∙ row_at n r (omega arith)
    ∙ ap (λ (x : ℕ). basic x (order_in r) (sine_in r)) (sym e))
    (λ k.
    let m = mul-le-mul k k in
    get_or-append (basis_below n) (basis_row n) (basic 0 0 false) (l * l + r) (omega arith) ∙ below_at n l r k b)
    (eq-or-lt_of_le {n = l} {m = n} (omega arith))

-- ---- the basis: degree l begins at place l * l
pub basic_at_lem : (L l r : ℕ) → l ≤ L → r ≤ l + l → basic_at L (l * l + r) ≡ basic l (order_in r) (sine_in r)
unfolding basic_at basis
basic_at_lem L l r h b = below_at (L + 1) l r (omega arith) b

-- the function stands at its place
pub place_of_lem : (L l m : ℕ) (sine : Bool) → l ≤ L → m ≤ l → (sine ≡ true → 0 < m) → basic_at L (place_of l m sine) ≡ basic l m sine
unfolding place_of
place_of_lem L l m sine h b s =
    basic_at_lem L l (in_degree m sine) h (in_within m l sine b) ∙ ap₂ (basic l) (order_in_lem m sine) (kind sine s)
  where
    kind : (x : Bool) → (x ≡ true → 0 < m) → sine_in (in_degree m x) ≡ x
    kind false g = sine_in_lem m
    kind true g = sine_in_true m (g refl)

-- every place is that of a degree and a place in it
pub record Found (L i : ℕ) : Type 0 where
  pub l : ℕ
  pub r : ℕ
  pub top : l ≤ L
  pub inside : r ≤ l + l
  pub place : i ≡ l * l + r

found_below : (L n i : ℕ) → n ≤ L + 1 → i < n * n → Found L i
found_below L zero i h b = absurd (not-suc-le-zero b)
found_below L (suc n) i h b = pick (ltb i (n * n)) refl (λ k. found_below L n i (omega arith) k)
  where
    pick : (x : Bool) → ltb i (n * n) ≡ x → (i < n * n → Found L i) → Found L i
    pick true e r = r (ltb-true i (n * n) e)
    pick false e r =
        let g = ltb-false i (n * n) e in
        record { l = n; r = i - n * n; top = omega arith; inside = omega arith; place = omega arith }

pub found : (L i : ℕ) → i < basis_size L → Found L i
unfolding basis_size
found L i h = found_below L (L + 1) i (omega arith) h
