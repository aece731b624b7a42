-- The average of a field over a basin: the checks of the call, the loops' laws, and demand 3 for what is answered. Assumes nothing.
use Rattle.std.specs.Prelude.{◌≡◌, refl, Bool, true, false, not, List, T, ltb, get_or, Float, Err, Ok, Result, ⊤}
use Rattle.std.proofs.Math.Path.{sym, ap}
use Rattle.std.proofs.Common.{subst, ◌∙◌, le_trans, lt-ltb, le-ltb}
use Prim.Native.Nat.{ℕ, suc, ◌+◌, ◌≤◌, ◌<◌, min}
use native.Mathlib.Omega.{arith}
use Rattle.std.proofs.Math.Nat.{min-le_left}
use Rattle.std.specs.Float.{nan}
use Rattle.std.specs.Float.Ieee.{binary64}
use Rattle.std.specs.Float.Ieee.Scale.{finite}
use Rattle.refusal.specs.Numbers.{refuse, refuse_yes, refuse_no, value_if, both, done_then, refused_then, ◌and_then◌}
use Rattle.refusal.specs.declared.Refusal.{Refusal}
use Rattle.refusal.specs.declared.Refusal.TheVariants.{Size, Love}
use Rattle.number.specs.Float64.{◌⊕◌, ◌⊗◌, ◌⊘◌}
use Rattle.storage.specs.Elements.{from}
use Rattle.storage.specs.Triangle.{cells, row_start, row_start_zero}
use Rattle.storage.specs.Checks.{tables_check, Tables, tables_passed, past}
use Rattle.functional.specs.declared.Functional.{Functional}
use Rattle.functional.specs.Factor.{factor_of, factor_fits}
use Rattle.rounding.specs.Sums.{running_sum, triangle_sum}
use Rattle.rounding.specs.SumSteps.{running_same, triangle_more}
use Rattle.rounding.specs.Margins.{average_summand, average, AtMostOne, TableFits, AverageWithin}
use Rattle.rounding.proofs.Theorems.{average-within}

-- demand 3: the answer x, where it is a finite value, is within the margin of the exact average up to degree N of a field c, s with a kernel whose first
-- number is at most 1 in size
abbrev pub WithinMargin : (c s kernel_c kernel_s : ℕ → ℕ → Float) (factor : ℕ → Float) (N : ℕ) (x : Result Float Refusal) → Type 0
WithinMargin c s kernel_c kernel_s factor N x =
    (v : Float) → x ≡ Ok v → T (finite v) → AtMostOne (kernel_c 0 0) → AverageWithin c s kernel_c kernel_s factor N v

-- SIZE: a degree above 2700; LENGTH: a table of field or kernel that has not exactly its entries; LOVE: too few Love numbers
unfoldable pub average_check : ℕ → ℕ → ℕ → ℕ → ℕ → ℕ → Bool → Result ⊤ Refusal
average_check nmax clen slen kmax kclen kslen lacks =
    refuse (ltb 2700 kmax) Size (tables_check nmax clen slen and_then tables_check kmax kclen kslen and_then refuse lacks Love (Ok tt))

-- one law for each way through them
module _ (nmax clen slen kmax kclen kslen : ℕ) (lacks : Bool) where
  abbrev rest : Result ⊤ Refusal
  rest = tables_check nmax clen slen and_then tables_check kmax kclen kslen and_then refuse lacks Love (Ok tt)

  pub check_size : 2700 < kmax → Err Size ≡ average_check nmax clen slen kmax kclen kslen lacks
  unfolding average_check
  check_size h = sym (refuse_yes Size rest (lt-ltb 2700 kmax h))

  module _ (h : kmax ≤ 2700) where
    past_size : {a : Result ⊤ Refusal} → a ≡ rest → a ≡ average_check nmax clen slen kmax kclen kslen lacks
    unfolding average_check
    past_size g = g ∙ sym (refuse_no Size rest (le-ltb 2700 kmax h))

    pub check_field : {e : Refusal} → Err e ≡ tables_check nmax clen slen → Err e ≡ average_check nmax clen slen kmax kclen kslen lacks
    check_field g = past_size (refused_then _ _ g)

    module _ (f : Ok tt ≡ tables_check nmax clen slen) where
      pub check_kernel : {e : Refusal} → Err e ≡ tables_check kmax kclen kslen → Err e ≡ average_check nmax clen slen kmax kclen kslen lacks
      check_kernel g = past_size (done_then f (refused_then _ _ g))

      pub check_love : Ok tt ≡ tables_check kmax kclen kslen → lacks ≡ true → Err Love ≡ average_check nmax clen slen kmax kclen kslen lacks
      check_love g l = past_size (done_then f (done_then g (sym (refuse_yes Love (Ok tt) l))))

      pub check_done : Ok tt ≡ tables_check kmax kclen kslen → lacks ≡ false → Ok tt ≡ average_check nmax clen slen kmax kclen kslen lacks
      check_done g l = past_size (done_then f (done_then g (sym (refuse_no Love (Ok tt) l))))

-- the term of order m in a degree whose entries start at index `at`
unfoldable pub degree_term : Float → ℕ → (c s c' s' : List Float) → ℕ → Float
degree_term factor at c s c' s' m = factor ⊗ (from at c nan m ⊗ from at c' nan m ⊕ from at s nan m ⊗ from at s' nan m)

-- ---- the loops' laws
module _ (c s c' s' : List Float) (factor : ℕ → Float) where
  -- the terms of the pairs, as Margins has them
  abbrev pub terms : ℕ → ℕ → Float
  terms = average_summand (cells c nan) (cells s nan) (cells c' nan) (cells s' nan) factor

  -- a degree's terms added to the sum of the degrees below it
  pub degree_added : (n : ℕ) {at : ℕ} {f x y : Float} → at ≡ row_start n → f ≡ factor n → x ≡ triangle_sum binary64 terms n
      → y ≡ running_sum binary64 (degree_term f at c s c' s') (n + 1) x → y ≡ triangle_sum binary64 terms (n + 1)
  unfolding degree_term cells from
  degree_added n {at} {f} {x} e g h k =
      k
      ∙ ap (running_sum binary64 (degree_term f at c s c' s') (n + 1)) h
      ∙ running_same binary64 (degree_term f at c s c' s') (terms n) (n + 1) (triangle_sum binary64 terms n) (λ m b. cc (e, g))
      ∙ triangle_more binary64 terms n

  -- the whole sum, divided by the kernel's first number
  pub average_is : {top N : ℕ} {x : Float} → x ≡ triangle_sum binary64 terms (top + 1) → top ≡ N
      → x ⊘ get_or c' 0 nan ≡ average (cells c nan) (cells s nan) (cells c' nan) (cells s' nan) factor N
  unfolding cells
  average_is {top} {N} {x} h e =
      let z = row_start_zero in
      let k : top + 1 ≡ suc N = omega arith in
      cc (h, k)

-- ---- demand 3
-- a value is answered past every check alone
passed : (a : Result ⊤ Refusal) {x v : Float} → value_if a x ≡ Ok v → (Ok tt ≡ a) × (v ≡ x)
passed (Ok _) h = (refl, cc)
passed (Err e) h = absurd (let z : ◌≡◌ {A = ℕ} 0 1 = cc in omega arith)

pub check_top : (nmax clen slen kmax kclen kslen : ℕ) (lacks : Bool) → Ok tt ≡ average_check nmax clen slen kmax kclen kslen lacks
    → Tables nmax clen slen × Tables kmax kclen kslen × (lacks ≡ false)
unfolding average_check
check_top nmax clen slen kmax kclen kslen lacks h =
    let (p, g) = past (ltb 2700 kmax) Size _ h in
    let (t, k) = both (tables_check nmax clen slen) _ g in
    let (u, l) = both (tables_check kmax kclen kslen) _ k in
    let (q, m) = past lacks Love _ l in
    (tables_passed nmax clen slen t, tables_passed kmax kclen kslen u, not_true lacks q)
  where
    not_true : (b : Bool) → T (not b) → b ≡ false
    not_true true h = absurd h
    not_true false h = refl

module _ (nmax clen slen kmax kclen kslen : ℕ) (lacks : Bool) (c s c' s' : List Float) (f : Functional) (love : List Float) (gm radius r : Float) where
  abbrev pub value : Float
  value = average (cells c nan) (cells s nan) (cells c' nan) (cells s' nan) (factor_of f love gm radius r) (min nmax kmax)

  abbrev pub answer : Result Float Refusal
  answer = value_if (average_check nmax clen slen kmax kclen kslen lacks) value

  -- the answer past the checks, and on a refusal
  pub answer-value : {found : Bool} {x : Float} → Ok tt ≡ average_check nmax clen slen kmax kclen kslen found → found ≡ lacks → x ≡ value → Ok x ≡ answer
  answer-value h g e = ap Ok e ∙ ap (λ (a : Result ⊤ Refusal). value_if a value) (h ∙ ap (average_check nmax clen slen kmax kclen kslen) g)

  pub answer_refused : {found : Bool} {e : Refusal} → Err e ≡ average_check nmax clen slen kmax kclen kslen found → found ≡ lacks → Err e ≡ answer
  answer_refused h g = ap (λ (a : Result ⊤ Refusal). value_if a value) (h ∙ ap (average_check nmax clen slen kmax kclen kslen) g)

  -- where the kernel's first number is at most 1 in size, a finite value times it lies within the margin of the exact sum
  abbrev pub Within : Result Float Refusal → Type 0
  Within = WithinMargin (cells c nan) (cells s nan) (cells c' nan) (cells s' nan) (factor_of f love gm radius r) (min nmax kmax)

  -- whatever is answered has both properties
  pub promised : TableFits (cells c nan) → TableFits (cells s nan) → TableFits (cells c' nan) → TableFits (cells s' nan) → {x : Result Float Refusal} → x ≡ answer
      → (x ≡ answer) × Within x
  promised fc fs fc' fs' {x} e = (e, within)
    where
      within : Within x
      within v p t small =
          let (ok, same) = passed (average_check nmax clen slen kmax kclen kslen lacks) (sym e ∙ p) in
          let top = (check_top nmax clen slen kmax kclen kslen lacks ok).0.top in
          subst (λ (y : Float). AverageWithin (cells c nan) (cells s nan) (cells c' nan) (cells s' nan) (factor_of f love gm radius r) (min nmax kmax) y)
          (sym same)
          (average-within (cells c nan) (cells s nan) (cells c' nan) (cells s' nan) (factor_of f love gm radius r) (min nmax kmax)
          (le_trans (min-le_left nmax kmax) top) fc fs fc' fs' (factor_fits f love gm radius r) small (subst (λ (y : Float). T (finite y)) same t))
