-- The entries that turn a field into values: what they answer and leave, by the definitions of the calls themselves. Assumes nothing.
use Rattle.std.specs.Prelude.{◌≡◌, refl, cond, List, ℕ, ◌+◌, ◌*◌, ◌≤◌, ◌<◌, min, T, ltb, length, get_or, Float, Ok, Result, ⊤}
use Rattle.std.proofs.Common.{sym, ◌∙◌, arith, lt-ltb, le-ltb}
use Rattle.std.proofs.Math.Path.{subst}
use Rattle.std.specs.Float.{nan}
use Rattle.std.specs.Float.Ieee.Scale.{finite}
use Rattle.refusal.specs.Numbers.{after, behind, done_by_number, value_if, value_after, value_by_number, result_number}
use Rattle.storage.specs.Fill.{fill}
use Rattle.storage.specs.Rectangle.{by_rows}
use Rattle.storage.specs.Triangle.{cells}
use Rattle.functional.specs.Factor.{factor_of, lacks_love}
use Rattle.functional.specs.declared.Functional.{Functional}
use Rattle.legendre.specs.Directions.{cosines, sines, legendre_row}
use Rattle.rounding.specs.Margins.{average, AtMostOne, AverageWithin, GridWithin}
use Rattle.slepian.specs.Average.{average_check}
use Rattle.synthesis.specs.Grid.{grid_cell, SizesAtMostOne, work_size, grid_check}
use Rattle.geopotential.specs.Functionals.{functional_of, no_functional}
use Rattle.refusal.specs.declared.Refusal.{Refusal}

-- what `basin_average` answers
unfoldable pub basin_answer : (gm radius : Float) (nmax : ℕ) (c s : List Float) (kmax : ℕ) (kc ks : List Float) → Functional → (love : List Float) → Float → Result Float Refusal
basin_answer gm radius nmax c s kmax kc ks f love r =
    value_if (average_check nmax (length c) (length s) kmax (length kc) (length ks) (lacks_love f (length love) (min nmax kmax)))
    (average (cells c nan) (cells s nan) (cells kc nan) (cells ks nan) (factor_of f love gm radius r) (min nmax kmax))

-- 255 for a functional above 5, before every check
unfoldable pub basin_number : (gm radius : Float) (nmax : ℕ) (c s : List Float) (kmax : ℕ) (kc ks : List Float) → ℕ → (love : List Float) → Float → ℕ
basin_number gm radius nmax c s kmax kc ks k love r = cond (ltb 5 k) no_functional (result_number (basin_answer gm radius nmax c s kmax kc ks (functional_of k) love r))

unfoldable pub basin_after : (gm radius : Float) (nmax : ℕ) (c s : List Float) (kmax : ℕ) (kc ks : List Float) → ℕ → (love : List Float) → Float → Float → Float
basin_after gm radius nmax c s kmax kc ks k love r old =
    cond (ltb 5 k) old (value_after (basin_answer gm radius nmax c s kmax kc ks (functional_of k) love r) old)

-- the two ways through the entry
module _ (gm radius : Float) (nmax : ℕ) (c s : List Float) (kmax : ℕ) (kc ks : List Float) (k : ℕ) (love : List Float) (r old : Float) where
  -- demand 3 for the number v, by the functional f
  abbrev Within : Functional → Float → Type 0
  Within f v =
      T (finite v) → AtMostOne (cells kc nan 0 0)
      → AverageWithin (cells c nan) (cells s nan) (cells kc nan) (cells ks nan) (factor_of f love gm radius r) (min nmax kmax) v

  -- what the entry promises of its result x and of the number v behind `value`
  abbrev Promised : ℕ → Float → Type 0
  Promised x v =
      (x ≡ basin_number gm radius nmax c s kmax kc ks k love r)
      × ((v ≡ basin_after gm radius nmax c s kmax kc ks k love r old) × (x ≡ 0 → Within (functional_of k) v))

  pub basin_unknown : 5 < k → Promised no_functional old
  unfolding basin_number basin_after
  basin_unknown h = (simp (lt-ltb 5 k h), (simp (lt-ltb 5 k h), λ e. absurd (omega (arith, e))))

  pub basin_known : {f : Functional} {a : Result Float Refusal} {x : ℕ} {now : Float} → k ≤ 5 → f ≡ functional_of k → a ≡ basin_answer gm radius nmax c s kmax kc ks f love r
      → x ≡ result_number a → now ≡ value_after a old → ((v : Float) → a ≡ Ok v → Within f v) → Promised x now
  unfolding basin_number basin_after
  basin_known {f} {a} {x} {now} h p q u v w = (
    u ∙ simp (le-ltb 5 k h, ← p, ← q),
    (
      v ∙ simp (le-ltb 5 k h, ← p, ← q),
      λ e. subst (λ (g : Functional). Within g now) p (value_by_number (Within f) a old u v w e),
    ),
  )

-- ---- `grid`
-- its checks
unfoldable pub grid_answer : Functional → (nmax : ℕ) (c s love : List Float) (rows : ℕ) (lats : List Float) (longitudes : ℕ) (trig work out : List Float) → Result ⊤ Refusal
grid_answer f nmax c s love rows lats longitudes trig work out =
    grid_check nmax (length c) (length s) rows (length lats) longitudes (length trig) (lacks_love f (length love) nmax) (length work) (length out)

-- 255 for a functional above 5, before every check
unfoldable pub grid_number : (k nmax : ℕ) (c s love : List Float) (rows : ℕ) (lats : List Float) (longitudes : ℕ) (trig work out : List Float) → ℕ
grid_number k nmax c s love rows lats longitudes trig work out =
    cond (ltb 5 k) no_functional (result_number (grid_answer (functional_of k) nmax c s love rows lats longitudes trig work out))

-- the output list afterwards
unfoldable pub grid_after : (gm radius r : Float) (k nmax : ℕ) (c s love : List Float) (rows : ℕ) (lats : List Float) (longitudes : ℕ) (trig work out : List Float) → List Float
grid_after gm radius r k nmax c s love rows lats longitudes trig work out =
    cond (ltb 5 k) out
    (after (grid_answer (functional_of k) nmax c s love rows lats longitudes trig work out)
    (fill 0 (by_rows (grid_cell (factor_of (functional_of k) love gm radius r) lats c s trig nmax) longitudes) (rows * longitudes) out) out)

-- the part of the working list, l at the time, that keeps its bits
unfoldable pub grid_keeps : (k nmax : ℕ) (c s love : List Float) (rows : ℕ) (lats : List Float) (longitudes : ℕ) (trig work out l : List Float) → List Float
grid_keeps k nmax c s love rows lats longitudes trig work out l =
    cond (ltb 5 k) l (behind (grid_answer (functional_of k) nmax c s love rows lats longitudes trig work out) (work_size nmax) l)

module _ (gm radius r : Float) (k nmax : ℕ) (c s love : List Float) (rows : ℕ) (lats : List Float) (longitudes : ℕ) (trig work out : List Float) where
  -- demand 3 for the value at row i and longitude j of an output o, by the functional f
  abbrev GridMargin : Functional → List Float → ℕ → ℕ → Type 0
  GridMargin f o i j =
      i < rows → j < longitudes → T (finite (get_or o (i * longitudes + j) nan))
      → SizesAtMostOne nmax (cells c nan) (cells s nan) (cosines trig nmax j) (sines trig nmax j)
      → GridWithin (legendre_row lats i) (factor_of f love gm radius r) (cells c nan) (cells s nan) (cosines trig nmax j) (sines trig nmax j) nmax
      (get_or o (i * longitudes + j) nan)

  -- what the entry promises of its result x, of the working list w and of the output o
  abbrev Kept : ℕ → List Float → List Float → Type 0
  Kept x w o =
      (x ≡ grid_number k nmax c s love rows lats longitudes trig work out)
      × ((o ≡ grid_after gm radius r k nmax c s love rows lats longitudes trig work out)
      × ((grid_keeps k nmax c s love rows lats longitudes trig work out w ≡ grid_keeps k nmax c s love rows lats longitudes trig work out work)
      × ((length w ≡ length work) × ((i j : ℕ) → x ≡ 0 → GridMargin (functional_of k) o i j))))

  pub grid_unknown : 5 < k → Kept no_functional work out
  unfolding grid_number grid_after
  grid_unknown h = (simp (lt-ltb 5 k h), (simp (lt-ltb 5 k h), (refl, (refl, λ i j e. absurd (omega (arith, e))))))

  pub grid_known : {f : Functional} {a : Result ⊤ Refusal} {x : ℕ} {o : List Float} (w : List Float) → k ≤ 5 → f ≡ functional_of k
      → a ≡ grid_answer f nmax c s love rows lats longitudes trig work out → x ≡ result_number a
      → o ≡ after a (fill 0 (by_rows (grid_cell (factor_of f love gm radius r) lats c s trig nmax) longitudes) (rows * longitudes) out) out
      → behind a (work_size nmax) w ≡ behind a (work_size nmax) work → length w ≡ length work → ((i j : ℕ) → a ≡ Ok tt → GridMargin f o i j) → Kept x w o
  unfolding grid_number grid_after grid_keeps
  grid_known {f} {a} {x} {o} w h p q u v z l m = (
    u ∙ simp (le-ltb 5 k h, ← p, ← q),
    (
      v ∙ simp (le-ltb 5 k h, ← p, ← q),
      (
        simp (le-ltb 5 k h, ← p, ← q) z,
        (l, λ i j e. subst (λ (g : Functional). GridMargin g o i j) p (m i j (done_by_number a (sym u ∙ e)))),
      ),
    ),
  )
