-- The functionals by their numbers in C, and what the entry for a factor answers and leaves. Assumes nothing.
use Rattle.std.specs.Prelude.{◌≡◌, refl, cond, List, ℕ, ◌≤◌, ◌<◌, ltb, eqb, Float, Result}
use Rattle.std.proofs.Common.{◌∙◌, ap, lt-ltb, le-ltb, ne_eqb, arith}
use Rattle.refusal.specs.Numbers.{value_after, result_number}
use Rattle.functional.specs.Factor.{factor_answer}
use Rattle.functional.specs.Numbers.{number_of, number_small}
use Rattle.functional.specs.declared.Functional.{Functional}
use Rattle.functional.specs.declared.Functional.TheVariants.{Potential, GeoidHeight, GravityDisturbance, GravityAnomaly, RadialGradient, WaterHeight}
use Rattle.refusal.specs.declared.Refusal.{Refusal}

-- 0 to 5, in the order of the enum
unfoldable pub functional_of : ℕ → Functional
functional_of k =
    cond (eqb k 0) Potential
    (cond (eqb k 1) GeoidHeight
    (cond (eqb k 2) GravityDisturbance
    (cond (eqb k 3) GravityAnomaly (cond (eqb k 4) RadialGradient WaterHeight))))

pub functional_other : (k : ℕ) → 4 < k → WaterHeight ≡ functional_of k
unfolding functional_of
functional_other k h =
    simp (
      ne_eqb k 0 (λ e. omega arith),
      ne_eqb k 1 (λ e. omega arith),
      ne_eqb k 2 (λ e. omega arith),
      ne_eqb k 3 (λ e. omega arith),
      ne_eqb k 4 (λ e. omega arith),
    )

-- the functional that a number decodes to is that of the number
functional_back : (f : Functional) → f ≡ functional_of (number_of f)
unfolding functional_of
functional_back Potential = refl
functional_back GeoidHeight = refl
functional_back GravityDisturbance = refl
functional_back GravityAnomaly = refl
functional_back RadialGradient = refl
functional_back WaterHeight = refl

pub functional_decoded : {k : ℕ} {f : Functional} → number_of f ≡ k → (k ≤ 5) × (f ≡ functional_of k)
functional_decoded {f = f} p = (rw (← p) (number_small f), functional_back f ∙ ap functional_of p)

-- the number by which an entry refuses a functional that is none; document 01 has no such refusal
abbrev pub no_functional : ℕ
no_functional = 255

-- a number above 5, before every check
unfoldable pub factor_number : ℕ → List Float → ℕ → Float → Float → Float → ℕ
factor_number k love n gm radius r = cond (ltb 5 k) no_functional (result_number (factor_answer (functional_of k) love n gm radius r))

unfoldable pub factor_after : ℕ → List Float → ℕ → Float → Float → Float → Float → Float
factor_after k love n gm radius r old = cond (ltb 5 k) old (value_after (factor_answer (functional_of k) love n gm radius r) old)

-- ---- the two ways through the entry
module _ (k : ℕ) (love : List Float) (n : ℕ) (gm radius r old : Float) where
  pub factor_unknown : 5 < k → (no_functional ≡ factor_number k love n gm radius r) × (old ≡ factor_after k love n gm radius r old)
  unfolding factor_number factor_after
  factor_unknown h = (simp (lt-ltb 5 k h), simp (lt-ltb 5 k h))

  pub factor_known : {f : Functional} {a : Result Float Refusal} {x : ℕ} {now : Float} → k ≤ 5 → f ≡ functional_of k → a ≡ factor_answer f love n gm radius r
      → x ≡ result_number a → now ≡ value_after a old → (x ≡ factor_number k love n gm radius r) × (now ≡ factor_after k love n gm radius r old)
  unfolding factor_number factor_after
  factor_known h p q u v = (u ∙ simp (le-ltb 5 k h, ← p, ← q), v ∙ simp (le-ltb 5 k h, ← p, ← q))
