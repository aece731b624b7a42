-- The entry for the analysis of a grid: what it answers and leaves, by the definitions of the call itself. Assumes nothing.
use Rattle.std.specs.Prelude.{◌≡◌, refl, cond, List, ℕ, ◌*◌, ◌≤◌, ◌<◌, ltb, length, Float, Result, ⊤}
use Rattle.std.proofs.Math.Path.{ap}
use Rattle.std.proofs.Common.{◌∙◌}
use borrow.Author.Tests.{lt-ltb, le-ltb}
use Rattle.refusal.specs.Numbers.{after, behind, outcome, result_number, value_if, outcome_is, number_is}
use Rattle.storage.specs.Fill.{fill}
use Rattle.storage.specs.Triangle.{table_size, along}
use Rattle.functional.specs.Factor.{factor_of, lacks_love}
use Rattle.functional.specs.declared.Functional.{Functional}
use Rattle.coefficients.specs.declared.Head.{Head}
use Rattle.analysis.specs.Analysis.{analysis_cell, analysis_check}
use Rattle.geopotential.specs.Functionals.{functional_of, no_functional}
use Rattle.refusal.specs.declared.Refusal.{Refusal}

module _ (k : ℕ) (love : List Float) (nmax : ℕ) (values weights lats trig work c s : List Float) where
  -- the call's checks, with the functional f
  unfoldable pub analysis_answer : Functional → Result ⊤ Refusal
  analysis_answer f =
      analysis_check nmax (length values) (length weights) (length lats) (length trig) (lacks_love f (length love) nmax) (length work) (length c) (length s)

  -- 255 for a functional above 5, before every check
  unfoldable pub analysis_number : ℕ
  analysis_number = cond (ltb 5 k) no_functional (result_number (analysis_answer (functional_of k)))

  -- an output list afterwards, by the sums that belong to it
  unfoldable pub analysis_after : (gm radius r : Float) → (ℕ → ℕ → Float) → List Float → List Float
  analysis_after gm radius r sums out =
      cond (ltb 5 k) out
      (after (analysis_answer (functional_of k))
      (fill 0 (along (analysis_cell (factor_of (functional_of k) love gm radius r) weights lats sums nmax)) (table_size nmax) out) out)

  -- the part of the working list, l at the time, that keeps its bits
  unfoldable pub analysis_keeps : List Float → List Float
  analysis_keeps l = cond (ltb 5 k) l (behind (analysis_answer (functional_of k)) (3 * table_size nmax) l)

  pub analysis_unknown : (gm radius r : Float) (a b : ℕ → ℕ → Float) → 5 < k
      → (no_functional ≡ analysis_number)
      × ((c ≡ analysis_after gm radius r a c)
      × ((s ≡ analysis_after gm radius r b s) × ((analysis_keeps work ≡ analysis_keeps work) × (length work ≡ length work))))
  unfolding analysis_number analysis_after
  analysis_unknown gm radius r a b h = (simp (lt-ltb 5 k h), (simp (lt-ltb 5 k h), (simp (lt-ltb 5 k h), (refl, refl))))

  pub analysis_known : {f : Functional} {x : Result Head Refusal} {n : ℕ} {c' s' : List Float} (w : List Float) (gm radius r : Float) (a b : ℕ → ℕ → Float) (h : Head) → k ≤ 5
      → f ≡ functional_of k → x ≡ value_if (analysis_answer f) h → n ≡ result_number x
      → c' ≡ after (outcome x) (fill 0 (along (analysis_cell (factor_of f love gm radius r) weights lats a nmax)) (table_size nmax) c) c
      → s' ≡ after (outcome x) (fill 0 (along (analysis_cell (factor_of f love gm radius r) weights lats b nmax)) (table_size nmax) s) s
      → behind (outcome x) (3 * table_size nmax) w ≡ behind (outcome x) (3 * table_size nmax) work → length w ≡ length work
      → (n ≡ analysis_number)
      × ((c' ≡ analysis_after gm radius r a c)
      × ((s' ≡ analysis_after gm radius r b s) × ((analysis_keeps w ≡ analysis_keeps work) × (length w ≡ length work))))
  unfolding analysis_number analysis_after analysis_keeps
  analysis_known {f} {x} w gm radius r a b h g p q u y z v l =
      let o : outcome x ≡ analysis_answer (functional_of k) = outcome_is (analysis_answer f) h q ∙ ap analysis_answer p in
      let i = number_is (analysis_answer f) h q ∙ ap (λ (e : Functional). result_number (analysis_answer e)) p in
      let le = le-ltb 5 k g in
      (u ∙ simp (le, i), (y ∙ simp (le, o, p), (z ∙ simp (le, o, p), (simp (le, ← o) v, l))))
