-- The entries for the calls of coefficients: what they answer and leave, by the checks of the calls themselves. Assumes nothing.
use Rattle.std.specs.Prelude.{◌≡◌, cond, List, ℕ, ◌+◌, ◌≤◌, ◌<◌, min, ltb, length, Float, Err, Ok, Result, ⊤}
use Rattle.std.proofs.Common.{ap, ◌∙◌, lt-ltb, le-ltb}
use Rattle.refusal.specs.Numbers.{after, result_number, value_if}
use Rattle.storage.specs.Fill.{fill}
use Rattle.functional.specs.declared.Functional.{Functional}
use Rattle.coefficients.specs.declared.Head.{Head}
use Rattle.storage.specs.Checks.{outputs_check}
use Rattle.coefficients.specs.Checks.{amplitudes_check}
use Rattle.coefficients.specs.Values.{amplitude_of}
use Rattle.geopotential.specs.Functionals.{functional_of, no_functional}
use Rattle.refusal.specs.declared.Refusal.{Refusal}

-- the checks of `truncated` and of `rescaled`
abbrev pub cut_check : ℕ → List Float → List Float → ℕ → List Float → List Float → Result ⊤ Refusal
cut_check nmax c s cut outc outs = outputs_check nmax (length c) (length s) (min cut nmax) (length outc) (length outs)

abbrev pub same_check : ℕ → List Float → List Float → List Float → List Float → Result ⊤ Refusal
same_check nmax c s outc outs = outputs_check nmax (length c) (length s) nmax (length outc) (length outs)

-- `degree_amplitudes`: 255 for a functional above 5, before every check
unfoldable pub amplitudes_number : ℕ → List Float → List Float → ℕ → List Float → List Float → ℕ
amplitudes_number nmax c s k love out =
    cond (ltb 5 k) no_functional (result_number (amplitudes_check nmax (length c) (length s) (functional_of k) (length love) (length out)))

unfoldable pub amplitudes_after : Float → Float → ℕ → List Float → List Float → ℕ → List Float → List Float → List Float
amplitudes_after gm radius nmax c s k love out =
    cond (ltb 5 k) out
    (after (amplitudes_check nmax (length c) (length s) (functional_of k) (length love) (length out))
    (fill 0 (amplitude_of (functional_of k) love gm radius c s) (nmax + 1) out) out)

-- what the place lent for a degree holds after a field was made, or not
abbrev pub degree_after : Result Head Refusal → ℕ → ℕ
degree_after (Ok h) old = h.nmax
degree_after (Err e) old = old

pub degree_is : (a : Result ⊤ Refusal) (h : Head) (old : ℕ) {m : Result Head Refusal} → m ≡ value_if a h → degree_after m old ≡ after a h.nmax old
degree_is (Ok _) h old e = ap (λ (m : Result Head Refusal). degree_after m old) e
degree_is (Err r) h old e = ap (λ (m : Result Head Refusal). degree_after m old) e

-- ---- a list keeps its length
pub after_length : {A : Type 0} (a : Result ⊤ Refusal) (made old : List A) {now : List A} → length made ≡ length old → now ≡ after a made old → length now ≡ length old
after_length (Ok _) made old h e = ap length e ∙ h
after_length (Err r) made old h e = ap length e

-- ---- the two ways through `degree_amplitudes`
module _ (gm radius : Float) (nmax : ℕ) (c s : List Float) (k : ℕ) (love out : List Float) where
  pub amplitudes_unknown : 5 < k → (no_functional ≡ amplitudes_number nmax c s k love out) × (out ≡ amplitudes_after gm radius nmax c s k love out)
  unfolding amplitudes_number amplitudes_after
  amplitudes_unknown h = (simp (lt-ltb 5 k h), simp (lt-ltb 5 k h))

  pub amplitudes_known : {f : Functional} {a : Result ⊤ Refusal} {x : ℕ} {now : List Float} → k ≤ 5 → f ≡ functional_of k
      → a ≡ amplitudes_check nmax (length c) (length s) f (length love) (length out) → x ≡ result_number a
      → now ≡ after a (fill 0 (amplitude_of f love gm radius c s) (nmax + 1) out) out
      → (x ≡ amplitudes_number nmax c s k love out) × (now ≡ amplitudes_after gm radius nmax c s k love out)
  unfolding amplitudes_number amplitudes_after
  amplitudes_known h p q u v = (u ∙ simp (le-ltb 5 k h, ← p, ← q), v ∙ simp (le-ltb 5 k h, ← p, ← q))
