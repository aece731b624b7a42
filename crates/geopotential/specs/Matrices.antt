-- The entries for the solvers: what they answer and leave, by the checks of the calls themselves. Assumes nothing.
use Rattle.std.specs.Prelude.{◌≡◌, ℕ, ◌≤◌, Err, Ok, Result, ⊤}
use Rattle.std.proofs.Common.{ap, sym, subst, ◌∙◌}
use Rattle.refusal.specs.Numbers.{after, refusal_above_0, result_number, value_if}
use Rattle.linalg.specs.Solution.{Convergence, settled_number, count_in}
use Rattle.refusal.specs.declared.Refusal.{Refusal}

-- what the places lent for the two numbers of a solver hold after it answered, or was refused
abbrev pub settled_after : Result Convergence Refusal → ℕ → ℕ
settled_after (Ok c) old = settled_number c.settled
settled_after (Err e) old = old

abbrev pub count_after : Result Convergence Refusal → ℕ → ℕ
count_after (Ok c) old = c.count
count_after (Err e) old = old

-- ---- from the answer to the checks
pub settled_is : (a : Result ⊤ Refusal) (c : Convergence) (old : ℕ) {s : Result Convergence Refusal} → s ≡ value_if a c → settled_after s old ≡ after a (settled_number c.settled) old
settled_is (Ok _) c old e = ap (λ (s : Result Convergence Refusal). settled_after s old) e
settled_is (Err r) c old e = ap (λ (s : Result Convergence Refusal). settled_after s old) e

pub count_is : (a : Result ⊤ Refusal) (c : Convergence) (old : ℕ) {s : Result Convergence Refusal} → s ≡ value_if a c → count_after s old ≡ after a c.count old
count_is (Ok _) c old e = ap (λ (s : Result Convergence Refusal). count_after s old) e
count_is (Err r) c old e = ap (λ (s : Result Convergence Refusal). count_after s old) e

-- the limit of the count holds of what was handed on, where the number of the answer is 0
pub handed_within : (s : Result Convergence Refusal) (limit old : ℕ) {x now : ℕ} → x ≡ result_number s → now ≡ count_after s old → count_in s ≤ limit → x ≡ 0 → now ≤ limit
handed_within (Ok c) limit old p q h z = subst (λ (k : ℕ). k ≤ limit) (sym q) h
handed_within (Err e) limit old p q h z = absurd (refusal_above_0 e (sym p ∙ z))
