-- What a solver answers, and its numbers for C. Assumes nothing.
use Rattle.std.specs.Prelude.{◌≡◌, refl, Bool, true, false, cond, ℕ, ◌≤◌, Err, Ok, Result, ⊤}
use Rattle.std.specs.Int.{from_bool}
use Rattle.std.proofs.Common.{sym, ap, subst, ◌∙◌}
use Rattle.refusal.specs.declared.Refusal.{Refusal}
pub use Rattle.matrix.specs.declared.Convergence.{Convergence}
use Rattle.refusal.specs.Numbers.{value_if}

-- 1 where a solver settled, 0 where it did not
abbrev pub settled_number : Bool → ℕ
settled_number b = cond b 1 0

pub settled_is_byte : (b : Bool) → from_bool b ≡ settled_number b
settled_is_byte true = refl
settled_is_byte false = refl

-- the count of a call that was done
abbrev pub count_in : Result Convergence Refusal → ℕ
count_in (Ok c) = c.count
count_in (Err e) = 0

-- ---- from the checks to the answer
pub solution_refused : {a : Result ⊤ Refusal} (e : Refusal) (c : Convergence) → Err e ≡ a → Err e ≡ value_if a c
solution_refused e c h = ap (λ (x : Result ⊤ Refusal). value_if x c) h

pub solution_solved : {a : Result ⊤ Refusal} {c d : Convergence} → Ok tt ≡ a → c ≡ d → Ok c ≡ value_if a d
solution_solved {d = d} h e = ap Ok e ∙ ap (λ (x : Result ⊤ Refusal). value_if x d) h

-- a limit of the definition's count holds of the count that is handed back
pub count_within : {c d : Convergence} {limit : ℕ} → c ≡ d → d.count ≤ limit → c.count ≤ limit
count_within {limit = limit} e h = subst (λ (x : Convergence). x.count ≤ limit) (sym e) h
