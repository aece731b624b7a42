-- Document 01's numbers of a tide system and of an answer that makes a field, and a date as C has it. Assumes nothing.
use Rattle.std.specs.Prelude.{◌≡◌, refl, Bool, true, false, not, cond, ℕ, zero, suc, ◌≤◌, eqb, ℤ, pos, Err, None, Ok, Option, Result, Some, ⊤}
use Rattle.std.specs.Bool.{then_some}
use Rattle.std.specs.Int.{from_bool}
use Rattle.std.specs.Option.{is_some}
use Rattle.std.proofs.Common.{ap, arith}
use Rattle.refusal.specs.declared.Refusal.{Refusal}
use Rattle.coefficients.specs.declared.Head.{Head}
use Rattle.coefficients.specs.declared.TideSystem.{TideSystem}
use Rattle.coefficients.specs.declared.TideSystem.TheVariants.{TideFree, ZeroTide, MeanTide, Unknown}
use Rattle.refusal.specs.Numbers.{value_if}

-- ---- the number of a tide system, in a model file and at the entries for C
abbrev pub tide_number : TideSystem → ℕ
tide_number TideFree = 0
tide_number ZeroTide = 1
tide_number MeanTide = 2
tide_number Unknown = 3

-- the tide system of a number; those above 3 are refused before it is asked
abbrev pub tide_of : ℕ → TideSystem
tide_of b = cond (eqb b 0) TideFree (cond (eqb b 1) ZeroTide (cond (eqb b 2) MeanTide Unknown))

pub tide_small : (t : TideSystem) → tide_number t ≤ 3
tide_small TideFree = omega arith
tide_small ZeroTide = omega arith
tide_small MeanTide = omega arith
tide_small Unknown = omega arith

-- they undo each other
pub tide_back : (t : TideSystem) → tide_of (tide_number t) ≡ t
tide_back TideFree = refl
tide_back ZeroTide = refl
tide_back MeanTide = refl
tide_back Unknown = refl

pub tide_forth : (b : ℕ) → b ≤ 3 → tide_number (tide_of b) ≡ b
tide_forth zero h = refl
tide_forth (suc zero) h = refl
tide_forth (suc (suc zero)) h = refl
tide_forth (suc (suc (suc zero))) h = refl
tide_forth (suc (suc (suc (suc b)))) h = absurd (omega arith)

-- ---- a date at the entries for C: whether one is stated, 0 or 1, and the day count, 0 where none is
abbrev pub dated_number : Option ℤ → ℕ
dated_number None = 0
dated_number (Some d) = 1

abbrev pub day_count : Option ℤ → ℤ
day_count None = pos 0
day_count (Some d) = d

-- the date of the two; every number but 0 states one
abbrev pub date_of : ℕ → ℤ → Option ℤ
date_of dated days = cond (eqb dated 0) None (Some days)

pub dated_is : (d : Option ℤ) → from_bool (is_some d) ≡ dated_number d
dated_is None = refl
dated_is (Some d) = refl

pub date_by_test : (b : Bool) (days : ℤ) → then_some (not b) days ≡ cond b None (Some days)
date_by_test true days = refl
date_by_test false days = refl

pub date_is : (dated : ℕ) (days : ℤ) → then_some (not (eqb dated 0)) days ≡ date_of dated days
date_is dated days = date_by_test (eqb dated 0) days

pub date_back : (d : Option ℤ) → date_of (dated_number d) (day_count d) ≡ d
date_back None = refl
date_back (Some d) = refl

-- ---- an answer that makes a field

pub model_refused : {a : Result ⊤ Refusal} (e : Refusal) (h : Head) → Err e ≡ a → Err e ≡ value_if a h
model_refused e h g = ap (λ (x : Result ⊤ Refusal). value_if x h) g

pub model_made : {a : Result ⊤ Refusal} (h : Head) → Ok tt ≡ a → Ok h ≡ value_if a h
model_made h g = ap (λ (x : Result ⊤ Refusal). value_if x h) g

-- a field that was made: its checks are passed
pub made_of : (a : Result ⊤ Refusal) (h k : Head) → Ok k ≡ value_if a h → (Ok tt ≡ a) × (k ≡ h)
made_of (Ok _) h k e = (refl, cc)
made_of (Err f) h k e = absurd (let z : ◌≡◌ {A = ℕ} 0 1 = cc in omega arith)
