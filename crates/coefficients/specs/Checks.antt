-- The checks of each call beyond those that calls on tables share (storage's Checks), in document 01's order. Definitions only.
use Rattle.std.specs.Prelude.{ℕ, leb, Ok, Result, ⊤}
use Rattle.refusal.specs.Numbers.{refuse, outcome, ◌and_then◌}
use Rattle.refusal.specs.declared.Refusal.TheVariants.{Space, Love}
use Rattle.storage.specs.Answers.{place_of}
use Rattle.storage.specs.Checks.{tables_check}
use Rattle.functional.specs.Factor.{lacks_love}
use Rattle.functional.specs.declared.Functional.{Functional}
use Rattle.refusal.specs.declared.Refusal.{Refusal}

-- `degree_variances`: the tables, and SPACE for N + 1 numbers
unfoldable pub variances_check : ℕ → ℕ → ℕ → ℕ → Result ⊤ Refusal
variances_check nmax clen slen out = tables_check nmax clen slen and_then refuse (leb out nmax) Space (Ok tt)

-- `degree_amplitudes`: the tables, LOVE, and SPACE for N + 1 numbers
unfoldable pub amplitudes_check : ℕ → ℕ → ℕ → Functional → ℕ → ℕ → Result ⊤ Refusal
amplitudes_check nmax clen slen f love out = tables_check nmax clen slen and_then refuse (lacks_love f love nmax) Love (refuse (leb out nmax) Space (Ok tt))

-- `set`: the tables, and PLACE
unfoldable pub set_check : ℕ → ℕ → ℕ → ℕ → ℕ → Result ⊤ Refusal
set_check nmax clen slen n m = tables_check nmax clen slen and_then outcome (place_of nmax n m)
