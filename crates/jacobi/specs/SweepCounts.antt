-- What the number of sweeps and the flag of the definition tell of each other. Assumes nothing.
use Rattle.std.specs.Prelude.{◌≡◌, Bool, List, ℕ, ◌+◌, ◌≤◌, ◌<◌, Float}
use Rattle.std.proofs.Math.Path.{refl}
use Rattle.std.proofs.Common.{sym, ◌∙◌, true≢false, arith}
use Rattle.std.proofs.Math.Bool.{true, false}
use Rattle.storage.specs.Counted.{Told, Counts, told}
use Rattle.jacobi.specs.Jacobi.{Matrices, State, state, is_small, sweep_unless_small, settled_in, sweeps_in, sweeps, jacobi}
use Rattle.jacobi.specs.Jacobi.{jacobi_sweeps, jacobi_settled}

module _ (n : ℕ) (scale : Float) where
  raised_by : (m : Matrices) (k : ℕ) (t b : Bool) → is_small n scale m ≡ b → t ≡ false → settled_in (sweep_unless_small n scale (state m k t)) ≡ true
      → sweeps_in (sweep_unless_small n scale (state m k t)) ≡ k
  unfolding sweep_unless_small settled_in sweeps_in
  raised_by m k t true h e = rw h (λ g. refl)
  raised_by m k t false h e = rw h (λ g. absurd (true≢false (sym g ∙ e)))

  raised : (s : State) → settled_in s ≡ false → settled_in (sweep_unless_small n scale s) ≡ true → sweeps_in (sweep_unless_small n scale s) ≡ sweeps_in s
  unfolding settled_in sweeps_in
  raised (state m k t) e g = raised_by m k t (is_small n scale m) refl e g

  stepped_by : (m : Matrices) (k : ℕ) (t b : Bool) → is_small n scale m ≡ b → settled_in (sweep_unless_small n scale (state m k t)) ≡ false
      → sweeps_in (sweep_unless_small n scale (state m k t)) ≡ k + 1
  unfolding sweep_unless_small settled_in sweeps_in
  stepped_by m k t true h = rw h (λ g. absurd (true≢false g))
  stepped_by m k t false h = rw h (λ g. refl)

  stepped : (s : State) → settled_in s ≡ false → settled_in (sweep_unless_small n scale s) ≡ false → sweeps_in (sweep_unless_small n scale s) ≡ sweeps_in s + 1
  unfolding settled_in sweeps_in
  stepped (state m k t) e g = stepped_by m k t (is_small n scale m) refl g

  counts : Counts settled_in sweeps_in (sweep_unless_small n scale)
  counts = record { raised = λ s. raised s; stepped = λ s. stepped s }

module _ (n : ℕ) (a : List Float) where
  counted : Told settled_in sweeps_in 0 100 (jacobi n a)
  unfolding jacobi sweeps settled_in sweeps_in
  counted = told settled_in sweeps_in (sweep_unless_small n _) (counts n _) 100 (state _ 0 false) refl

  -- there is no test after the hundredth sweep
  pub settled_early : jacobi_settled n a ≡ true → jacobi_sweeps n a < 100
  unfolding jacobi_settled jacobi_sweeps
  settled_early h = counted.early h

  pub unsettled_full : jacobi_settled n a ≡ false → jacobi_sweeps n a ≡ 100
  unfolding jacobi_settled jacobi_sweeps
  unsettled_full h = counted.full h

  most_by : (b : Bool) → jacobi_settled n a ≡ b → jacobi_sweeps n a ≤ 100
  most_by true h = omega (arith, settled_early h)
  most_by false h = omega (arith, unsettled_full h)

  pub sweeps_most : jacobi_sweeps n a ≤ 100
  sweeps_most = most_by (jacobi_settled n a) refl
