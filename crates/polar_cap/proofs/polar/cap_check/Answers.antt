-- `polar::cap_check` meets its contract: each way through it has its law. Assumes nothing.
use native.Mathlib.Omega.{arith}
use Rattle.polar_cap.specs.CapChecks.{large_degree, wrong_weights, wrong_latitudes, short_work, short_orders, short_concentrations, short_vectors, short_settled, all_passed}
use borrow.Author.Rules.{rules}
use Rattle.polar_cap.proofs.polar.cap_check.Goals as goal

pub returns-then-lmax-gt-MAX_CAP : goal.returns-then-lmax-gt-MAX_CAP
returns-then-lmax-gt-MAX_CAP c = large_degree _ _ _ _ _ _ _ _ (omega arith)

pub returns-then-weights-count : goal.returns-then-weights-count
returns-then-weights-count c = wrong_weights _ _ _ _ _ _ _ _ (omega arith) (λ e. omega arith)

pub returns-then-latitudes-count : goal.returns-then-latitudes-count
returns-then-latitudes-count c = wrong_latitudes _ _ _ _ _ _ _ _ (omega arith) (omega arith) (λ e. omega arith)

pub returns-then-work-sizes : goal.returns-then-work-sizes
returns-then-work-sizes c = let s = c.cap_sizes-sizes.ensures in short_work _ _ _ _ _ _ _ _ (omega arith) (omega arith) (omega arith) (omega
    (arith, s.of_work))

pub returns-then-orders-sizes : goal.returns-then-orders-sizes
returns-then-orders-sizes c = let s = c.cap_sizes-sizes.ensures in short_orders _ _ _ _ _ _ _ _ (omega arith) (omega arith) (omega arith)
    (omega (arith, s.of_work)) (omega (arith, s.of_functions))

pub returns-then-concentrations-sizes : goal.returns-then-concentrations-sizes
returns-then-concentrations-sizes c =
    let s = c.cap_sizes-sizes.ensures in
    short_concentrations _ _ _ _ _ _ _ _ (omega arith) (omega arith) (omega arith) (omega (arith, s.of_work)) (omega (arith, s.of_functions))
    (omega (arith, s.of_functions))

pub returns-then-vectors-sizes : goal.returns-then-vectors-sizes
returns-then-vectors-sizes c =
    let s = c.cap_sizes-sizes.ensures in
    short_vectors _ _ _ _ _ _ _ _ (omega arith) (omega arith) (omega arith) (omega (arith, s.of_work)) (omega (arith, s.of_functions))
    (omega (arith, s.of_functions)) (omega (arith, s.of_numbers))

pub returns-then-settled-count : goal.returns-then-settled-count
returns-then-settled-count c =
    let s = c.cap_sizes-sizes.ensures in
    short_settled _ _ _ _ _ _ _ _ (omega arith) (omega arith) (omega arith) (omega (arith, s.of_work)) (omega (arith, s.of_functions))
    (omega (arith, s.of_functions)) (omega (arith, s.of_numbers)) (omega arith)

pub returns : goal.returns
returns c =
    let s = c.cap_sizes-sizes.ensures in
    all_passed _ _ _ _ _ _ _ _ (omega arith) (omega arith) (omega arith) (omega (arith, s.of_work)) (omega (arith, s.of_functions))
    (omega (arith, s.of_functions)) (omega (arith, s.of_numbers)) (omega arith)
