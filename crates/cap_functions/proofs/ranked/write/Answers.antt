-- `ranked::write` meets its contract: the places are ranked by the concentrations. Assumes nothing.
use native.Mathlib.Omega.{arith}
use mathlib.Core.Path.{ap}
use Prim.Native.Nat.{ℕ, ◌+◌, ◌-◌}
use lib.ListN.{length}
use lib.Ieee.{nan}
use mathlib.Core.Path.{subst}
use mathlib.Core.List.{List}
use Rattle.storage.specs.Elements.{from}
use Rattle.storage.specs.Filled.{Filled}
use Rattle.ranking.specs.Rankings.{joined}
use Rattle.ranking.specs.RankedIn.{ranked_in}
use Rattle.cap_functions.specs.CapRanked.{run_at, picked_orders, picked_numbers}
use borrow.Author.Rules.{rules}
use Rattle.cap_functions.proofs.ranked.write.Goals as goal

pub write_functions-requires : goal.write_functions-requires
write_functions-requires c =
    let a = c.args in
    let rk = ranked_in a.n a.at (a.at + a.n - a.at) a.work.now (omega arith)
    c.requires.runs_in_2
    c.rank.ensures.filled
    (omega (arith, c.requires.runs_in_4, c.requires.runs_in_5)) in record { fact_1 = rk.valid; fact_2 = c.requires.runs_in_1; fact_3 = c.requires.runs_in_2; fact_4 = c.requires.n_in_bounds_1; fact_5 = c.requires.n_in_bounds_2 }

pub write_vectors-requires : goal.write_vectors-requires
write_vectors-requires c =
    let a = c.args in
    let rk = ranked_in a.n a.at (a.at + a.n - a.at) a.work.now (omega arith) c.requires.runs_in_2
    c.rank.ensures.filled (omega (arith, c.requires.runs_in_4, c.requires.runs_in_5)) in
    let same = ap (λ (t : List ℕ). length (joined (run_at a.lmax a.order.now a.starts.now a.work.now) t)) rk.is in
    record { fact_1 = rk.valid; fact_2 = c.requires.runs_in_1; fact_3 = omega (arith, same, c.requires.n_in_bounds_3) }

pub returns : goal.returns
returns c =
    let a = c.args in
    let rk = ranked_in a.n a.at (a.at + a.n - a.at) a.work.now (omega arith) c.requires.runs_in_2
    c.rank.ensures.filled (omega (arith, c.requires.runs_in_4, c.requires.runs_in_5)) in
    let g = run_at a.lmax a.order.now a.starts.now a.work.now in
    let l = c.write_vectors.new.vectors in
    let made = c.write_functions.ensures in record {
      filled_1 = picked_orders rk a.order.now made.fact_1;
      filled_2 = picked_numbers rk a.at a.work.now made.fact_2;
      filled_3 = subst (λ (t : List ℕ). Filled 0 (from 0 (joined g t) nan) (length (joined g t)) a.vectors.now l) rk.is
          c.write_vectors.ensures;
    }
