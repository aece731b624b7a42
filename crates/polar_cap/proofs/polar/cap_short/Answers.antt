-- `polar::cap_short` meets its contract: the arrays are long enough. Assumes nothing.
use native.Mathlib.Omega.{arith}
use Rattle.polar_cap.specs.CapChecks.{room_from, short_arrays}
use borrow.Author.Rules.{rules}
use Rattle.polar_cap.proofs.polar.cap_short.Goals as goal

pub cap_in-requires : goal.cap_in-requires
cap_in-requires c =
    let p = c.requires in
    let a = short_arrays c.args.lmax p.fact_2 in
    record { cap_room = room_from p.fact_1 (omega arith) a.1 (omega arith); lmax_in_bounds_1 = a.0; lmax_in_bounds_2 = a.0; lmax_in_bounds_3 = a.0; lmax_in_bounds_4 = a.0; lmax_in_bounds_5 = p.fact_1.of_settled }

pub returns : goal.returns
returns c =
    c.cap_in.ensures
