-- `polar::cap_long` meets its contract: the arrays are long enough. Assumes nothing.
use native.Mathlib.Omega.{arith}
use Rattle.cap_functions.specs.CapPlaces.{order_within, divided}
use Rattle.polar_cap.specs.CapChecks.{room_from}
use borrow.Author.Rules.{rules}
use Rattle.polar_cap.proofs.polar.cap_long.Goals as goal

pub cap_in-requires : goal.cap_in-requires
cap_in-requires c =
    let r = c.requires in
    let d = divided c.args.lmax r.top in
    let o = order_within c.args.lmax 0 (omega arith) r.top in
    let f = o.functions_small in
    record { cap_room = room_from r (omega (arith, r.top)) d.cells_small (omega (arith, r.top)); lmax_in_bounds_1 = f; lmax_in_bounds_2 = f; lmax_in_bounds_3 = f; lmax_in_bounds_4 = f; lmax_in_bounds_5 = r.of_settled }

pub returns : goal.returns
returns c =
    c.cap_in.ensures
