-- `rising_at` meets its contract: the place is one of the keys', and the places fall. Assumes nothing.
use mathlib.Core.Path.{ap, ◌∙◌}
use Prim.Native.Nat.{ℕ}
use native.Mathlib.Omega.{arith}
use lib.ListN.{get_or}
use lib.Ieee.{nan}
use Rattle.ranking.specs.RankedIn.{places_in, place_inside, rises}
use Rattle.ranking.proofs.rising_at.Goals as goal

pub offset_bounds-keys-place : goal.offset_bounds-keys-place
offset_bounds-keys-place c =
    let inside = place_inside (places_in c.args.keys.now c.requires.fact_4 c.requires.fact_3) c.from-place.ensures (omega arith) in
    omega (arith, inside, c.requires.fact_2)

pub bounds-keys-place : goal.bounds-keys-place
bounds-keys-place c = place_inside (places_in c.args.keys.now c.requires.fact_4 c.requires.fact_3) c.from-place.ensures (omega arith)

pub returns : goal.returns
returns c =
    ap (λ (p : ℕ). get_or c.args.keys.now p nan) c.from-place.ensures
    ∙ rises c.args.keys.now c.requires.fact_4 c.requires.fact_3 c.type_inv.keys c.args.i c.requires.fact_1
