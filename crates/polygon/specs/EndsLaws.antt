-- The ends of the intervals, from the crossings at the front of the working list. Assumes nothing.
use Rattle.std.specs.Prelude.{◌≡◌, List, ℕ, ◌+◌, ◌*◌, ◌/◌, ◌≤◌, length, get_or, take, drop, Float}
use Rattle.std.proofs.Common.{sym, ap, subst, ◌∙◌, zero-add, arith, get_or-take, ext_get_or}
use Rattle.std.proofs.Math.Seq.{length-take-le}
use Rattle.std.specs.Float.{nan}
use Rattle.storage.specs.Elements.{from}
use Rattle.storage.specs.Fill.{drop-fill}
use Rattle.storage.specs.Filled.{Filled, filled_same, filled_to, filled_in}
use Rattle.ranking.specs.Places.{rising}
use Rattle.ranking.specs.Rising.{length-rising}
use Rattle.polygon.specs.Outline.{crosses, crossing, crossings, intervals_of}
use Rattle.polygon.specs.PickedLaws.{picked_few}

-- an outline of v vertices of which k edges cross θ, and room for the crossings and the ends
pub record EndsIn (v k : ℕ) (θ : Float) (outline : List Float) (work out : ℕ) : Type 0 where
  pub few : v ≤ 4096
  pub pairs : length outline ≡ v + v
  pub count : k ≡ length (crossings v outline θ)
  pub of_work : v ≤ work
  pub of_out : k / 2 * 2 ≤ out

-- the ends at the front of out, and the working list overwritten in its first v numbers at most
pub record EndsMade (v : ℕ) (θ : Float) (outline work work' out out' : List Float) : Type 0 where
  pub ends : Filled 0 (from 0 (intervals_of v outline θ) nan) (length (intervals_of v outline θ)) out out'
  pub behind : drop v work' ≡ drop v work
  pub long : length work' ≡ length work

module _ (v : ℕ) (outline : List Float) (θ : Float) where
  pub crossings_few : length (crossings v outline θ) ≤ v
  unfolding crossings
  crossings_few = picked_few (crosses v outline θ) (crossing v outline θ) v

  pub length_intervals : length (intervals_of v outline θ) ≡ length (crossings v outline θ) / 2 * 2
  unfolding intervals_of
  length_intervals = let l = crossings v outline θ in length-take-le (length l / 2 * 2) (rising l) (omega (arith, length-rising l))

-- the numbers l at the front of a list
pub front_of : (l : List Float) (k : ℕ) {d w : List Float} → Filled 0 (from 0 l nan) (length l) d w → k ≡ length l → length l ≤ length d → take k w ≡ l
unfolding from
front_of l k {d} {w} r e h =
    let n = length-take-le k w (omega (arith, r.long)) in
    ext_get_or nan (take k w) l (omega arith)
    (λ i b.
    get_or-take k w i nan (omega arith) ∙ filled_in {j = i} nan r (omega arith) (omega arith) (omega arith) ∙ ap (λ (j : ℕ). get_or l j nan) (zero-add i))

-- the crossings written and ranked: the ends
pub ends_made : {v k n : ℕ} {θ : Float} {outline work work' out out' : List Float} → EndsIn v k θ outline (length work) (length out) → n ≡ k / 2 * 2
    → Filled 0 (from 0 (crossings v outline θ) nan) (length (crossings v outline θ)) work work'
    → Filled 0 (from 0 (rising (take k work')) nan) n out out' → EndsMade v θ outline work work' out out'
unfolding intervals_of from
ends_made {v} {k} {n} {θ} {outline} {work} {work'} {out} {out'} given e written ranked =
    let l = crossings v outline θ in
    let few = crossings_few v outline θ in
    let count = given.count in
    let pairs : k / 2 * 2 ≡ length l / 2 * 2 = ap (λ (x : ℕ). x / 2 * 2) count in
    let long = length_intervals v outline θ in
    let front = front_of l k written count (omega (arith, given.of_work)) in
    let risen = subst (λ (x : List Float). Filled 0 (from 0 (rising x) nan) n out out') front ranked in
    let taken =
    filled_same (from 0 (take (length l / 2 * 2) (rising l)) nan) risen (λ i b. sym (get_or-take (length l / 2 * 2) (rising l) (0 + i) nan (omega arith))) in
    record {
      ends = filled_to taken (e ∙ pairs ∙ sym long);
      behind = ap (drop v) written.is ∙ drop-fill 0 (from 0 l nan) (length l) v work (omega arith);
      long = written.long;
    }
