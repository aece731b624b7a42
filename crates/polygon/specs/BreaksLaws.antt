-- The breaks, from the ranked colatitudes. Assumes nothing.
use Rattle.std.specs.Prelude.{◌≡◌, true, false, List, ℕ, ◌-◌, ◌≤◌, length, get_or, take, Float}
use Rattle.std.proofs.Common.{sym, ap, ◌∙◌, zero-add, arith, get_or-take, length-take-le, ext_get_or, eq-eqb, ne_eqb}
use Rattle.std.specs.Float.{nan}
use Rattle.std.specs.Float.Ieee.{eq}
use Rattle.storage.specs.Filled.{Filled, filled_in}
use Rattle.storage.specs.Tabulate.{tabulate, length-tabulate, get_d_tabulate}
use Rattle.ranking.specs.Places.{rising}
use Rattle.ranking.specs.Rising.{length-rising}
use Rattle.polygon.specs.Outline.{colatitude_at, is_first, number_at, distinct, colatitudes, breaks_of}
use Rattle.polygon.specs.PickedLaws.{picked_few}

-- ---- the first of its equals
module _ (l : List Float) (i : ℕ) where
  pub first_zero : i ≡ 0 → true ≡ is_first l i
  unfolding is_first
  first_zero h = simp (eq-eqb i 0 h)

  pub first_equal : {x y : Float} → (i ≡ 0 → ⊥) → x ≡ get_or l (i - 1) nan → y ≡ get_or l i nan → eq x y ≡ true → false ≡ is_first l i
  unfolding is_first
  first_equal h a b e = simp (ne_eqb i 0 h, ← a, ← b, e)

  pub first_other : {x y : Float} → (i ≡ 0 → ⊥) → x ≡ get_or l (i - 1) nan → y ≡ get_or l i nan → eq x y ≡ false → true ≡ is_first l i
  unfolding is_first
  first_other h a b e = simp (ne_eqb i 0 h, ← a, ← b, e)

-- ---- how many
pub breaks_few : (v : ℕ) (outline : List Float) → length (breaks_of v outline) ≤ v
unfolding breaks_of distinct colatitudes
breaks_few v outline =
    let l = tabulate (colatitude_at outline) 0 v in
    let few = picked_few (is_first (rising l)) (number_at (rising l)) (length (rising l)) in
    let n = length-rising l in
    let m = length-tabulate (colatitude_at outline) 0 v in
    omega arith

-- ---- the colatitudes at the front of a list
pub colatitudes_front : (v : ℕ) (outline : List Float) {d w : List Float} → Filled 0 (colatitude_at outline) v d w → v ≤ length d
    → take v w ≡ colatitudes v outline
unfolding colatitudes
colatitudes_front v outline {d} {w} r h =
    let F = colatitude_at outline in
    let n = length-take-le v w (omega (arith, r.long)) in
    let m = length-tabulate F 0 v in
    ext_get_or nan (take v w) (tabulate F 0 v) (omega arith)
    (λ i b.
    get_or-take v w i nan (omega arith)
    ∙ filled_in {j = i} nan r (omega arith) (omega arith) (omega arith)
    ∙ ap F (sym (zero-add i))
    ∙ sym (get_d_tabulate F 0 v i nan (omega arith)))

pub breaks_are : (v : ℕ) (outline : List Float) {l : List Float} → l ≡ colatitudes v outline → distinct (rising l) ≡ breaks_of v outline
unfolding breaks_of
breaks_are v outline e = ap (λ (x : List Float). distinct (rising x)) e
