-- Runs of places that are ranked each by itself: how two of them make one of twice the width, and that a run of all places is the ranking of
-- all. Assumes nothing.
use Rattle.std.specs.Prelude.{◌≡◌, Bool, true, false, ◌⊎◌, T, Float}
use Rattle.std.proofs.Math.Path.{refl, sym, ap, ap₂}
use Rattle.std.proofs.Common.{◌∙◌, inl, inr, zero-add, eq-or-lt_of_le}
use mathlib.Core.List.{List, [], ◌∷◌, ◌++◌}
use Prim.Native.Nat.{ℕ, zero, suc, ◌+◌, ◌-◌, ◌*◌, ◌≤◌, ◌<◌, min}
use native.Mathlib.Omega.{arith}
use Rattle.std.proofs.Math.ListN.{length, get_or}
use Rattle.std.proofs.Math.Seq.{slice, slice_empty, length-slice, get_or-take, get_or-drop, ext_get_or}
use Rattle.std.specs.Float.{nan, binary64}
use Rattle.std.specs.Float.Ieee.{fits}
use Rattle.number.specs.Ranking.{insert, ranking, merge, ranking-append, length-ranking}
use Rattle.number.specs.RankingLaws.{falling}
use Rattle.storage.specs.Elements.{from, from_zero}
use Rattle.storage.specs.Filled.{Filled, filled_in, filled_same, filled_join, filled_to}
use Rattle.storage.specs.Rectangle.{by_rows, by_row}
use Rattle.storage.specs.Tabulate.{values, tabulate, length-tabulate, tabulate_join}
use Rattle.ranking.specs.Places.{key_before, up_to, ranked_places}

-- a place by itself
abbrev pub place_in : ℕ → ℕ
place_in i = i

-- run j of places, w of them in each, ranked: its place at r
unfoldable pub ranked_run : List Float → ℕ → ℕ → ℕ → ℕ
ranked_run keys w j r = get_or (ranking (key_before keys) (up_to (j * w) (min (length keys) (j * w + w)))) r 0

-- a number that is a multiple of w
pub record Multiple (w x : ℕ) : Type 0 where
  pub times : ℕ
  pub is : x ≡ times * w

-- the first n places of src are runs of w, each ranked
module _ (keys : List Float) (w : ℕ) (src : List ℕ) (runs : Filled 0 (by_rows (ranked_run keys w) w) (length keys) src src)
    (room : length keys ≤ length src) where
  -- run j, from its start lo up to its end hi
  pub run_is : (j lo hi : ℕ) → lo ≡ j * w → lo ≤ hi → hi ≤ length keys → hi ≡ min (length keys) (lo + w)
      → slice lo hi src ≡ ranking (key_before keys) (up_to lo hi)
  unfolding ranked_run
  run_is j lo hi e h g m =
      ext_get_or 0 (slice lo hi src) (ranking (key_before keys) (up_to lo hi)) (long ∙ sym (length-ranking _ (up_to lo hi) ∙ length-tabulate place_in lo hi))
      (λ r b.
      let c : r < hi - lo = omega (arith, b, long) in
      let k : lo + r < hi = omega arith in
      let in_run : r < w = omega (arith, m) in
      get_or-drop lo _ r 0
      ∙ get_or-take hi src (lo + r) 0 k
      ∙ filled_in 0 runs (omega arith) (sym (zero-add (lo + r))) (omega arith)
      ∙ ap (λ (x : ℕ). by_rows (ranked_run keys w) w (x + r)) e
      ∙ by_row (ranked_run keys w) w j r in_run
      ∙ ap₂ (λ (x y : ℕ). get_or (ranking (key_before keys) (up_to x y)) r 0) (sym e) (sym (m ∙ ap (λ (x : ℕ). min (length keys) (x + w)) e)))
    where
      long : length (slice lo hi src) ≡ hi - lo
      long = length-slice lo hi src (omega arith)

  -- the run after another one of the same width, which may be empty
  run_after : (j lo mid hi : ℕ) → lo ≡ j * w → mid ≡ min (length keys) (lo + w) → hi ≡ min (length keys) (lo + (w + w))
      → (mid ≡ length keys) ⊎ (mid < length keys) → slice mid hi src ≡ ranking (key_before keys) (up_to mid hi)
  unfolding ranking tabulate values
  run_after j lo mid hi e em eh (inl x) =
      let same : hi ≡ mid = omega (arith, em, eh) in
      let none : hi - mid ≡ 0 = omega arith in
      ap (λ (k : ℕ). slice mid k src) same ∙ slice_empty mid src ∙ rw none refl
  run_after j lo mid hi e em eh (inr x) =
      let l : mid ≡ (j + 1) * w = omega (arith, em) in
      run_is (j + 1) mid hi l (omega (arith, em, eh)) (omega (arith, eh)) (omega (arith, em, eh))

  -- runs 2 j and 2 j + 1 merged are run j of twice the width
  pub runs_merged : (j lo mid hi : ℕ) → ((k : ℕ) → T (fits binary64 (get_or keys k nan))) → lo ≡ j * (w + w) → lo < length keys
      → mid ≡ min (length keys) (lo + w) → hi ≡ min (length keys) (lo + (w + w))
      → merge (key_before keys) (slice lo mid src) (slice mid hi src) ≡ ranking (key_before keys) (up_to lo hi)
  unfolding key_before
  runs_merged j lo mid hi doubles e h em eh =
      let l : lo ≡ (j + j) * w = omega arith in
      let top : mid ≤ length keys = omega (arith, em) in
      ap₂ (merge (key_before keys)) (run_is (j + j) lo mid l (omega (arith, em)) top em) (run_after (j + j) lo mid hi l em eh (eq-or-lt_of_le top))
      ∙ sym (ranking-append (key_before keys) (falling (λ (i : ℕ). get_or keys i nan) doubles) (up_to lo mid) (up_to mid hi))
      ∙ ap (ranking (key_before keys)) (tabulate_join place_in lo mid hi (omega (arith, em)) (omega (arith, em, eh)))

module _ (keys : List Float) where
  -- run j written behind the runs before it
  pub runs_more : (w j lo hi : ℕ) {M : List ℕ} {d l l' : List ℕ} → lo ≡ j * w → lo < length keys → hi ≡ min (length keys) (lo + w)
      → M ≡ ranking (key_before keys) (up_to lo hi) → Filled 0 (by_rows (ranked_run keys w) w) lo d l → Filled lo (from 0 M 0) (hi - lo) l l'
      → Filled 0 (by_rows (ranked_run keys w) w) hi d l'
  unfolding ranked_run
  runs_more w j lo hi {M} e h eh m below run =
      filled_to
      (filled_join below run (sym (zero-add lo))
      (λ r b.
      ap (λ (x : ℕ). by_rows (ranked_run keys w) w (x + r)) e
      ∙ by_row (ranked_run keys w) w j r (omega (arith, eh))
      ∙ ap₂ (λ (x y : ℕ). get_or (ranking (key_before keys) (up_to x y)) r 0) (sym e) (sym (eh ∙ ap (λ (x : ℕ). min (length keys) (x + w)) e))
      ∙ ap (λ (x : List ℕ). get_or x r 0) (sym m)
      ∙ sym (from_zero M 0 r)))
      (omega (arith, eh))

  -- places as they stand are runs of one
  pub runs_of_one : {d l : List ℕ} → Filled 0 place_in (length keys) d l → Filled 0 (by_rows (ranked_run keys 1) 1) (length keys) d l
  unfolding ranked_run ranking insert tabulate values
  runs_of_one all =
      filled_same (by_rows (ranked_run keys 1) 1) all
      (λ i h.
      let k : i ≡ i * 1 + 0 = omega arith in
      let a : i * 1 ≡ i = omega arith in
      let b : min (length keys) (i * 1 + 1) - i * 1 ≡ 1 = omega (arith, h) in
      sym (ap (by_rows (ranked_run keys 1) 1) k ∙ by_row (ranked_run keys 1) 1 i 0 (omega arith) ∙ rw (b, a) refl))

  -- as wide, said otherwise
  pub runs_width : {w w' n : ℕ} {d l : List ℕ} → w ≡ w' → Filled 0 (by_rows (ranked_run keys w) w) n d l → Filled 0 (by_rows (ranked_run keys w') w') n d l
  runs_width e r = rw (← e) r

  -- a run of all places is their ranking
  pub all_ranked : (w : ℕ) {d l : List ℕ} → length keys ≤ w → Filled 0 (by_rows (ranked_run keys w) w) (length keys) d l
      → Filled 0 (from 0 (ranked_places keys) 0) (length keys) d l
  unfolding ranked_run ranked_places
  all_ranked w h runs =
      filled_same (from 0 (ranked_places keys) 0) runs
      (λ r b.
      let k : r ≡ 0 * w + r = omega arith in
      let a : 0 * w ≡ 0 = omega arith in
      let e : min (length keys) (0 * w + w) ≡ length keys = omega (arith, h) in
      ap (by_rows (ranked_run keys w) w) k
      ∙ by_row (ranked_run keys w) w 0 r (omega arith)
      ∙ ap₂ (λ (x y : ℕ). get_or (ranking (key_before keys) (up_to x y)) r 0) a e
      ∙ sym (from_zero (ranked_places keys) 0 r))
