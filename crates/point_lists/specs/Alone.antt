-- One point of many as a call by itself: its cosines and sines as a list of their own, and its checks. Assumes nothing.
use Rattle.std.specs.Prelude.{◌≡◌, List, ℕ, ◌+◌, ◌*◌, ◌≤◌, ◌<◌, length, get_or, take, drop, Float, Ok}
use Rattle.std.proofs.Common.{ap, ◌∙◌, mul-le-mul_right, arith, length-drop, length-take-le, get_or-take, get_or-drop}
use Rattle.std.specs.Float.{nan}
use Rattle.storage.specs.Checks.{tables_done}
use Rattle.legendre.specs.Directions.{cosines, sines}
use Rattle.local.specs.Point.{point_check_of}
use Rattle.point_lists.specs.Checks.{Accepted, point_passed}

module _ (N i : ℕ) (trig : List Float) where
  -- the cosines and sines of point i, as a list of its own
  abbrev pub own_trig : List Float
  own_trig = take (N + N + 2) (drop (i * (N + N + 2)) trig)

  own : (k : ℕ) → k < N + N + 2 → get_or own_trig (0 * (N + N + 2) + k) nan ≡ get_or trig (i * (N + N + 2) + k) nan
  own k h =
      let e : 0 * (N + N + 2) + k ≡ k = omega arith in
      ap (λ (j : ℕ). get_or own_trig j nan) e
      ∙ get_or-take (N + N + 2) (drop (i * (N + N + 2)) trig) k nan h
      ∙ get_or-drop (i * (N + N + 2)) trig k nan

  pub own_cosine : (m : ℕ) → m ≤ N → cosines own_trig N 0 m ≡ cosines trig N i m
  unfolding cosines
  own_cosine m h = own (m + m) (omega arith)

  pub own_sine : (m : ℕ) → m ≤ N → sines own_trig N 0 m ≡ sines trig N i m
  unfolding sines
  own_sine m h = own (m + m + 1) (omega arith)

  -- where the checks of many points are passed, so are those of each point by itself
  pub own_passed : (k numbers clen slen points radii lats work out : ℕ) → Accepted k numbers N clen slen points radii lats (length trig) work out
      → i < points → Ok tt ≡ point_check_of k N clen slen (length own_trig) work
  own_passed k numbers clen slen points radii lats work out a h =
      let M = N + N + 2 in
      let up = mul-le-mul_right M h in
      let behind = length-drop (i * M) trig in
      let long = length-take-le M (drop (i * M) trig) (omega (arith, up, behind, a.orders)) in
      let tables = tables_done N clen slen a.tables.top a.tables.c a.tables.s in
      point_passed k N clen slen (length own_trig) work tables long a.room_work
