-- What the passes of an accepted call make of the working list and the output. Assumes nothing.
use Rattle.std.specs.Prelude.{◌≡◌, List, ℕ, ◌+◌, ◌*◌, ◌≤◌, ◌<◌, length, get_or, drop, Float}
use Rattle.std.proofs.Common.{ap, ◌∙◌, arith}
use Rattle.std.specs.Float.{nan}
use Rattle.storage.specs.Filled.{Filled}
use Rattle.storage.specs.Rectangle.{by_rows, by_rows_at}

-- number j of point i is F i j in the output o', which was o; of the working list w, which is w' afterwards, its front alone is used
pub record Made (F : ℕ → ℕ → Float) (numbers front points : ℕ) (w w' o o' : List Float) : Type 0 where
  pub values : Filled 0 (by_rows F numbers) (points * numbers) o o'
  pub rest : drop front w' ≡ drop front w
  pub long : length w' ≡ length w

-- the numbers of a list of one point
pub made_one : {F : ℕ → ℕ → Float} {numbers front : ℕ} {w w' o o' : List Float} → Made F numbers front 1 w w' o o' → numbers ≤ length o
    → (j : ℕ) → j < numbers → get_or o' j nan ≡ F 0 j
made_one {F} {numbers} {o' = o'} made room j h =
    let e : j ≡ 0 * numbers + j = omega arith in
    ap (λ (i : ℕ). get_or o' i nan) e ∙ by_rows_at F numbers 0 j nan made.values h (omega arith) (omega arith)
